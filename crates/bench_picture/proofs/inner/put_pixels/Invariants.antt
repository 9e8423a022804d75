use Prim.Native.Nat.{◌-◌, ◌≤◌}
use mathlib.Core.Path.{◌≡◌}
use lib.ListN.{length}
use Rattle.law.specs.Gather.{table}
use Rattle.law.specs.Store.{written}
use Rattle.bench_picture.specs.Pixels.{pixel, digit}
use Rattle.bench_picture.specs.Drawing.{scene_of}
use Rattle.bench_picture.proofs.inner.put_pixels.Given as goal

abbrev pub invariant-loop-k : goal.invariant-loop-k
invariant-loop-k l = (l.k ≤ l.wide) × (length l.out ≡ length l.initial.out)
    × (l.out ≡ written l.initial.out 0 (table (λ k. digit (pixel (scene_of l.drawing) l.i k)) l.k))

abbrev pub decreases-loop-k : goal.decreases-loop-k
decreases-loop-k l = l.wide - l.k
