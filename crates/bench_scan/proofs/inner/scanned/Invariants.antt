use Rattle.std.proofs.Common.{◌≡◌, ◌≤◌, length, get_or, Some}
use Rattle.law.specs.Loop.{over}
use Rattle.bench_scan.specs.Scan.{State, state_to, count_of}
use Rattle.bench_scan.specs.declared.inner.Stand.TheVariants.{Gap}
use Rattle.bench_scan.proofs.inner.scanned.Given as goal

abbrev pub invariant-loop-b : goal.invariant-loop-b
invariant-loop-b l = (count_of (Some l.s) ≤ l.b-index) × (length l.room ≡ length l.initial.room)
    × (◌≡◌ {A = State} (Some l.s, l.room) (over (λ k. state_to l.from (get_or l.text k 0)) 0 l.b-index (Some (Gap 0), l.initial.room)))
