-- FROM A PATTERN TO ITS PLAN, in lists that are longer: what stands at their fronts is what the pairs come to.
use Prim.Native.Nat.{ℕ, ◌*◌}
use Rattle.std.specs.Prelude.{cond}
use mathlib.Core.List.{List, ◌++◌}
use Rattle.std.proofs.Math.Dec.{leb}
use Rattle.std.proofs.Math.ListN.{drop}
use Rattle.law.specs.Limit.{envelope}
use Rattle.plan_make.specs.Plan.{plan_of, envelope_length}

-- ---- planning, of which order and first columns are kept

-- the envelope's length, and the two lists where the envelope fits
unfoldable pub plan_to : ℕ → List ℕ → List ℕ → List ℕ → List ℕ → ℕ × (List ℕ × List ℕ)
plan_to n s c o f =
    let p = plan_of n s c in
    (envelope_length n s c, cond (leb (envelope_length n s c) envelope) (p.order ++ drop n o, p.first ++ drop (2 * n) f) (o, f))
