-- THE SOLUTION OF AN AXIS: the x that one step solve leaves, whose right-hand side is zeros and the unit vector along axis k at particle p. Every
-- list that it may write has just 2n places and holds zeros, so that nothing enters but the matrix, plan, factor and settings that were handed over.
use Rattle.std.specs.Prelude.{ℕ, cond, List, [], ◌∷◌, eqb, Float}
use Rattle.law.specs.Limit.{unloaded}
use Rattle.law.specs.Gather.{gather}
use Rattle.plane.specs.Lent.{with_vector}
use Rattle.matrix_shape.specs.Rows.{at}
use Rattle.gradient_definition.specs.Vectors.{zeros}
use Rattle.step_tally.specs.Count.{Asked}
use Rattle.step_solve.specs.Stepping as S
use Rattle.step_counts.specs.Counting.{asked_of}
use Rattle.columns_make.specs.Making.{In, handed_system, axis_of}

-- zeros, and the unit vector along axis k at particle p
unfoldable pub unit_at : ℕ → ℕ → ℕ → List Float
unit_at n p k = with_vector (zeros n) p (axis_of k)

abbrev pub solve_for : In → ℕ → ℕ → S.In
solve_for i p k =
    let none = zeros i.n in
    S.given (handed_system i) (unit_at i.n p k) none none none none none none

unfoldable pub solved : In → ℕ → ℕ → S.Out
solved i p k = S.work (solve_for i p k)

-- what it leaves, and what it is counted as
abbrev pub solution : In → ℕ → ℕ → List Float
solution i p k = (solved i p k).x

abbrev pub asked_for : In → ℕ → ℕ → Asked
asked_for i p k = asked_of (solved i p k).answer

-- what a particle's columns are counted as, axis 0 before axis 1; and all of them, particle after particle, rising
unfoldable pub asked_at : In → ℕ → List Asked
asked_at i p = cond (eqb (at i.column_of p) unloaded) [] (asked_for i p 0 ∷ asked_for i p 1 ∷ [])

unfoldable pub asks : In → List Asked
asks i = gather (asked_at i) 0 i.n
