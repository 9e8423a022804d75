-- WHAT COMPUTED COLUMNS SAY: how many of the solves ended in each way, in the tally's order.
use Rattle.std.specs.Prelude.{[], ◌∷◌, Result, Ok, Err}
use Rattle.law.specs.declared.refusal.Refusal.{Refusal}
use Rattle.law.specs.Number.{number}
use Rattle.law.specs.Said.{Said, refused, carries}
use Rattle.columns_make.specs.declared.Ended.{Ended}

abbrev pub computed_said : Result Ended Refusal → Said
computed_said (Err k) = refused (number k)
computed_said (Ok e) = carries 0 (e.direct ∷ e.zero ∷ e.near ∷ e.converged ∷ e.curvature ∷ e.limit ∷ []) []
