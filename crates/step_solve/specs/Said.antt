-- WHAT THE STEP'S CALLS SAY: 0 for the direct route; otherwise the iteration's outcome; of the
-- factor, 1 for a failure with its row and pivot and 2 for the iterative route.
use Rattle.std.specs.Prelude.{[], ◌∷◌, Result, Ok, Err}
use Rattle.law.specs.Number.{number}
use Rattle.law.specs.declared.refusal.Refusal.{Refusal}
use Rattle.law.specs.Said.{Said, refused, carries}
use Rattle.gradient_definition.specs.Solve.{number_of, count_of, values_of}
use Rattle.step_solve.specs.declared.Marked.{Marked}
use Rattle.step_solve.specs.declared.Marked.TheVariants as marked
use Rattle.step_solve.specs.declared.Stepped.{Stepped}
use Rattle.step_solve.specs.declared.Stepped.TheVariants as stepped

abbrev pub marked_said : Result Marked Refusal → Said
marked_said (Err k) = refused (number k)
marked_said (Ok marked.Direct) = carries 0 [] []
marked_said (Ok (marked.Failed row pivot)) = carries 1 (row ∷ []) (pivot ∷ [])
marked_said (Ok marked.Iterative) = carries 2 [] []

abbrev pub stepped_said : Result Stepped Refusal → Said
stepped_said (Err k) = refused (number k)
stepped_said (Ok stepped.Direct) = carries 0 [] []
stepped_said (Ok (stepped.Iterated o)) = carries (number_of o) (count_of o ∷ []) (values_of o)
