-- THE TRACE OF THE PUBLIC CALL `solve`. It was handed i and came to o: o.answer is what it answered, o.x the caller's x as it then stands.
use Rattle.std.specs.Prelude.{◌*◌, ◌≡◌, List, [], ◌∷◌, take, Float, Ok}
use Rattle.law.specs.Promise.{Promise}
use Rattle.law.specs.Said.{carries}
use Rattle.gradient_definition.specs.declared.Outcome.{Outcome}
use Rattle.gradient_definition.specs.Vectors.{product, preconditioned}
use Rattle.gradient_definition.specs.Solve.{ended, number_of, count_of, values_of}
use Rattle.gradient_doors.specs.Solving.{In, Out, over, door}
use Rattle.gradient_textbook.specs.Method.{Method}
use Rattle.gradient_textbook.specs.Trace.{Solve}

-- the method on what the caller's lists hold
abbrev pub MethodOf : In → Type 0
MethodOf i =
    Method i.n (product i.n i.row_offsets i.cols i.blocks) (preconditioned i.n i.preconditioner) i.b (take (2 * i.n) i.x)

-- what a call that answered an outcome leaves
pub record Leaves (i : In) (m : MethodOf i) (o : Out) (how : Outcome) : Type 0 where
  -- the outcome and an x are the method's, x rescaled after Curvature and Limit alone
  pub x : List Float
  pub solve : Solve m i.tolerance i.max_iterations (ended how x)
  -- that x stands in the caller's list, with the rest as it was
  pub left : o.x ≡ over i.n x i.x
  -- and the call says the outcome's number, its count and its floats
  pub said : o.said ≡ carries (number_of how) (count_of how ∷ []) (values_of how)

-- so it is after every call that answered an outcome
abbrev pub CallIsTrace : Type 0
CallIsTrace = (i : In) (m : MethodOf i) (o : Out) → Promise door i o → (how : Outcome) → o.answer ≡ Ok how → Leaves i m o how
