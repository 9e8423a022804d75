-- WHAT `update_preconditioner` IS HANDED, and the refusals of it.
use Rattle.std.specs.Prelude.{ℕ, ◌*◌, true, List, [], ◌∷◌, length, leb, Float}
use Rattle.std.proofs.Common.{arith}
use Rattle.law.specs.Limit.{particles}
use Rattle.law.specs.declared.refusal.Refusal.TheVariants.{TooManyParticles, ShortBuffer, BadPattern}
use Rattle.law.specs.Room.{Room, enough}
use Rattle.law.specs.Refusal.{Test, unless, Rising}
use Rattle.matrix_shape.specs.Rows.{at}
use Rattle.matrix_shape.specs.Given.{pattern_room, formed}
use Rattle.matrix_shape.specs.Shape.{Shape}

pub record In : Type 0 where
  pub n : ℕ
  pub row_offsets : List ℕ
  pub cols : List ℕ
  pub diagonal : List ℕ
  pub blocks : List Float
  pub preconditioner : List Float

abbrev pub given : Shape → List Float → List Float → In
given p blocks preconditioner = record {
  n = p.n;
  row_offsets = p.row_offsets;
  cols = p.cols;
  diagonal = p.diagonal;
  blocks = blocks;
  preconditioner = preconditioner;
}

-- what the values and the preconditioner need, and what they have
unfoldable pub inverses_room : ℕ → List ℕ → List Float → List Float → Room
inverses_room n starts blocks preconditioner = (4 * at starts n, length blocks) ∷ (4 * n, length preconditioner) ∷ []

-- THE REFUSALS
unfoldable pub refusals : In → List Test
refusals i =
    unless TooManyParticles (leb i.n particles)
    ∷ unless ShortBuffer (enough true (pattern_room i.n i.row_offsets i.cols i.diagonal))
    ∷ unless ShortBuffer (enough true (inverses_room i.n i.row_offsets i.blocks i.preconditioner))
    ∷ unless BadPattern (formed i.n i.row_offsets i.cols i.diagonal)
    ∷ []

pub in_order : (i : In) → Rising 1 (refusals i)
unfolding refusals
in_order i = (omega arith, (omega arith, (omega arith, (omega arith, tt))))
