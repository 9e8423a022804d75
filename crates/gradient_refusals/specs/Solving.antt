-- WHAT `solve` IS HANDED, and the refusals of it.
use Rattle.std.specs.Prelude.{ℕ, ◌*◌, true, List, [], ◌∷◌, length, leb, Float}
use Rattle.std.proofs.Common.{arith}
use Rattle.law.specs.Limit.{particles}
use Rattle.law.specs.declared.refusal.Refusal.TheVariants.{TooManyParticles, ShortBuffer, BadPattern, BadSettings}
use Rattle.law.specs.Room.{Room, enough}
use Rattle.law.specs.Refusal.{Test, unless, Rising}
use Rattle.matrix_shape.specs.Rows.{at}
use Rattle.matrix_shape.specs.Given.{pattern_room, formed}
use Rattle.matrix_shape.specs.Shape.{Shape}
use Rattle.gradient_refusals.specs.Settings.{settings_ok}

pub record In : Type 0 where
  pub n : ℕ
  pub row_offsets : List ℕ
  pub cols : List ℕ
  pub diagonal : List ℕ
  pub blocks : List Float
  pub preconditioner : List Float
  pub b : List Float
  pub tolerance : Float
  pub max_iterations : ℕ
  pub x : List Float
  pub residual : List Float
  pub direction : List Float
  pub a_direction : List Float
  pub z : List Float

abbrev pub given : Shape → List Float → List Float → List Float → Float → ℕ → List Float → List Float → List Float → List Float → List Float → In
given p blocks preconditioner b tolerance limit x residual direction a_direction z = record {
  n = p.n;
  row_offsets = p.row_offsets;
  cols = p.cols;
  diagonal = p.diagonal;
  blocks = blocks;
  preconditioner = preconditioner;
  b = b;
  tolerance = tolerance;
  max_iterations = limit;
  x = x;
  residual = residual;
  direction = direction;
  a_direction = a_direction;
  z = z;
}

-- what the values and vectors need, and what they have
unfoldable pub vectors_room : ℕ → List ℕ → List Float → List Float → List Float → List Float → List Float → List Float → List Float → List Float → Room
vectors_room n starts blocks preconditioner b x residual direction a_direction z =
    (4 * at starts n, length blocks)
    ∷ (4 * n, length preconditioner)
    ∷ (2 * n, length b)
    ∷ (2 * n, length x)
    ∷ (2 * n, length residual)
    ∷ (2 * n, length direction)
    ∷ (2 * n, length a_direction)
    ∷ (2 * n, length z)
    ∷ []

-- THE REFUSALS
unfoldable pub refusals : In → List Test
refusals i =
    unless TooManyParticles (leb i.n particles)
    ∷ unless ShortBuffer (enough true (pattern_room i.n i.row_offsets i.cols i.diagonal))
    ∷ unless ShortBuffer (enough true (vectors_room i.n i.row_offsets i.blocks i.preconditioner i.b i.x i.residual i.direction
    i.a_direction i.z))
    ∷ unless BadPattern (formed i.n i.row_offsets i.cols i.diagonal)
    ∷ unless BadSettings (settings_ok i.tolerance i.max_iterations)
    ∷ []

pub in_order : (i : In) → Rising 1 (refusals i)
unfolding refusals
in_order i = (omega arith, (omega arith, (omega arith, (omega arith, (omega arith, tt)))))
