-- THE CONJUGATE GRADIENT (rules, module 5), executable. A is the matrix and P the preconditioner, each a function on vectors of 2 * n floats. One
-- turn; the run, by the turns that are left; the finish apart from it, which alone rescales; and the start, with the residual worked out afresh.
use Rattle.std.specs.Prelude.{ℕ, zero, suc, ◌+◌, ◌*◌, ◌≤◌, ◌≡◌, cond, List, [], ◌∷◌, length, Float}
use Rattle.std.specs.Float.Ieee.{lt, le, eq, ne}
use Rattle.plane.specs.Plane.{◌⊗◌, ◌⊘◌, zero32, one32}
use Rattle.vectors.specs.Whole.{dot_all}
use Rattle.gradient_definition.specs.declared.Turned.{Turned}
use Rattle.gradient_definition.specs.declared.Turned.TheVariants.{Bent, Done, Onward}
use Rattle.gradient_definition.specs.declared.Outcome.{Outcome}
use Rattle.gradient_definition.specs.declared.Outcome.TheVariants.{Zero, Near, Converged, Curvature, Limit}
use Rattle.gradient_definition.specs.Vectors.{Map, advanced, retreated, redirected, lacking, scaled, zeros}

-- ---- each outcome's number and values (RULES.md, module 5)

-- its place among the tally's counts: direct is 0, refused is 6
abbrev pub number_of : Outcome → ℕ
number_of (Zero count) = 1
number_of (Near count residual) = 2
number_of (Converged count residual) = 3
number_of (Curvature count residual denominator) = 4
number_of (Limit count residual) = 5

abbrev pub count_of : Outcome → ℕ
count_of (Zero count) = count
count_of (Near count residual) = count
count_of (Converged count residual) = count
count_of (Curvature count residual denominator) = count
count_of (Limit count residual) = count

-- the squared length of the running residual, and for Curvature its denominator
abbrev pub values_of : Outcome → List Float
values_of (Zero count) = []
values_of (Near count residual) = residual ∷ []
values_of (Converged count residual) = residual ∷ []
values_of (Curvature count residual denominator) = residual ∷ denominator ∷ []
values_of (Limit count residual) = residual ∷ []

-- ---- what a turn starts from and leaves, and how a run ended

-- x, the residual, the direction, and the residual times the preconditioned residual
pub record State : Type 0 where
  pub x : List Float
  pub residual : List Float
  pub direction : List Float
  pub rz : Float

abbrev pub state : List Float → List Float → List Float → Float → State
state x residual direction rz = record { x = x; residual = residual; direction = direction; rz = rz }

pub record After : Type 0 where
  pub how : Turned
  pub x : List Float
  pub residual : List Float
  pub direction : List Float

abbrev pub after : Turned → List Float → List Float → List Float → After
after t x residual direction = record { how = t; x = x; residual = residual; direction = direction }

pub record Ended : Type 0 where
  pub how : Outcome
  pub x : List Float

abbrev pub ended : Outcome → List Float → Ended
ended o x = record { how = o; x = x }

-- ---- ONE TURN

unfoldable pub turn : ℕ → Map → Map → Float → State → After
turn n A P threshold s =
    let ad = A s.direction in
    let den = dot_all n s.direction ad in
    let alpha = s.rz ⊘ den in
    let x = advanced n alpha s.direction s.x in
    let r = retreated n alpha ad s.residual in
    let norm = dot_all n r r in
    let z = P r in
    let rz = dot_all n r z in
    cond (lt zero32 den)
    (cond (le norm threshold) (after (Done norm) x r s.direction) (after (Onward norm rz) x r (redirected n (rz ⊘ s.rz) z s.direction)))
    (after (Bent den) s.x s.residual s.direction)

-- where a turn leads: to an end, or on. norm is the residual's squared length before the turn, count the turns before it
abbrev pub onward : Turned → ℕ → Float → After → (Float → State → Ended) → Ended
onward (Bent den) count norm a more = ended (Curvature count norm den) a.x
onward (Done last) count norm a more = ended (Converged (count + 1) last) a.x
onward (Onward next rz) count norm a more = more next (state a.x a.residual a.direction rz)

-- ---- THE RUN, by the number of turns that are left

unfoldable pub run : ℕ → Map → Map → Float → ℕ → ℕ → Float → State → Ended
run n A P threshold zero count norm s = ended (Limit count norm) s.x
run n A P threshold (suc left) count norm s =
    let a = turn n A P threshold s in
    onward a.how count norm a (λ next t. run n A P threshold left (count + 1) next t)

-- ---- THE FINISH: only Curvature and Limit rescale

-- into 0..1, where NaN and -0.0 stay
abbrev pub clamp_of : Float → Float
clamp_of a = cond (lt a zero32) zero32 (cond (lt one32 a) one32 a)

unfoldable pub rescaled : ℕ → Map → List Float → List Float → List Float
rescaled n A b x =
    let den = dot_all n x (A x) in
    let alpha = clamp_of (dot_all n b x ⊘ den) in
    cond (le den zero32) (zeros n) (cond (ne alpha one32) (scaled n alpha x) x)

-- short is x rescaled
abbrev pub finish_by : Outcome → List Float → List Float → Ended
finish_by (Zero count) short x = ended (Zero count) x
finish_by (Near count residual) short x = ended (Near count residual) x
finish_by (Converged count residual) short x = ended (Converged count residual) x
finish_by (Curvature count residual denominator) short x = ended (Curvature count residual denominator) short
finish_by (Limit count residual) short x = ended (Limit count residual) short

unfoldable pub finished : ℕ → Map → List Float → Ended → Ended
finished n A b e = finish_by e.how (rescaled n A b e.x) e.x

-- ---- THE START, from a b whose squared length isn't 0

-- the residual b - A x, worked out afresh
unfoldable pub fresh_of : ℕ → Map → List Float → List Float → List Float
fresh_of n A b x = lacking n b (A x)

-- the run from the residual r, of squared length norm, and its finish
unfoldable pub launched : ℕ → Map → Map → List Float → Float → ℕ → Float → List Float → List Float → Ended
launched n A P b threshold limit norm x r =
    let z = P r in
    finished n A b (run n A P threshold limit 0 norm (state x r z (dot_all n r z)))

unfoldable pub started : ℕ → Map → Map → List Float → Float → ℕ → List Float → Ended
started n A P b threshold limit x =
    let r = fresh_of n A b x in
    let norm = dot_all n r r in
    cond (le norm threshold) (ended (Near 0 norm) x) (launched n A P b threshold limit norm x r)

-- ---- THE SOLVE

unfoldable pub solved : ℕ → Map → Map → List Float → Float → ℕ → List Float → Ended
solved n A P b tolerance limit x =
    let b2 = dot_all n b b in
    cond (eq b2 zero32) (ended (Zero 0) (zeros n)) (started n A P b (tolerance ⊗ tolerance ⊗ b2) limit x)

-- ---- the buffers' sizes

pub record Sized (n : ℕ) (preconditioner x residual direction a_direction z : List Float) : Type 0 where
  pub preconditioner_has : 4 * n ≤ length preconditioner
  pub x_is : length x ≡ 2 * n
  pub residual_is : length residual ≡ 2 * n
  pub direction_is : length direction ≡ 2 * n
  pub a_direction_is : length a_direction ≡ 2 * n
  pub z_is : length z ≡ 2 * n
