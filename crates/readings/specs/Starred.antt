-- THE STARRED READINGS of RULES.md § 11, in its order and with its numbers, as one statement about what the public calls come to.
-- `outcome door i` is what a call handed i answers and leaves: its promise is that it comes to just this. Every list is as long as the
-- call needs. What a call writes has sevens before it, but for x in the conjugate gradient's readings, which give it.
use Rattle.std.specs.Prelude.{ℕ, ◌+◌, ◌*◌, ◌≡◌, List, [], ◌∷◌, map, length, replicate, pos, Float, Result, Ok, Err}
use Rattle.std.specs.Float.{binary32}
use Rattle.std.specs.Float.Ieee.{of_int, neg}
use Rattle.law.specs.Promise.{outcome}
use Rattle.law.specs.Said as says
use Rattle.order_definition.specs.Order.{numbers, least, degree, neighbours, start_after}
use Rattle.law.specs.declared.refusal.Refusal.{Refusal}
use Rattle.law.specs.declared.refusal.Refusal.TheVariants.{OutOfRange}
use Rattle.matrix_shape.specs.Shape.{Shape, shape}
use Rattle.matrix_building.specs.Building as building
use Rattle.matrix_building.specs.FromPairs as frompairs
use Rattle.plan_make.specs.Plan.{four}
use Rattle.plan_make.specs.Parts.{five}
use Rattle.plan_doors.specs.Planning as planning
use Rattle.plan_fits.specs.Layout.{Layout, layout}
use Rattle.factor_make.specs.Factored.{failed}
use Rattle.factor_doors.specs.Factorizing as factorizing
use Rattle.factor_doors.specs.Solving as substituting
use Rattle.gradient_definition.specs.declared.Outcome.{Outcome}
use Rattle.gradient_definition.specs.declared.Outcome.TheVariants.{Converged, Curvature, Limit}
use Rattle.gradient_doors.specs.Updating as updating
use Rattle.gradient_doors.specs.Solving as iterating

-- whole numbers as f32
abbrev f32 : ℕ → Float
f32 k = of_int binary32 (pos k)

abbrev f32s : List ℕ → List Float
f32s l = map f32 l

abbrev sevens : ℕ → List ℕ
sevens k = replicate k 7

-- a pair, and the list of numbers that a call is handed for a list of pairs
abbrev Pair : Type 0
Pair = ℕ × ℕ

abbrev flat : List Pair → List ℕ
flat [] = []
flat (p ∷ l) = p.0 ∷ p.1 ∷ flat l

-- ---- the calls

-- `from_pairs` of n particles and these pairs; and what it leaves: its answer, row starts,
-- columns, diagonals, then zeros in so many work places and so many block values
abbrev from_pairs : ℕ → List Pair → frompairs.Out
from_pairs n l =
    let count = length l in
    outcome frompairs.door (frompairs.given (building.given n count (flat l) (sevens (n + 1)) (sevens (n + 2 * count)) (sevens n)
    (sevens (2 * count))) (f32s (sevens (4 * (n + 2 * count)))))

abbrev pattern : Result ℕ Refusal → List ℕ → List ℕ → List ℕ → List ℕ → List Float → frompairs.Out
pattern answer starts cols diagonals work blocks = frompairs.left (building.left answer starts cols diagonals work) blocks

-- the shape of that pattern
abbrev shape_of : ℕ → List Pair → Shape
shape_of n l = let p = (from_pairs n l).pattern in shape n p.row_offsets p.cols p.diagonal

-- `plan` of the pattern that `from_pairs` leaves; and what it leaves: the envelope's length,
-- order, inverse, first columns and row starts, and zeros in the five work lists
abbrev plan : ℕ → List Pair → planning.Out
plan n l =
    outcome planning.door (planning.given (shape_of n l)
    (four (sevens n) (sevens n) (sevens (2 * n)) (sevens (2 * n + 1))) (five (sevens n) (sevens n) (sevens n) (sevens n) (sevens n)))

abbrev envelope : ℕ → ℕ → List ℕ → List ℕ → List ℕ → List ℕ → planning.Out
envelope len n order inverse first starts =
    let none : List ℕ = replicate n 0 in
    planning.left (Ok len) (four order inverse first starts) (five none none none none none)

-- its lists
abbrev layout_of : ℕ → List Pair → Layout
layout_of n l = let q = (plan n l).plan in layout q.order q.inverse q.first q.rows

-- `factorize` of one particle's block, and `solve` with the factor that it leaves
abbrev factorize : List ℕ → factorizing.Out
factorize block =
    outcome factorizing.door (factorizing.given (shape_of 1 []) (f32s block) (layout_of 1 []) (f32s (sevens 3)))

abbrev solve : List ℕ → List ℕ → substituting.Out
solve block b =
    outcome substituting.door (substituting.given 1 (layout_of 1 []) (factorize block).values (f32s b) (f32s (sevens 2)) (f32s (sevens 2)))

-- the conjugate gradient of one particle's block, with the preconditioner that `update_preconditioner` makes of it,
-- from x = 0 with tolerance 0; and what it leaves: its outcome, x, and zeros in the four work buffers
abbrev gradient : List Float → List ℕ → ℕ → iterating.Out
gradient block b limit =
    let inverse = (outcome updating.door (updating.given (shape_of 1 []) block (f32s (sevens 4)))).preconditioner in
    let any = f32s (sevens 2) in
    outcome iterating.door (iterating.given (shape_of 1 []) block inverse (f32s b) (f32 0) limit (f32s (0 ∷ 0 ∷ [])) any
    any any any)

abbrev ended : Outcome → List ℕ → iterating.Out
ended how x =
    let none = f32s (0 ∷ 0 ∷ []) in
    iterating.left (Ok how) (f32s x) none none none none

abbrev identity : List Float
identity = f32s (1 ∷ 0 ∷ 0 ∷ 1 ∷ [])

abbrev minus_identity : List Float
minus_identity = neg (f32 1) ∷ f32 0 ∷ f32 0 ∷ neg (f32 1) ∷ []

-- ---- the five pairs of the reading with six particles
abbrev five_pairs : List Pair
five_pairs = (1, 2) ∷ (2, 3) ∷ (3, 4) ∷ (4, 5) ∷ (0, 3) ∷ []

-- their graph
abbrev graph : ℕ → List ℕ
graph = let p = (from_pairs 6 five_pairs).pattern in neighbours p.row_offsets p.cols

pub record Starred : Type 0 where
  -- n=0: empty order, envelope 0
  pub none : plan 0 [] ≡ envelope 0 0 [] [] [] (0 ∷ [])
  -- n=1: order 0, row starts 0 1 3
  pub one : plan 1 [] ≡ envelope 3 1 (0 ∷ []) (0 ∷ []) (0 ∷ 0 ∷ []) (0 ∷ 1 ∷ 3 ∷ [])
  -- n=3, pairs 0-1, 1-2: order 2 1 0, row starts 0 1 3 6 10 13 17
  pub three : plan 3 ((0, 1) ∷ (1, 2) ∷ []) ≡ envelope 17 3 (2 ∷ 1 ∷ 0 ∷ []) (2 ∷ 1 ∷ 0 ∷ []) (0 ∷ 0 ∷ 0 ∷ 0 ∷ 2 ∷ 2 ∷ []) (0 ∷ 1 ∷ 3 ∷ 6 ∷ 10 ∷ 13 ∷ 17 ∷ [])
  -- n=4, pair 0-2: order 2 0 3 1, envelope 16
  pub four : plan 4 ((0, 2) ∷ []) ≡ envelope 16 4 (2 ∷ 0 ∷ 3 ∷ 1 ∷ []) (1 ∷ 3 ∷ 0 ∷ 2 ∷ []) (0 ∷ 0 ∷ 0 ∷ 0 ∷ 4 ∷ 4 ∷ 6 ∷ 6 ∷ []) (0 ∷ 1 ∷ 3 ∷ 6 ∷ 10
      ∷ 11 ∷ 13 ∷ 14 ∷ 16 ∷ [])
  -- n=6, pairs 1-2, 2-3, 3-4, 4-5, 0-3: start moves from 0, the particle of least (degree, index), to 1; order 5 4 0 3 2 1, envelope 38
  pub from : least 6 (degree graph) (numbers 6) ≡ 0
  pub to : start_after graph 6 [] ≡ 1
  pub six : plan 6 five_pairs ≡ envelope 38 6 (5 ∷ 4 ∷ 0 ∷ 3 ∷ 2 ∷ 1 ∷ []) (2 ∷ 5 ∷ 4 ∷ 3 ∷ 1 ∷ 0 ∷ []) (0 ∷ 0 ∷ 0 ∷ 0 ∷ 4 ∷ 4 ∷ 2 ∷ 2 ∷ 6 ∷ 6 ∷ 8 ∷ 8
      ∷ []) (0 ∷ 1 ∷ 3 ∷ 6 ∷ 10 ∷ 11 ∷ 13 ∷ 18 ∷ 24 ∷ 27 ∷ 31 ∷ 34 ∷ 38 ∷ [])
  -- n=2, pairs 0-1, 1-0, 0-1, 1-1: starts 0 2 4, columns 0 1 0 1, diagonals 0 3; past the four blocks zeros
  pub repeats : from_pairs 2 ((0, 1) ∷ (1, 0) ∷ (0, 1) ∷ (1, 1) ∷ []) ≡ pattern (Ok 4) (0 ∷ 2 ∷ 4 ∷ []) (0 ∷ 1 ∷ 0 ∷ 1 ∷ 0 ∷ 0 ∷ 0 ∷ 0 ∷ 0 ∷ 0
      ∷ []) (0 ∷ 3 ∷ []) (replicate 8 0) (replicate 40 (f32 0))
  -- pair 9-9 alone is ignored: the pattern of two particles and no pair
  pub ignored : from_pairs 2 ((9, 9) ∷ []) ≡ pattern (Ok 2) (0 ∷ 1 ∷ 2 ∷ []) (0 ∷ 1 ∷ 0 ∷ 0 ∷ []) (0 ∷ 1 ∷ []) (0 ∷ 0 ∷ []) (replicate 16 (f32 0))
  -- pair 0-2 is refusal 4, and every list stays as it was
  pub refused : from_pairs 2 ((0, 2) ∷ []) ≡ pattern (Err OutOfRange) (sevens 3) (sevens 4) (sevens 2) (sevens 2) (replicate 16 (f32 7))
  -- block (4,2),(2,10): factor 2, 1, 3; b = (6,12) gives (1,1)
  pub factor : factorize (4 ∷ 2 ∷ 2 ∷ 10 ∷ []) ≡ factorizing.left (Ok (Ok tt)) (f32s (2 ∷ 1 ∷ 3 ∷ []))
  pub gives : solve (4 ∷ 2 ∷ 2 ∷ 10 ∷ []) (6 ∷ 12 ∷ []) ≡ substituting.left (Ok tt) (f32s (1 ∷ 1 ∷ [])) (f32s (0 ∷ 0 ∷ []))
  -- block (1,2),(2,4): fails at row 1, pivot 0, leaving 1, 2, 4
  pub fails : factorize (1 ∷ 2 ∷ 2 ∷ 4 ∷ []) ≡ factorizing.left (Ok (Err (failed 1 (f32 0)))) (f32s (1 ∷ 2 ∷ 4 ∷ []))
  -- identity, b=(3,4), x=0, tolerance 0, limit 1: Converged, count 1
  pub converged : gradient identity (3 ∷ 4 ∷ []) 1 ≡ ended (Converged 1 (f32 0)) (3 ∷ 4 ∷ [])
  -- limit 0: Limit, count 0, x zero
  pub limit : gradient identity (3 ∷ 4 ∷ []) 0 ≡ ended (Limit 0 (f32 25)) (0 ∷ 0 ∷ [])
  -- minus identity, b=(1,0), x=0, tolerance 0, limit 5: Curvature, count 0, denominator −1
  pub curvature : gradient minus_identity (1 ∷ 0 ∷ []) 5 ≡ ended (Curvature 0 (f32 1) (neg (f32 1))) (0 ∷ 0 ∷ [])
  -- and what the answers say: the envelope's length, the number of blocks, a refusal's
  -- number, a failure's row and pivot, an outcome's number, count and floats
  pub six_says : (plan 6 five_pairs).said ≡ says.carries 0 (38 ∷ []) []
  pub repeats_say : (from_pairs 2 ((0, 1) ∷ (1, 0) ∷ (0, 1) ∷ (1, 1) ∷ [])).pattern.said ≡ says.carries 0 (4 ∷ []) []
  pub refused_says : (from_pairs 2 ((0, 2) ∷ [])).pattern.said ≡ says.refused 4
  pub factor_says : (factorize (4 ∷ 2 ∷ 2 ∷ 10 ∷ [])).said ≡ says.carries 0 [] []
  pub fails_says : (factorize (1 ∷ 2 ∷ 2 ∷ 4 ∷ [])).said ≡ says.carries 1 (1 ∷ []) (f32 0 ∷ [])
  pub converged_says : (gradient identity (3 ∷ 4 ∷ []) 1).said ≡ says.carries 3 (1 ∷ []) (f32 0 ∷ [])
  pub limit_says : (gradient identity (3 ∷ 4 ∷ []) 0).said ≡ says.carries 5 (0 ∷ []) (f32 25 ∷ [])
  pub curvature_says : (gradient minus_identity (1 ∷ 0 ∷ []) 5).said ≡ says.carries 4 (0 ∷ []) (f32 1 ∷ neg (f32 1) ∷ [])
