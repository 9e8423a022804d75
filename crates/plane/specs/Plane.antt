-- PLANE NUMBERS (rules, module 1): arithmetic on vectors of two numbers and blocks of two columns, over IEEE 754's operations, none of them fused.
use Rattle.std.specs.Prelude.{List, [], ◌∷◌, Bool, true, false, ◌&&◌, get_or, Float}
use Rattle.std.specs.Float.{nan, inf, fin, binary32}
use Rattle.std.specs.Float.Ieee.{of_bits}
use Rattle.std.specs.Float.Ieee as Ieee

-- the operations on f32
abbrev pub ◌⊕◌ : Float → Float → Float
a ⊕ b = Ieee.add binary32 a b

abbrev pub ◌⊖◌ : Float → Float → Float
a ⊖ b = Ieee.sub binary32 a b

abbrev pub ◌⊗◌ : Float → Float → Float
a ⊗ b = Ieee.mul binary32 a b

abbrev pub ◌⊘◌ : Float → Float → Float
a ⊘ b = Ieee.div binary32 a b

infixl 65 ◌⊕◌
infixl 65 ◌⊖◌
infixl 70 ◌⊗◌
infixl 70 ◌⊘◌
-- +0.0 and 1.0
abbrev pub zero32 : Float
zero32 = of_bits binary32 0

abbrev pub one32 : Float
one32 = of_bits binary32 0x3f80_0000

-- a vector, its two components; a block, its two columns
abbrev pub Vector : Type 0
Vector = List Float

abbrev pub Block : Type 0
Block = List Vector

abbrev pub pair : {A : Type 0} → A → A → List A
pair a b = a ∷ b ∷ []

abbrev pub x : Vector → Float
x v = get_or v 0 nan

abbrev pub y : Vector → Float
y v = get_or v 1 nan

abbrev pub c0 : Block → Vector
c0 m = get_or m 0 []

abbrev pub c1 : Block → Vector
c1 m = get_or m 1 []

abbrev pub zero_of : Vector
zero_of = pair zero32 zero32

-- ---- the operations

abbrev pub add_of : Vector → Vector → Vector
add_of u v = pair (x u ⊕ x v) (y u ⊕ y v)

abbrev pub sub_of : Vector → Vector → Vector
sub_of u v = pair (x u ⊖ x v) (y u ⊖ y v)

abbrev pub scale_of : Vector → Float → Vector
scale_of v k = pair (x v ⊗ k) (y v ⊗ k)

abbrev pub dot_of : Vector → Vector → Float
dot_of u v = x u ⊗ x v ⊕ y u ⊗ y v

-- per component, column 0's part plus column 1's part
abbrev pub times_of : Block → Vector → Vector
times_of m v = pair (x (c0 m) ⊗ x v ⊕ x (c1 m) ⊗ y v) (y (c0 m) ⊗ x v ⊕ y (c1 m) ⊗ y v)

abbrev pub determinant_of : Block → Float
determinant_of m = x (c0 m) ⊗ y (c1 m) ⊖ x (c1 m) ⊗ y (c0 m)

-- the inverse, r being 1 over the determinant
abbrev pub inverse_by : Float → Block → Block
inverse_by r m = pair (pair (y (c1 m) ⊗ r) (y (c0 m) ⊗ Ieee.neg r)) (pair (x (c1 m) ⊗ Ieee.neg r) (x (c0 m) ⊗ r))

abbrev pub inverse_of : Block → Block
inverse_of m = inverse_by (one32 ⊘ determinant_of m) m

-- neither an infinity nor a NaN
abbrev pub finite : Float → Bool
finite nan = false
finite (inf s) = false
finite (fin s m e) = true

abbrev pub block_finite : Block → Bool
block_finite m = ((finite (x (c0 m)) && finite (y (c0 m))) && finite (x (c1 m))) && finite (y (c1 m))
