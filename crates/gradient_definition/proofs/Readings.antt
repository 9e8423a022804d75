-- Readings of the definition, computed: the outcome's number and values (RULES.md § 8), and x, floats as bit patterns. Assumes nothing.
use Prim.Native.Nat.{ℕ}
use mathlib.Core.Path.{◌≡◌, refl}
use mathlib.Core.List.{List, [], ◌∷◌, ◌++◌, map}
use lib.Ieee.{Float, binary32, of_bits, to_bits, add, sub, mul, div, neg, lt, le, eq, ne}
use Rattle.law.specs.Loop.{over, fold}
use Rattle.law.specs.Gather.{gather}
use Rattle.plane.specs.Plane.{◌⊘◌}
use Rattle.vectors.specs.Whole.{dot_all}
use Rattle.matrix_values.specs.Product.{slot_step, row_sum, product_at}
use Rattle.gradient_definition.specs.Vectors.{product, preconditioned, advanced, retreated, redirected, lacking, scaled, zeros}
use Rattle.gradient_definition.specs.Solve.{After, Ended, state, number_of, count_of, values_of}
use Rattle.gradient_definition.specs.Solve.{turn, run, clamp_of, rescaled, finished, fresh_of, launched, started, solved}
use Rattle.gradient_definition.specs.Inverse.{or_identity, inverse_at}

floats : List ℕ → List Float
floats l = map (of_bits binary32) l

bits : List Float → List ℕ
bits l = map (to_bits binary32) l

record Shown : Type 0 where
  number : ℕ
  count : ℕ
  values : List ℕ
  x : List ℕ

shown : Ended → Shown
shown e = record { number = number_of e.how; count = count_of e.how; values = bits (values_of e.how); x = bits e.x }

-- as the tests below write it
came : ℕ → ℕ → List ℕ → List ℕ → Shown
came number count values x = record { number = number; count = count; values = values; x = x }

-- one particle, its block being m and the preconditioner p
by : List ℕ → List ℕ → List ℕ → ℕ → ℕ → List ℕ → Shown
by m p b tolerance limit x =
    shown (solved 1 (product 1 (0 ∷ 1 ∷ []) (0 ∷ []) (floats m)) (preconditioned 1 (floats p)) (floats b) (of_bits binary32 tolerance) limit (floats x))

-- both being m
one : List ℕ → List ℕ → ℕ → ℕ → List ℕ → Shown
one m = by m m

eye : List ℕ
eye = 0x3f800000 ∷ 0 ∷ 0 ∷ 0x3f800000 ∷ []

anti : List ℕ
anti = 0xbf800000 ∷ 0 ∷ 0 ∷ 0xbf800000 ∷ []

-- (1, 0 | 0, 0), whose inverse isn't finite
flat : List ℕ
flat = 0x3f800000 ∷ 0 ∷ 0 ∷ 0 ∷ []

-- no turn, tolerance 0: x is only rescaled
still : List ℕ → List ℕ → List ℕ → Shown
still m b x = by m eye b 0 0 x

-- what the rescale multiplies x by
factor : List ℕ → List ℕ → List ℕ → ℕ
factor m b x =
    let v = floats x in
    to_bits binary32 (clamp_of (dot_all 1 (floats b) v ⊘ dot_all 1 v (product 1 (0 ∷ 1 ∷ []) (0 ∷ []) (floats m) v)))

-- three particles in a chain, with diagonal blocks (4, 0 | 0, 4), (4, 1 | 1, 3) and (2, 0 | 0, 2) and minus the identity between them
stiff : List ℕ
stiff =
    0x40800000 ∷ 0 ∷ 0 ∷ 0x40800000 ∷ 0xbf800000 ∷ 0 ∷ 0 ∷ 0xbf800000
    ∷ 0xbf800000 ∷ 0 ∷ 0 ∷ 0xbf800000 ∷ 0x40800000 ∷ 0x3f800000 ∷ 0x3f800000 ∷ 0x40400000 ∷ 0xbf800000 ∷ 0 ∷ 0 ∷ 0xbf800000
    ∷ 0xbf800000 ∷ 0 ∷ 0 ∷ 0xbf800000 ∷ 0x40000000 ∷ 0 ∷ 0 ∷ 0x40000000 ∷ []

-- from x = (-1, 2), (0, 1), (3, 0), with b = (1, 2), (0, -1), (3, 0)
three : ℕ → ℕ → Shown
three tolerance limit =
    shown (solved 3 (product 3 (0 ∷ 2 ∷ 5 ∷ 7 ∷ []) (0 ∷ 1 ∷ 0 ∷ 1 ∷ 2 ∷ 1 ∷ 2 ∷ []) (floats stiff))
    (preconditioned 3 (gather (inverse_at (0 ∷ 3 ∷ 6 ∷ []) (floats stiff)) 0 3))
    (floats (0x3f800000 ∷ 0x40000000 ∷ 0 ∷ 0xbf800000 ∷ 0x40400000 ∷ 0 ∷ [])) (of_bits binary32 tolerance) limit
    (floats (0xbf800000 ∷ 0x40000000 ∷ 0 ∷ 0x3f800000 ∷ 0x40400000 ∷ 0 ∷ [])))

-- the first of RULES.md § 11, one turn of it by itself
met : After
met =
    let v = floats (0x40400000 ∷ 0x40800000 ∷ []) in
    turn 1 (product 1 (0 ∷ 1 ∷ []) (0 ∷ []) (floats eye)) (preconditioned 1 (floats eye)) (of_bits binary32 0) (state (floats (0 ∷ 0 ∷ [])) v v (dot_all 1 v v))

record Readings : Type 0 where
  -- the three of RULES.md § 11: the identity, b = (3, 4), x = 0, tolerance 0; and minus the identity, b = (1, 0)
  identity : one eye (0x40400000 ∷ 0x40800000 ∷ []) 0 1 (0 ∷ 0 ∷ []) ≡ came 3 1 (0 ∷ []) (0x40400000 ∷ 0x40800000 ∷ [])
  no_turns : one eye (0x40400000 ∷ 0x40800000 ∷ []) 0 0 (0 ∷ 0 ∷ []) ≡ came 5 0 (0x41c80000 ∷ []) (0 ∷ 0 ∷ [])
  minus_identity : one anti (0x3f800000 ∷ 0 ∷ []) 0 5 (0 ∷ 0 ∷ []) ≡ came 4 0 (0x3f800000 ∷ 0xbf800000 ∷ []) (0 ∷ 0 ∷ [])
  -- the turn that converges leaves the residual that it came to, and its own direction
  met_leaves : bits (met.residual ++ met.direction) ≡ 0 ∷ 0 ∷ 0x40400000 ∷ 0x40800000 ∷ []
  -- b = (0, -0.0) is Zero, and x's junk, a NaN, is gone
  zero : one eye (0 ∷ 0x80000000 ∷ []) 0 7 (0x7fc00000 ∷ 0x40400000 ∷ []) ≡ came 1 0 [] (0 ∷ 0 ∷ [])
  -- x is b: the residual 0 is within the threshold 0, which the tolerance -0.0 makes too
  near : one eye (0x40400000 ∷ 0x40800000 ∷ []) 0x80000000 7 (0x40400000 ∷ 0x40800000 ∷ []) ≡ came 2 0 (0 ∷ []) (0x40400000 ∷ 0x40800000 ∷ [])
  -- from x = (1, 1) the squared residual is 13: the threshold 0.75 * 0.75 * 25 is above it; 0.625 * 0.625 * 25 is below, though 0.625 * 25 isn't
  near_by : one eye (0x40400000 ∷ 0x40800000 ∷ []) 0x3f400000 7 (0x3f800000 ∷ 0x3f800000 ∷ []) ≡ came 2 0 (0x41500000 ∷ []) (0x3f800000 ∷ 0x3f800000 ∷ [])
  not_near : one eye (0x40400000 ∷ 0x40800000 ∷ []) 0x3f200000 0 (0x3f800000 ∷ 0x3f800000 ∷ []) ≡ came 5 0 (0x41500000 ∷ []) (0x3f800000 ∷ 0x3f800000 ∷ [])
  -- a NaN in b: no comparison holds; the curvature is a NaN, and so is all of x
  broken : one eye (0x7fc00000 ∷ 0x40800000 ∷ []) 0 7 (0x3f800000 ∷ 0 ∷ []) ≡ came 4 0 (0x7fc00000 ∷ 0x7fc00000 ∷ []) (0x7fc00000 ∷ 0x7fc00000 ∷ [])
  -- within the threshold by equality too: from x = (2, 0) the squared residual is 4, and 0.5 * 0.5 * 16 is 4
  near_level : one eye (0x40800000 ∷ 0 ∷ []) 0x3f000000 0 (0x40000000 ∷ 0 ∷ []) ≡ came 2 0 (0x40800000 ∷ []) (0x40000000 ∷ 0 ∷ [])
  -- the tolerance's square comes first: 2^-80 squared is 0, so the squared residual 2^-140 isn't within, though 2^-80 * (2^-80 * 2^40) is above it
  not_near_by_order : one eye (0x49800000 ∷ 0x1c800000 ∷ []) 0x17800000 0 (0x49800000 ∷ 0 ∷ []) ≡ came 5 0 (0x00000200 ∷ []) (0x49800000 ∷ 0 ∷ [])
  -- a denominator of exactly 0 is Curvature: b = (1, 1) on (1, 0 | 0, 0), whose second direction is (0, 2); the quotient of the rescale is exactly 1
  flat_bends : by flat eye (0x3f800000 ∷ 0x3f800000 ∷ []) 0 5 (0 ∷ 0 ∷ []) ≡ came 4 1 (0x40000000 ∷ 0 ∷ []) (0x40000000 ∷ 0x40000000 ∷ [])
  -- THE CLAMP, by itself: -2, the last below 0, -infinity; -0.0, +0.0, 0.5, the last below 1, 1; the next above 1, 2, infinity; NaN.
  -- By ≤ instead of <, -0.0 would be +0.0
  clamp : bits (map clamp_of (floats (0xc0000000 ∷ 0x80000001 ∷ 0xff800000 ∷ 0x80000000 ∷ 0 ∷ 0x3f000000 ∷ 0x3f7fffff ∷ 0x3f800000 ∷ 0x3f800001
      ∷ 0x40000000 ∷ 0x7f800000 ∷ 0x7fc00000 ∷ [])))
      ≡ 0 ∷ 0 ∷ 0 ∷ 0x80000000 ∷ 0 ∷ 0x3f000000 ∷ 0x3f7fffff ∷ 0x3f800000 ∷ 0x3f800000 ∷ 0x3f800000 ∷ 0x3f800000 ∷ 0x7fc00000 ∷ []
  -- THE RESCALE, at the limit 0. Quotients -2, 2, +0.0 and 1, from x = (1, 0) and (1, 1); a multiple by 1 is x again, so that it isn't made shows in no
  -- number: `kept` of `Rescaled` says it
  by_minus_two : still eye (0xc0000000 ∷ 0 ∷ []) (0x3f800000 ∷ 0 ∷ []) ≡ came 5 0 (0x41100000 ∷ []) (0 ∷ 0 ∷ [])
  by_two : still eye (0x40000000 ∷ 0 ∷ []) (0x3f800000 ∷ 0 ∷ []) ≡ came 5 0 (0x3f800000 ∷ []) (0x3f800000 ∷ 0 ∷ [])
  by_zero : still eye (0 ∷ 0x3f800000 ∷ []) (0x3f800000 ∷ 0 ∷ []) ≡ came 5 0 (0x40000000 ∷ []) (0 ∷ 0 ∷ [])
  by_one : still eye (0x40000000 ∷ 0 ∷ []) (0x3f800000 ∷ 0x3f800000 ∷ []) ≡ came 5 0 (0x40000000 ∷ []) (0x3f800000 ∷ 0x3f800000 ∷ [])
  exactly_one : factor eye (0x40000000 ∷ 0 ∷ []) (0x3f800000 ∷ 0x3f800000 ∷ []) ≡ 0x3f800000
  -- -2^-139 / 2^20 is -0.0, which survives the clamp and makes x -0.0; infinity / infinity is NaN, and makes x NaN
  by_minus_zero : still eye (0x80000001 ∷ 0x3f800000 ∷ []) (0x44800000 ∷ 0 ∷ []) ≡ came 5 0 (0x49800008 ∷ []) (0x80000000 ∷ 0x80000000 ∷ [])
  by_nan : still eye (0x71800000 ∷ 0 ∷ []) (0x71800000 ∷ 0 ∷ []) ≡ came 5 0 (0 ∷ []) (0x7fc00000 ∷ 0x7fc00000 ∷ [])
  -- a denominator below zero, at zero, NaN: the first two zero x, where the quotients 2 and infinity would have kept it
  below_zero : still anti (0xc0000000 ∷ 0 ∷ []) (0x3f800000 ∷ 0 ∷ []) ≡ came 5 0 (0x3f800000 ∷ []) (0 ∷ 0 ∷ [])
  at_zero : still flat (0x3f800000 ∷ 0x3f800000 ∷ []) (0 ∷ 0x3f800000 ∷ []) ≡ came 5 0 (0x40000000 ∷ []) (0 ∷ 0 ∷ [])
  nan_goes_on : still (0x7fc00000 ∷ 0 ∷ 0 ∷ 0x3f800000 ∷ []) (0x3f800000 ∷ 0x3f800000 ∷ []) (0x3f800000 ∷ 0x40000000 ∷ [])
      ≡ came 5 0 (0x7fc00000 ∷ []) (0x7fc00000 ∷ 0x7fc00000 ∷ [])
  -- and after Curvature: minus the identity from x = (1, 0), with b = (-2, 0)
  bent_below_zero : one anti (0xc0000000 ∷ 0 ∷ []) 0 5 (0x3f800000 ∷ 0 ∷ []) ≡ came 4 0 (0x3f800000 ∷ 0xbf800000 ∷ []) (0 ∷ 0 ∷ [])
  -- no turn does the work of another; the first two are rescaled, by 0.297 and 0.973
  three_none : three 0x3a800000 0 ≡ came 5 0 (0x42820000 ∷ []) (0xbe98375a ∷ 0x3f18375a ∷ 0 ∷ 0x3e98375a ∷ 0x3f645307 ∷ 0 ∷ [])
  three_one : three 0x3a800000 1 ≡ came 5 1 (0x400d9098 ∷ []) (0x3e9e1d63 ∷ 0x3f2a260a ∷ 0x3eeebcae ∷ 0x3e095ee2 ∷ 0x3fb0d9d8 ∷ 0x3f034e2c ∷ [])
  three_two : three 0x3a800000 2 ≡ came 5 2 (0x3f623b49 ∷ []) (0x3ef4c6f9 ∷ 0x3ec2aaad ∷ 0x3ef23633 ∷ 0xbe770540 ∷ 0x3fe585dc ∷ 0xbdf04718 ∷ [])
  three_all : three 0x3a800000 20 ≡ came 3 5 (0x25a57cf2 ∷ []) (0x3ed9faef ∷ 0x3ebb9079 ∷ 0x3f33f5de ∷ 0xbf08df0f ∷ 0x3fecfd77 ∷ 0xbe88df11 ∷ [])
  -- the first turn again, now within the threshold of the tolerance 0.4: its x isn't rescaled
  three_early : three 0x3ecccccd 7 ≡ came 3 1 (0x400d9098 ∷ []) (0x3ea26ce8 ∷ 0x3f2ec98c ∷ 0x3ef53ee1 ∷ 0x3e0d1da0 ∷ 0x3fb5ac20 ∷ 0x3f06e295 ∷ [])
  -- the inverse of (4, 1 | 1, 3), and the identity where the block is singular
  inverse : bits (gather (inverse_at (3 ∷ []) (floats stiff)) 0 1) ≡ 0x3e8ba2e9 ∷ 0xbdba2e8c ∷ 0xbdba2e8c ∷ 0x3eba2e8c ∷ []
  singular : bits (gather (inverse_at (0 ∷ []) (floats (0x3f800000 ∷ 0x40000000 ∷ 0x40000000 ∷ 0x40800000 ∷ []))) 0 1) ≡ eye

readings : Readings
unfolding floats bits shown came by one met eye anti flat still factor stiff three solved started launched fresh_of finished rescaled run turn product
    preconditioned advanced retreated redirected lacking scaled zeros or_identity inverse_at product_at row_sum slot_step dot_all gather over fold of_bits
    to_bits add sub mul div neg lt le eq ne
readings = record {
  identity = refl;
  no_turns = refl;
  minus_identity = refl;
  met_leaves = refl;
  zero = refl;
  near = refl;
  near_by = refl;
  not_near = refl;
  broken = refl;
  near_level = refl;
  not_near_by_order = refl;
  flat_bends = refl;
  clamp = refl;
  by_minus_two = refl;
  by_two = refl;
  by_zero = refl;
  by_one = refl;
  exactly_one = refl;
  by_minus_zero = refl;
  by_nan = refl;
  below_zero = refl;
  at_zero = refl;
  nan_goes_on = refl;
  bent_below_zero = refl;
  three_none = refl;
  three_one = refl;
  three_two = refl;
  three_all = refl;
  three_early = refl;
  inverse = refl;
  singular = refl;
}
