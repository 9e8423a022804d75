use mathlib.Core.Path.{◌≡◌, sym, subst}
use mathlib.Core.Bool.{true}
use lib.Dec.{T}
use lib.Ieee.{Float, binary32, fits}
use Rattle.root.proofs.Branches.{zero_branch, negative_branch, nan_branch, infinity_branch, not_nan, positive_branch, root_branch}
use Rattle.root.proofs.root.Goals as goal

-- what an `f32` tells: the format holds it
held : (x : Float) → fits binary32 x ≡ true → T (fits binary32 x)
held x e = subst T (sym e) tt

pub returns-then-x : goal.returns-then-x
returns-then-x c = zero_branch _ c.if-x.true

pub returns-then-x-2 : goal.returns-then-x-2
returns-then-x-2 c = negative_branch _ c.if-x-2.true

pub returns-then-x-3 : goal.returns-then-x-3
returns-then-x-3 c = nan_branch _ c.if-x-3.true

pub float_to_bits-b : goal.float_to_bits-b
float_to_bits-b c = not_nan _ c.if-x-3.false

pub returns-then-b-eq2139095040 : goal.returns-then-b-eq2139095040
returns-then-b-eq2139095040 c = infinity_branch _ (held _ c.well_formed.0.1) c.if-b-eq2139095040.true

pub root_bits-requires : goal.root_bits-requires
root_bits-requires c =
    positive_branch _ (held _ c.well_formed.0.1) c.if-x.false c.if-x-2.false
    c.if-x-3.false c.if-b-eq2139095040.false

pub float_from_bits-result : goal.float_from_bits-result
float_from_bits-result c =
    let ok = positive_branch _ (held _ c.well_formed.0.1) c.if-x.false c.if-x-2.false c.if-x-3.false c.if-b-eq2139095040.false in
    (root_branch _ _ (held _ c.well_formed.0.1) ok.0 ok.1 c.root_bits.ensures).1

pub returns : goal.returns
returns c =
    let ok = positive_branch _ (held _ c.well_formed.0.1) c.if-x.false c.if-x-2.false c.if-x-3.false c.if-b-eq2139095040.false in
    (root_branch _ _ (held _ c.well_formed.0.1) ok.0 ok.1 c.root_bits.ensures).0
