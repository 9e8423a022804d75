-- A float that passed the test against itself has bits.
use mathlib.Core.Path.{◌≡◌, sym, ◌∙◌}
use mathlib.Core.Bool.{false, not, true≢false}
use lib.Dec.{T}
use lib.Ieee.{Float, nan, inf, fin, ne, is_nan}
use lib.Ieee.Compare.{nan_differs}
use Rattle.replay_tokens.proofs.print.float.Goals as goal

-- what equals itself is no NaN
no_nan : (x : Float) → ne x x ≡ false → T (not (is_nan x))
unfolding is_nan
no_nan nan h = absurd (true≢false (sym nan_differs ∙ h))
no_nan (inf s) h = tt
no_nan (fin s m e) h = tt

pub float_to_bits-v : goal.float_to_bits-v
float_to_bits-v c = no_nan _ c.if-v.false
