use mathlib.Core.Path.{ap}
use mathlib.Core.Bool.{Bool, ◌&&◌}
use lib.Dec.{leb}
use lib.Ieee.{div, of_bits}
use Rattle.law.specs.Limit.{iterations}
use Rattle.gradient_refusals.specs.Settings.{settings_ok, between}
use Rattle.gradient_refusals.proofs.given.settings_ok.Goals as goal

pub returns : goal.returns
unfolding settings_ok div of_bits
returns c = ap (λ (t : Bool). t && leb c.args.settings.max_iterations iterations) (between c.args.settings.tolerance)
