-- ONE OUTCOME of the public call, by the contract that its own theorem cites.
use mathlib.Core.Path.{refl, ap}
use Rattle.law.specs.One.{OneOutcome, past}
use Rattle.law.proofs.One.{plainly}
use Rattle.law.specs.contracts.wide as wide

-- that the number is small is what its type says
pub one_wide : OneOutcome wide.ended (λ M 𝓤. wide.spec)
one_wide = plainly wide.ended _ (λ κs a p. ((a.0, past 1 tt), (record { same = refl; small = p.1.0.1 }, λ w h. ap (λ r. (r, past 1 tt)) h.same)))
