-- ONE OUTCOME of each public call, by the contract that its own theorem cites.
use mathlib.Core.Path.{refl}
use Rattle.law.specs.One.{OneOutcome, past}
use Rattle.law.proofs.One.{plainly, of_parts}
use Rattle.root.specs.contracts.isqrt as isqrt
use Rattle.root.specs.contracts.root as root

pub one_isqrt : OneOutcome isqrt.ended (λ M 𝓤. isqrt.spec)
one_isqrt = plainly isqrt.ended _ (λ κs a p. of_parts _ _ (λ r. (r, past 1 tt)) refl (λ w. refl))

pub one_root : OneOutcome root.ended (λ M 𝓤. root.spec)
one_root = plainly root.ended _ (λ κs a p. of_parts _ _ (λ r. (r, past 1 tt)) refl (λ w. refl))
