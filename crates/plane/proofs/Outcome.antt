-- ONE OUTCOME of each public call, by the contract that its own theorem cites.
use mathlib.Core.Path.{refl}
use Rattle.law.specs.One.{OneOutcome, past}
use Rattle.law.proofs.One.{plainly, of_parts}
use Rattle.plane.specs.contracts.add as add
use Rattle.plane.specs.contracts.sub as sub
use Rattle.plane.specs.contracts.scale as scale
use Rattle.plane.specs.contracts.dot as dot
use Rattle.plane.specs.contracts.times as times
use Rattle.plane.specs.contracts.determinant as determinant
use Rattle.plane.specs.contracts.inverse as inverse
use Rattle.plane.specs.contracts.is_finite as is_finite

pub one_add : OneOutcome add.ended (λ M 𝓤. add.spec)
one_add = plainly add.ended _ (λ κs a p. of_parts _ _ (λ r. (r, past 2 tt)) refl (λ w. refl))

pub one_sub : OneOutcome sub.ended (λ M 𝓤. sub.spec)
one_sub = plainly sub.ended _ (λ κs a p. of_parts _ _ (λ r. (r, past 2 tt)) refl (λ w. refl))

pub one_scale : OneOutcome scale.ended (λ M 𝓤. scale.spec)
one_scale = plainly scale.ended _ (λ κs a p. of_parts _ _ (λ r. (r, past 2 tt)) refl (λ w. refl))

pub one_dot : OneOutcome dot.ended (λ M 𝓤. dot.spec)
one_dot = plainly dot.ended _ (λ κs a p. of_parts _ _ (λ r. (r, past 2 tt)) refl (λ w. refl))

pub one_times : OneOutcome times.ended (λ M 𝓤. times.spec)
one_times = plainly times.ended _ (λ κs a p. of_parts _ _ (λ r. (r, past 2 tt)) refl (λ w. refl))

pub one_determinant : OneOutcome determinant.ended (λ M 𝓤. determinant.spec)
one_determinant = plainly determinant.ended _ (λ κs a p. of_parts _ _ (λ r. (r, past 1 tt)) refl (λ w. refl))

pub one_inverse : OneOutcome inverse.ended (λ M 𝓤. inverse.spec)
one_inverse = plainly inverse.ended _ (λ κs a p. of_parts _ _ (λ r. (r, past 1 tt)) refl (λ w. refl))

pub one_is_finite : OneOutcome is_finite.ended (λ M 𝓤. is_finite.spec)
one_is_finite = plainly is_finite.ended _ (λ κs a p. of_parts _ _ (λ r. (r, past 1 tt)) refl (λ w. refl))
