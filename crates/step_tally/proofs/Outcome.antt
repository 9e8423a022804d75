-- ONE OUTCOME of each public call, by the contract that its own theorem cites.
use mathlib.Core.Path.{refl}
use Rattle.law.specs.One.{OneOutcome, past}
use Rattle.law.proofs.One.{plainly, of_parts}
use Rattle.step_tally.specs.contracts.fresh as fresh
use Rattle.step_tally.specs.contracts.total as total
use Rattle.step_tally.specs.contracts.added as added
use Rattle.step_tally.specs.contracts.counted as counted
use Rattle.step_tally.specs.contracts.count as count

pub one_fresh : OneOutcome fresh.ended (λ M 𝓤. fresh.spec)
one_fresh = plainly fresh.ended _ (λ κs a p. of_parts _ _ (λ r. (r, past 0 tt)) refl (λ w. refl))

pub one_total : OneOutcome total.ended (λ M 𝓤. total.spec)
one_total = plainly total.ended _ (λ κs a p. of_parts _ _ (λ r. (r, past 1 tt)) refl (λ w. refl))

pub one_added : OneOutcome added.ended (λ M 𝓤. added.spec)
one_added = plainly added.ended _ (λ κs a p. of_parts _ _ (λ r. (r, past 2 tt)) refl (λ w. refl))

pub one_counted : OneOutcome counted.ended (λ M 𝓤. counted.spec)
one_counted = plainly counted.ended _ (λ κs a p. of_parts _ _ (λ r. (r, past 2 tt)) refl (λ w. refl))

pub one_count : OneOutcome count.ended (λ M 𝓤. count.spec)
one_count = plainly count.ended _ (λ κs a p. of_parts _ _ (λ t. (tt, (t, past 1 tt))) refl (λ w. refl))
