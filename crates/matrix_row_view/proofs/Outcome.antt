-- ONE OUTCOME of each public call, by the contract that its own theorem cites.
use mathlib.Core.Path.{refl}
use Rattle.law.specs.One.{OneOutcome, past}
use Rattle.law.proofs.One.{plainly, of_door}
use Rattle.matrix_row_view.specs.Showing as showing
use Rattle.matrix_row_view.specs.contracts.row_span as row-span
use Rattle.matrix_row_view.specs.contracts.row_col as row_col
use Rattle.matrix_row_view.specs.contracts.row_slot as row-slot

pub one_row_span : OneOutcome row-span.ended (λ M 𝓤. row-span.spec)
one_row_span = plainly row-span.ended _ (λ κs a p. of_door showing.span_door _ _ (λ o. (o.answer, past 2 tt)) refl (λ k. refl) (λ w. refl))

pub one_row_col : OneOutcome row_col.ended (λ M 𝓤. row_col.spec)
one_row_col = plainly row_col.ended _ (λ κs a p. of_door (showing.column_door _) _ _ (λ o. (o.answer, past 3 tt)) refl (λ k. refl) (λ w. refl))

pub one_row_slot : OneOutcome row-slot.ended (λ M 𝓤. row-slot.spec)
one_row_slot = plainly row-slot.ended _ (λ κs a p. of_door (showing.slot_door _) _ _ (λ o. (o.answer, past 3 tt)) refl (λ k. refl) (λ w. refl))
