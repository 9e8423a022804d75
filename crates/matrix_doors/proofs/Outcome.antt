-- ONE OUTCOME of each public call, by the contract that its own theorem cites.
use mathlib.Core.Path.{refl}
use Rattle.law.specs.One.{OneOutcome, past}
use Rattle.law.proofs.One.{plainly, of_door}
use Rattle.matrix_building.specs.FromPairs as frompairs
use Rattle.matrix_building.specs.Building as building
use Rattle.matrix_doors.specs.Indexing as indexing
use Rattle.matrix_doors.specs.Clearing as clearing
use Rattle.matrix_doors.specs.Multiplying as multiplying
use Rattle.matrix_doors.specs.Pinning as pinning
use Rattle.matrix_doors.specs.PinningMarked as pinningmarked
use Rattle.matrix_doors.specs.contracts.from_pairs as from-pairs
use Rattle.matrix_doors.specs.contracts.pattern_from_pairs as pattern-from-pairs
use Rattle.matrix_doors.specs.contracts.block_index as block-index
use Rattle.matrix_doors.specs.contracts.diagonal_index as diagonal-index
use Rattle.matrix_doors.specs.contracts.clear_values as clear-values
use Rattle.matrix_doors.specs.contracts.mul as mul
use Rattle.matrix_doors.specs.contracts.make_dirichlet as make-dirichlet
use Rattle.matrix_doors.specs.contracts.make_dirichlet_marked as make-dirichlet-marked

pub one_from_pairs : OneOutcome from-pairs.ended (λ M 𝓤. from-pairs.spec)
unfolding frompairs.work building.work
one_from_pairs = plainly from-pairs.ended _ (λ κs a p.
    of_door frompairs.door _ _
    (λ o. (o.pattern.answer, past 3 (o.pattern.row_offsets, (o.pattern.cols, (o.pattern.diagonal, (o.blocks, (o.pattern.work, tt)))))))
    refl (λ k. refl) (λ w. refl))

pub one_pattern_from_pairs : OneOutcome pattern-from-pairs.ended (λ M 𝓤. pattern-from-pairs.spec)
unfolding building.work
one_pattern_from_pairs = plainly pattern-from-pairs.ended _ (λ κs a p.
    of_door building.door _ _ (λ o. (o.answer, past 3 (o.row_offsets, (o.cols, (o.diagonal, (o.work, tt)))))) refl (λ k. refl) (λ w. refl))

pub one_block_index : OneOutcome block-index.ended (λ M 𝓤. block-index.spec)
one_block_index = plainly block-index.ended _ (λ κs a p. of_door (indexing.block_door _) _ _ (λ o. (o.answer, past 3 tt)) refl (λ k. refl) (λ w. refl))

pub one_diagonal_index : OneOutcome diagonal-index.ended (λ M 𝓤. diagonal-index.spec)
one_diagonal_index = plainly diagonal-index.ended _ (λ κs a p.
    of_door indexing.diagonal_door _ _ (λ o. (o.answer, past 2 tt)) refl (λ k. refl) (λ w. refl))

pub one_clear_values : OneOutcome clear-values.ended (λ M 𝓤. clear-values.spec)
one_clear_values = plainly clear-values.ended _ (λ κs a p.
    of_door clearing.door _ _ (λ o. (o.answer, past 1 (o.blocks, tt))) refl (λ k. refl) (λ w. refl))

pub one_mul : OneOutcome mul.ended (λ M 𝓤. mul.spec)
one_mul = plainly mul.ended _ (λ κs a p. of_door multiplying.door _ _ (λ o. (o.answer, past 3 (o.out, tt))) refl (λ k. refl) (λ w. refl))

pub one_make_dirichlet : OneOutcome make-dirichlet.ended (λ M 𝓤. make-dirichlet.spec)
one_make_dirichlet = plainly make-dirichlet.ended _ (λ κs a p.
    of_door pinning.door _ _ (λ o. (o.answer, past 2 (o.blocks, tt))) refl (λ k. refl) (λ w. refl))

pub one_make_dirichlet_marked : OneOutcome make-dirichlet-marked.ended (λ M 𝓤. make-dirichlet-marked.spec)
one_make_dirichlet_marked = plainly make-dirichlet-marked.ended _ (λ κs a p.
    of_door pinningmarked.door _ _ (λ o. (o.answer, past 2 (o.blocks, tt))) refl (λ k. refl) (λ w. refl))
