-- ONE OUTCOME of each public call, by the contract that its own theorem cites.
use mathlib.Core.Path.{◌≡◌, refl}
use mathlib.Core.Bool.{Bool, true, false, cond}
use lib.Dec.{eqb}
use Rattle.law.specs.Limit.{unloaded}
use Rattle.law.specs.One.{OneOutcome, past}
use Rattle.law.proofs.One.{plainly, of_door}
use Rattle.matrix_shape.specs.Rows.{at}
use Rattle.columns_table.specs.Clearing as clearing
use Rattle.columns_table.specs.Loading as loading
use Rattle.columns_make.specs.Making as making
use Rattle.columns_combine.specs.Combining as combining
use Rattle.columns_block.specs.Blocking as blocking
use Rattle.columns_doors.specs.contracts.clear_columns as clear-columns
use Rattle.columns_doors.specs.contracts.load_particle as load-particle
use Rattle.columns_doors.specs.contracts.compute_columns as compute-columns
use Rattle.columns_doors.specs.contracts.response_from_columns as response-from-columns
use Rattle.columns_doors.specs.contracts.particle_block_from_columns as particle-block-from-columns

either : {O : Type 0} (Q : O → Type 0) (b : Bool) (x y : O) → Q x → Q y → Q (cond b x y)
either Q true x y p q = p
either Q false x y p q = q

-- what `left` makes of such a value's own answer and lists is the value: so of what each door's work leaves
abbrev Loaded : loading.Out → Type 0
Loaded o = loading.left o.answer o.column_of ≡ o

pub loaded : (i : loading.In) → Loaded (loading.work i)
unfolding loading.work
loaded i = either Loaded (loading.is_new i.n i.pinned i.column_of i.particle) _ _ refl refl

abbrev Blocked : blocking.Out → Type 0
Blocked o = blocking.left o.answer o.out ≡ o

pub blocked : (i : blocking.In) → Blocked (blocking.work i)
unfolding blocking.work
blocked i = either Blocked (eqb (at i.pinned i.particle) 0) _ _
    (either Blocked (eqb (at i.column_of i.particle) unloaded) _ _ refl refl) refl

pub one_clear_columns : OneOutcome clear-columns.ended (λ M 𝓤. clear-columns.spec)
one_clear_columns = plainly clear-columns.ended _ (λ κs a p.
    of_door clearing.door _ _ (λ o. (o.answer, past 1 (o.column_of, tt))) refl (λ k. refl) (λ w. refl))

pub one_load_particle : OneOutcome load-particle.ended (λ M 𝓤. load-particle.spec)
one_load_particle = plainly load-particle.ended _ (λ κs a p.
    of_door loading.door _ _ (λ o. (o.answer, past 4 (o.column_of, tt))) (loaded _) (λ k. refl) (λ w. refl))

pub one_compute_columns : OneOutcome compute-columns.ended (λ M 𝓤. compute-columns.spec)
unfolding making.work
one_compute_columns = plainly compute-columns.ended _ (λ κs a p.
    of_door making.door _ _
    (λ o. (o.answer, past 2 (o.columns, (o.rhs, (o.scratch, (o.residual, (o.direction, (o.a_direction, (o.z, (o.tally, tt))))))))))
    refl (λ k. refl) (λ w. refl))

pub one_response_from_columns : OneOutcome response-from-columns.ended (λ M 𝓤. response-from-columns.spec)
unfolding combining.work
one_response_from_columns = plainly response-from-columns.ended _ (λ κs a p.
    of_door combining.door _ _ (λ o. (o.answer, past 4 (o.out, tt))) refl (λ k. refl) (λ w. refl))

pub one_particle_block_from_columns : OneOutcome particle-block-from-columns.ended (λ M 𝓤. particle-block-from-columns.spec)
one_particle_block_from_columns = plainly particle-block-from-columns.ended _ (λ κs a p.
    of_door blocking.door _ _ (λ o. (o.answer, past 4 (o.out, tt))) (blocked _) (λ k. refl) (λ w. refl))
