use mathlib.Core.Path.{refl, ◌∙◌}
use native.Mathlib.Omega.{arith}
use Rattle.law.proofs.Loop.{over_none, over_turn, over_done}
use Rattle.columns_axes.proofs.Laws.{still_ready, same_particle}
use Rattle.columns_axes.proofs.axis.all.Goals as goal

pub loop-p-init : goal.loop-p-init
loop-p-init c = (
  record { columns = refl; rhs = refl; scratch = refl; residual = refl; direction = refl; a_direction = refl; z = refl },
  over_none _ 0 _,
)

pub particle-both-requires : goal.particle-both-requires
particle-both-requires c =
    let s = c.requires in
    let m = c.loop-p.invariant.0 in
    (record { ready = still_ready _ s _ _ _ _ _ _ _ _ m.columns m.rhs m.scratch m.residual m.direction m.a_direction m.z; p_lt_n = c.loop-p-test.true })

pub loop-p-preserved : goal.loop-p-preserved
loop-p-preserved c =
    let v = c.loop-p.invariant in
    let k = c.particle-both.auto in (
      record {
        columns = k.columns ∙ v.0.columns;
        rhs = k.rhs ∙ v.0.rhs;
        scratch = k.scratch ∙ v.0.scratch;
        residual = k.residual ∙ v.0.residual;
        direction = k.direction ∙ v.0.direction;
        a_direction = k.a_direction ∙ v.0.a_direction;
        z = k.z ∙ v.0.z;
      },
      over_turn _ 0 _ _ _ _ (omega arith) v.1 (c.particle-both.ensures ∙ same_particle _ c.requires _ _ _ _ _ _ _ _ _ _),
    )

pub returns : goal.returns
returns c =
    let v = c.loop-p.invariant in
    over_done _ 0 _ _ _ _ v.1 (omega arith) (omega arith)
