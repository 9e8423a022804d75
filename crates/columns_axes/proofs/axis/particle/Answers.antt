use mathlib.Core.Path.{refl, ◌∙◌}
use native.Mathlib.Omega.{arith}
use Rattle.law.proofs.Loop.{over_none, over_turn, over_done}
use Rattle.columns_axes.proofs.Laws.{still_ready, same_axis, both_axes, no_axis}
use Rattle.columns_axes.proofs.axis.particle.Goals as goal

pub returns-in_default : goal.returns-in_default
returns-in_default c = no_axis _ c.requires.ready _ _ c.in_default.ensures

pub loop-k-init : goal.loop-k-init
loop-k-init c = (
  record { columns = refl; rhs = refl; scratch = refl; residual = refl; direction = refl; a_direction = refl; z = refl },
  over_none _ 0 _,
)

pub axis-both-requires : goal.axis-both-requires
axis-both-requires c =
    let m = c.loop-k.invariant.0 in
    let q = c.requires in
    let o = c.in-Some.ensures in
    let l = q.ready.numbered.inside _ q.p_lt_n (λ u. omega (arith, o)) in (record { ready = still_ready _ q.ready _ _ _ _ _ _ _ _ m.columns m.rhs m.scratch m.residual m.direction m.a_direction m.z; p_lt_n = (q.p_lt_n, o.0, omega (arith, o), omega (arith, c.loop-k-test.true)) })

pub loop-k-preserved : goal.loop-k-preserved
loop-k-preserved c =
    let v = c.loop-k.invariant in
    let k = c.axis-both.auto in (
      record {
        columns = k.columns ∙ v.0.columns;
        rhs = k.rhs ∙ v.0.rhs;
        scratch = k.scratch ∙ v.0.scratch;
        residual = k.residual ∙ v.0.residual;
        direction = k.direction ∙ v.0.direction;
        a_direction = k.a_direction ∙ v.0.a_direction;
        z = k.z ∙ v.0.z;
      },
      over_turn _ 0 _ _ _ _ (omega arith) v.1 (c.axis-both.ensures ∙ same_axis _ c.requires.ready _ _ _ _ _ _ _ _ _ _ _),
    )

pub returns : goal.returns
returns c =
    let v = c.loop-k.invariant in
    both_axes _ c.requires.ready _ _ _ (λ u. omega (arith, c.in-Some.ensures)) (over_done _ 0 _ _ _ _ v.1 (omega arith) (omega arith))
