use Rattle.std.specs.Prelude.{◌≡◌, Err}
use borrow.Author.Rules.{rules}
use Rattle.plan_make.specs.Plan.{four}
use Rattle.plan_make.specs.Parts.{five}
use Rattle.plan_doors.proofs.Planning.{ready, refused_early, refused_late, accepted}
use Rattle.plan_doors.proofs.plan.Goals as goal

pub returns-in_err-planning : goal.returns-in_err-planning
returns-in_err-planning c =
    let e : c.from_residual.result ≡ Err c.in_err-planning.field-0.0 = search rules in
    rw e (refused_early _ _ c.in_err-planning.ensures)

pub plan-len-requires : goal.plan-len-requires
plan-len-requires c = ready _ c.in_ok-planning.ensures

pub returns-in_err-ensure : goal.returns-in_err-ensure
returns-in_err-ensure c =
    let l = c.plan-len.new in
    let e : c.from_residual-in_err-ensure.result ≡ Err c.in_err-ensure.field-0.0 = search rules in
    rw e (refused_late _ c.in_ok-planning.ensures _ (four l.perm l.inv_perm l.first l.row_start)
    (five l.degrees l.placed l.mark l.level l.queue) c.plan-len.ensures _ c.in_err-ensure.ensures)

pub returns : goal.returns
returns c =
    let l = c.plan-len.new in
    accepted _ c.in_ok-planning.ensures _ (four l.perm l.inv_perm l.first l.row_start)
    (five l.degrees l.placed l.mark l.level l.queue) c.plan-len.ensures c.in_ok-ensure.ensures
