use Rattle.std.proofs.Common.{◌≡◌}
use Rattle.law.specs.Loop.{over}
use Rattle.step_routes.specs.System.{system_of}
use Rattle.columns_table.specs.Lent.{numbers_of}
use Rattle.columns_axes.specs.Axes.{given, held, particle_made}
use Rattle.columns_axes.proofs.Laws.{Alike}
use Rattle.columns_axes.proofs.axis.all.Given as goal

abbrev pub invariant-loop-p : goal.invariant-loop-p
invariant-loop-p l = Alike (held l.initial.columns l.initial.rhs l.initial.scratch l.initial.residual l.initial.direction l.initial.a_direction l.initial.z l.initial.both.lent l.initial.both.own) (held l.columns l.rhs l.scratch l.residual l.direction l.a_direction l.z l.both.lent l.both.own)
    × (held l.columns l.rhs l.scratch l.residual l.direction l.a_direction l.z l.both.lent l.both.own ≡ over (particle_made (given (system_of l.system) (numbers_of l.table) l.initial.columns l.initial.rhs l.initial.scratch l.initial.residual l.initial.direction l.initial.a_direction l.initial.z l.initial.both.lent)) 0 l.p (held l.initial.columns l.initial.rhs l.initial.scratch l.initial.residual l.initial.direction l.initial.a_direction l.initial.z l.initial.both.lent l.initial.both.own))
