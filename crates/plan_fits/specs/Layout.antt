-- A PLAN'S LISTS, lent together.
use Rattle.std.specs.Prelude.{ℕ, Bool, List}
use Rattle.law.specs.Room.{Room}
use Rattle.matrix_shape.specs.Rows.{at}
use Rattle.plan_fits.specs.declared.plan.Plan.{Plan}
use Rattle.plan_fits.specs.Fits.{plan_rules_ok}
use Rattle.plan_fits.specs.Given.{factor_length, plan_room}
use Rattle.plan_fits.specs.Lists.{Laid}
use Rattle.plan_fits.specs.Lists as lists

pub record Layout : Type 0 where
  pub perm : List ℕ
  pub inv_perm : List ℕ
  pub first : List ℕ
  pub row_start : List ℕ

abbrev pub layout : List ℕ → List ℕ → List ℕ → List ℕ → Layout
layout order inverse first starts = record { perm = order; inv_perm = inverse; first = first; row_start = starts }

-- what a lent plan's lists hold
abbrev pub plan_lists : Plan → Layout
plan_lists p = layout p.perm.now p.inv_perm.now p.first.now p.row_start.now

-- what each list needs, and what it has; that each has it
abbrev pub room_of : ℕ → Layout → Room
room_of n l = plan_room n l.perm l.inv_perm l.first l.row_start

abbrev pub IsLaid : ℕ → Layout → Type 0
IsLaid n l = Laid n l.perm l.inv_perm l.first l.row_start

-- how long the factor is
abbrev pub length_of : ℕ → Layout → ℕ
length_of n l = factor_length n l.row_start

-- whether it keeps the rules that ask for no pattern, as a test and as a fact
abbrev pub is_planned : ℕ → Layout → Bool
is_planned n l = plan_rules_ok n (at l.perm) (at l.inv_perm) (at l.first) (at l.row_start)

abbrev pub IsPlan : ℕ → Layout → Type 0
IsPlan n l = lists.Plan n l.perm l.inv_perm l.first l.row_start
