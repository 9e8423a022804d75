-- WHAT PLANNING MAKES PASSES THE FIT TEST: the plan of every well formed pattern fits it.
use Rattle.std.specs.Prelude.{ℕ, List}
use Rattle.matrix_shape.specs.Rows.{at, Pattern}
use Rattle.plan_fits.specs.Fits.{Fits}
use Rattle.plan_doors.specs.Facts as facts
use Rattle.plan_doors.specs.Facts.{plan_in}

pub plan_fits : (n : ℕ) (starts cols diagonal : List ℕ) → Pattern n starts cols diagonal
    → Fits n (at starts) (at cols) (at (plan_in n starts cols).order) (at (plan_in n starts cols).inverse) (at (plan_in n starts cols).first)
    (at (plan_in n starts cols).rows)
plan_fits n s c d p = record {
  planned = record {
    particle = facts.plan_particle n s c d p;
    back = facts.plan_back n s c d p;
    position = facts.plan_position n s c d p;
    forth = facts.plan_forth n s c d p;
    same = facts.plan_same n s c d p;
    even = facts.plan_even n s c d p;
    most = facts.plan_most n s c d p;
    begins = facts.plan_begins n s c d p;
    grow = facts.plan_grow n s c d p;
  };
  inside = facts.plan_inside n s c d p;
}
