-- THE REFUSALS of computing the columns, by what it is handed.
use Rattle.std.specs.Prelude.{ℕ, ◌≤◌, ◌≡◌, Bool, true, List, [], ◌∷◌, leb, length, Float}
use Rattle.std.proofs.Common.{arith}
use Rattle.law.specs.Limit.{particles, envelope}
use Rattle.law.specs.declared.refusal.Refusal.TheVariants.{TooManyParticles, ShortBuffer, BadPattern, BadPlan, LongEnvelope, BadSettings}
use Rattle.law.specs.Room.{Room, enough}
use Rattle.law.proofs.Room.{enough_is}
use Rattle.law.specs.Refusal.{Test, unless, Rising, when}
use Rattle.matrix_shape.specs.Rows.{at}
use Rattle.matrix_shape.specs.Given.{formed}
use Rattle.plan_fits.specs.Fits.{fits_ok}
use Rattle.plan_fits.specs.Given.{factor_length}
use Rattle.gradient_refusals.specs.Settings.{settings_ok}
use Rattle.step_tally.specs.Runs.{fresh}
use Rattle.step_routes.specs.System.{Sys, is_dense}
use Rattle.columns_table.specs.Lent.{Numbering}
use Rattle.step_routes.specs.Dense.{step_held}
use Rattle.columns_table.specs.Table.{table_ok}
use Rattle.columns_table.specs.Columns.{columns_need}
use Rattle.columns_axes.specs.Axes.{In, given, handed_system, handed_table, dense}

-- what marks, table and columns need, and what they have
unfoldable pub making_room : ℕ → List ℕ → ℕ → List ℕ → List Float → Room
making_room n pinned loaded table columns = (n, length pinned) ∷ (n, length table) ∷ (columns_need n loaded, length columns) ∷ []

-- THE REFUSALS: a step solve's, with rhs for its b and for its x, which has a place in the columns; and the table's
unfoldable pub later : Bool → ℕ → List ℕ → List ℕ → List ℕ → List ℕ → List ℕ → List ℕ → List ℕ → List ℕ → ℕ → List ℕ → Float → ℕ → List Test
later d n starts cols diagonal order inverse first begins pinned loaded table tolerance limit =
    unless BadPattern (formed n starts cols diagonal)
    ∷ unless BadPlan (table_ok n pinned loaded table)
    ∷ unless BadPlan (when d (fits_ok n (at starts) (at cols) (at order) (at inverse) (at first) (at begins)))
    ∷ unless LongEnvelope (when d (leb (factor_length n begins) envelope))
    ∷ unless BadSettings (settings_ok tolerance limit)
    ∷ []

-- the same of a system and a table lent together
abbrev pub later_of : Sys → Numbering → List Test
later_of s t =
    later (is_dense s) s.shape.n s.shape.row_offsets s.shape.cols s.shape.diagonal s.layout.perm s.layout.inv_perm s.layout.first s.layout.row_start
    t.pinned t.loaded t.column_of s.tolerance s.max_iterations

unfoldable pub refusals : In → List Test
refusals i =
    unless TooManyParticles (leb i.n particles)
    ∷ unless ShortBuffer (step_held (dense i) i.n i.row_offsets i.cols i.diagonal i.blocks i.perm i.inv_perm i.first
    i.row_start i.values i.preconditioner i.rhs i.rhs i.scratch i.residual i.direction i.a_direction i.z)
    ∷ unless ShortBuffer (enough true (making_room i.n i.pinned i.loaded i.column_of i.columns))
    ∷ later (dense i) i.n i.row_offsets i.cols i.diagonal i.perm i.inv_perm i.first i.row_start i.pinned i.loaded i.column_of
    i.tolerance i.max_iterations

pub in_order : (i : In) → Rising 1 (refusals i)
unfolding refusals later
in_order i = (omega arith, (omega arith, (omega arith, (omega arith, (omega arith, (omega arith, (omega arith, (omega arith, tt))))))))

-- the same with a fresh record: the refusals ask nothing of the lent one
abbrev pub unlent : In → In
unlent i = given (handed_system i) (handed_table i) i.columns i.rhs i.scratch i.residual i.direction i.a_direction i.z fresh

pub has_room : (n : ℕ) (pinned : List ℕ) (loaded : ℕ) (table : List ℕ) (columns : List Float) → enough true (making_room n pinned loaded table columns) ≡ true
    → (n ≤ length pinned) × (n ≤ length table)
unfolding making_room
has_room n pinned loaded table columns h = let e = enough_is true (making_room n pinned loaded table columns) h in (e.0, e.1.0)
