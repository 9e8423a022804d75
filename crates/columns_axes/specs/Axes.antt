-- THE SOLVES BEHIND THE COLUMNS: a column is a response with one entry, into the column's part of the buffer; a particle's two, axis 0 before axis 1.
-- What computing the columns is handed, and what its solves require of it.
use Rattle.std.specs.Prelude.{ℕ, ◌*◌, ◌≤◌, ◌≡◌, Bool, cond, List, [], ◌∷◌, leb, eqb, length, Float}
use Rattle.std.proofs.Common.{arith}
use Rattle.law.specs.Limit.{unloaded}
use Rattle.law.specs.Store.{written}
use Rattle.plane.specs.Plane.{zero32, one32}
use Rattle.matrix_shape.specs.Rows.{at}
use Rattle.matrix_shape.specs.Shape.{shape}
use Rattle.plan_fits.specs.Layout.{layout}
use Rattle.step_routes.specs.System.{Sys, system}
use Rattle.step_entries.specs.Lent.{entered}
use Rattle.step_tally.specs.declared.Tally.{Tally}
use Rattle.step_tally.specs.Count.{counted_of}
use Rattle.step_solve.specs.Stepping as S
use Rattle.step_response.specs.Responding as R
use Rattle.step_counts.specs.Counting.{asked_by}
use Rattle.columns_table.specs.Lent.{Numbering, numbering}
use Rattle.columns_table.specs.Table.{Numbered}
use Rattle.columns_table.specs.Columns.{start_of, column_of, columns_need}

pub record In : Type 0 where
  pub n : ℕ
  pub row_offsets : List ℕ
  pub cols : List ℕ
  pub diagonal : List ℕ
  pub blocks : List Float
  pub perm : List ℕ
  pub inv_perm : List ℕ
  pub first : List ℕ
  pub row_start : List ℕ
  pub values : List Float
  pub factored : Bool
  pub preconditioner : List Float
  pub tolerance : Float
  pub max_iterations : ℕ
  pub max_dense_dofs : ℕ
  pub pinned : List ℕ
  pub loaded : ℕ
  pub column_of : List ℕ
  pub columns : List Float
  pub rhs : List Float
  pub scratch : List Float
  pub residual : List Float
  pub direction : List Float
  pub a_direction : List Float
  pub z : List Float
  pub tally : Tally

abbrev pub given : Sys → Numbering → List Float → List Float → List Float → List Float → List Float → List Float → List Float → Tally → In
given s t columns rhs scratch residual direction a_direction z tally = record {
  n = s.shape.n;
  row_offsets = s.shape.row_offsets;
  cols = s.shape.cols;
  diagonal = s.shape.diagonal;
  blocks = s.blocks;
  perm = s.layout.perm;
  inv_perm = s.layout.inv_perm;
  first = s.layout.first;
  row_start = s.layout.row_start;
  values = s.values;
  factored = s.factored;
  preconditioner = s.preconditioner;
  tolerance = s.tolerance;
  max_iterations = s.max_iterations;
  max_dense_dofs = s.max_dense_dofs;
  pinned = t.pinned;
  loaded = t.loaded;
  column_of = t.column_of;
  columns = columns;
  rhs = rhs;
  scratch = scratch;
  residual = residual;
  direction = direction;
  a_direction = a_direction;
  z = z;
  tally = tally;
}

-- the system and the table of what it is handed
abbrev pub handed_system : In → Sys
handed_system i =
    system (shape i.n i.row_offsets i.cols i.diagonal) i.blocks (layout i.perm i.inv_perm i.first i.row_start) i.values i.factored i.preconditioner
    i.tolerance i.max_iterations i.max_dense_dofs

abbrev pub handed_table : In → Numbering
handed_table i = numbering i.pinned i.loaded i.column_of

-- whether the plan and the factor count
abbrev pub dense : In → Bool
dense i = leb (2 * i.n) i.max_dense_dofs

-- The lists as they stand between two solves, and the two records: the lent one and the call's own
pub record Held : Type 0 where
  pub columns : List Float
  pub rhs : List Float
  pub scratch : List Float
  pub residual : List Float
  pub direction : List Float
  pub a_direction : List Float
  pub z : List Float
  pub lent : Tally
  pub own : Tally

abbrev pub held : List Float → List Float → List Float → List Float → List Float → List Float → List Float → Tally → Tally → Held
held columns rhs scratch residual direction a_direction z lent own = record {
  columns = columns;
  rhs = rhs;
  scratch = scratch;
  residual = residual;
  direction = direction;
  a_direction = a_direction;
  z = z;
  lent = lent;
  own = own;
}

-- the unit vector along axis k
abbrev pub axis_of : ℕ → List Float
axis_of k = cond (eqb k 0) (one32 ∷ zero32 ∷ []) (zero32 ∷ one32 ∷ [])

-- the response that is particle p's column along axis k: one entry, into its part of the columns
abbrev pub for_axis : In → ℕ → ℕ → Held → R.In
for_axis i p k s = R.given (handed_system i) i.pinned (entered 1 (p ∷ []) (axis_of k))
    (column_of i.n s.columns (at i.column_of p) k) s.rhs s.scratch s.residual s.direction s.a_direction s.z

-- after that response: its out is stored, and the step solve counted
abbrev pub after_axis : Held → ℕ → R.Out → Held
after_axis s start o = held (written s.columns start o.out) o.rhs o.scratch o.residual o.direction o.a_direction o.z
    (counted_of s.lent (asked_by o.answer)) (counted_of s.own (asked_by o.answer))

unfoldable pub axis_made : In → ℕ → ℕ → Held → Held
axis_made i p k s = after_axis s (start_of i.n (at i.column_of p) k) (R.work (for_axis i p k s))

unfoldable pub particle_made : In → ℕ → Held → Held
particle_made i p s = cond (eqb (at i.column_of p) unloaded) s (axis_made i p 1 (axis_made i p 0 s))

-- ---- what the solves require

-- a step solve, with rhs for its b and for its x
abbrev pub for_step : In → S.In
for_step i = S.given (handed_system i) i.rhs i.rhs i.scratch i.residual i.direction i.a_direction i.z

pub record Ready (i : In) : Type 0 where
  pub solvable : S.Ready (for_step i)
  pub marks : i.n ≤ length i.pinned
  pub places : i.n ≤ length i.column_of
  pub room : columns_need i.n i.loaded ≤ length i.columns
  pub numbered : Numbered i.n i.pinned i.loaded i.column_of

-- a step solve asks nothing of its lists but their lengths
pub solvable_for : (i : S.In) (b x w r d a z : List Float) → S.Ready i → 2 * i.n ≤ length b → 2 * i.n ≤ length x → length w ≡ length i.scratch
    → length r ≡ length i.residual → length d ≡ length i.direction → length a ≡ length i.a_direction → length z ≡ length i.z
    → S.Ready (S.given (S.handed_system i) b x w r d a z)
solvable_for i b x w r d a z p hb hx hw hr hd ha hz =
    let g = p.iterable in
    record {
      iterable = record {
        few = g.few;
        matrix = g.matrix;
        preconditioner = g.preconditioner;
        b = hb;
        x = hx;
        residual = omega (arith, g.residual);
        direction = omega (arith, g.direction);
        a_direction = omega (arith, g.a_direction);
        z = omega (arith, g.z);
      };
      planned = λ t. let q = p.planned t in record { plan = q.plan; values = q.values; b = hb; x = hx; scratch = omega (arith, q.scratch) };
    }
