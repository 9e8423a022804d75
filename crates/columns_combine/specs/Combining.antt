-- THE DOOR `response_from_columns`: what it is handed, its refusals, and what it answers and leaves. Columns are read as they stand.
use Rattle.std.specs.Prelude.{ℕ, ◌*◌, ◌≤◌, ◌≡◌, Bool, true, false, cond, List, [], ◌∷◌, leb, length, Float, Result, Ok, Err}
use Rattle.std.proofs.Common.{ap, ◌∙◌, arith, leb-true}
use Rattle.law.specs.Limit.{particles, entries}
use Rattle.law.specs.declared.refusal.Refusal.{Refusal}
use Rattle.law.specs.declared.refusal.Refusal.TheVariants.{TooManyParticles, TooManyEntries, ShortBuffer, OutOfRange, BadPlan}
use Rattle.law.specs.Room.{Room, enough}
use Rattle.law.proofs.Room.{enough_is}
use Rattle.law.specs.Refusal.{Test, unless, Rising, verdict}
use Rattle.law.proofs.Refusals.{all_pass}
use Rattle.law.specs.Promise.{Door}
use Rattle.law.specs.Said.{Said}
use Rattle.step_routes.specs.Dense.{cleared}
use Rattle.step_entries.specs.Entries.{entries_room, below, any_free, raw_gain, gain_of, Entries, entries_of}
use Rattle.step_entries.specs.Lent.{Entered}
use Rattle.columns_table.specs.Lent.{Numbering}
use Rattle.columns_table.specs.Table.{table_ok}
use Rattle.columns_table.specs.Columns.{columns_need}
use Rattle.columns_combine.specs.declared.Combined.{Combined}
use Rattle.columns_combine.specs.declared.Combined.TheVariants.{NotLoaded, Nothing, Gain}
use Rattle.columns_combine.specs.Said.{combined_said}
use Rattle.columns_combine.specs.Summed.{Sum, sum_of, summed}
use Rattle.columns_combine.specs.Readable.{Readable, readable_of}

pub record In : Type 0 where
  pub n : ℕ
  pub pinned : List ℕ
  pub loaded : ℕ
  pub column_of : List ℕ
  pub columns : List Float
  pub count : ℕ
  pub particles : List ℕ
  pub gradients : List Float
  pub out : List Float

pub record Out : Type 0 where
  pub answer : Result Combined Refusal
  pub said : Said
  pub out : List Float

abbrev pub given : ℕ → Numbering → List Float → Entered → List Float → In
given n table columns entries out = record {
  n = n;
  pinned = table.pinned;
  loaded = table.loaded;
  column_of = table.column_of;
  columns = columns;
  count = entries.count;
  particles = entries.particles;
  gradients = entries.gradients;
  out = out;
}

abbrev pub left : Result Combined Refusal → List Float → Out
left r out = record { answer = r; said = combined_said r; out = out }

-- what table, columns and out need, and what they have; w is out's need
unfoldable pub columns_room : ℕ → ℕ → List ℕ → List Float → ℕ → List Float → Room
columns_room n loaded table columns w out = (n, length table) ∷ (columns_need n loaded, length columns) ∷ (w, length out) ∷ []

-- THE REFUSALS
unfoldable pub refusals : In → List Test
refusals i =
    unless TooManyParticles (leb i.n particles)
    ∷ unless TooManyEntries (leb i.count entries)
    ∷ unless ShortBuffer (enough true (columns_room i.n i.loaded i.column_of i.columns (2 * i.n) i.out))
    ∷ unless ShortBuffer (enough true (entries_room i.n i.pinned i.count i.particles i.gradients))
    ∷ unless OutOfRange (below i.n i.count i.particles)
    ∷ unless BadPlan (table_ok i.n i.pinned i.loaded i.column_of)
    ∷ []

pub in_order : (i : In) → Rising 1 (refusals i)
unfolding refusals
in_order i = (omega arith, (omega arith, (omega arith, (omega arith, (omega arith, (omega arith, tt))))))

-- THE WORK: out is zeroed, and the entries' columns are added up in it
unfoldable pub sum_for : In → Sum
sum_for i = summed i.n i.pinned i.column_of i.columns i.particles i.gradients i.count (cleared i.n i.out)

-- the gain of a whole sum: none is free where no entry is left
abbrev pub answer_of : In → Sum → Combined
answer_of i s =
    cond s.missing NotLoaded
    (cond (any_free i.pinned i.count i.particles)
    (Gain (gain_of (raw_gain i.pinned i.count i.particles i.gradients s.out))) Nothing)

unfoldable pub work : In → Out
work i = left (Ok (answer_of i (sum_for i))) (sum_for i).out

-- a refusal changes nothing
abbrev pub door : Door In Out
door = record { tests = refusals; in_order = in_order; work = work; refuse = λ k i. left (Err k) i.out }

-- ---- what the tests of room say, once they have passed

pub has_places : (n loaded : ℕ) (table : List ℕ) (columns : List Float) (w : ℕ) (out : List Float)
    → enough true (columns_room n loaded table columns w out) ≡ true → n ≤ length table
unfolding columns_room
has_places n loaded table columns w out h = (enough_is true (columns_room n loaded table columns w out) h).0

pub has_marks : (n : ℕ) (pinned : List ℕ) (count : ℕ) (particles : List ℕ) (gradients : List Float)
    → enough true (entries_room n pinned count particles gradients) ≡ true → n ≤ length pinned
unfolding entries_room
has_marks n pinned count particles gradients h = (enough_is true (entries_room n pinned count particles gradients) h).0

-- ---- what the work requires

pub record Ready (i : In) : Type 0 where
  pub readable : Readable i.n i.column_of i.columns
  pub entered : Entries i.n i.pinned i.count i.particles i.gradients
  pub room : 2 * i.n ≤ length i.out

pub ready : (i : In) → Ok tt ≡ verdict (refusals i) → Ready i
unfolding refusals columns_room
ready i h =
    let p = all_pass (refusals i) h in
    let q = p.1.1 in
    let r = enough_is true (columns_room i.n i.loaded i.column_of i.columns (2 * i.n) i.out) q.0 in
    record {
      readable = readable_of i.n i.pinned i.loaded i.column_of i.columns (leb-true _ _ p.0) r.0 r.1.0 q.1.1.1.0;
      entered = entries_of i.n i.pinned i.count i.particles i.gradients (leb-true _ _ p.1.0) q.1.0 q.1.1.0;
      room = r.1.1.0;
    }

-- ---- the sum as it is made, and the three ends: m is out once it is zeroed, o as the sum leaves it

pub sum_is : (i : In) (m o : List Float) (t : Bool) → m ≡ cleared i.n i.out
    → sum_of o t ≡ summed i.n i.pinned i.column_of i.columns i.particles i.gradients i.count m → sum_of o t ≡ sum_for i
unfolding sum_for
sum_is i m o t e h = h ∙ ap (summed i.n i.pinned i.column_of i.columns i.particles i.gradients i.count) e

pub not_loaded : (i : In) (o : List Float) → sum_of o true ≡ sum_for i → left (Ok NotLoaded) o ≡ work i
unfolding work
not_loaded i o e = rw (← e)

pub nothing_left : (i : In) (o : List Float) → sum_of o false ≡ sum_for i → any_free i.pinned i.count i.particles ≡ false → left (Ok Nothing) o ≡ work i
unfolding work
nothing_left i o e f = rw (← e, f)

pub gained : (i : In) (o : List Float) (raw gain : Float) → sum_of o false ≡ sum_for i → any_free i.pinned i.count i.particles ≡ true
    → raw ≡ raw_gain i.pinned i.count i.particles i.gradients o → gain ≡ gain_of raw → left (Ok (Gain gain)) o ≡ work i
unfolding work
gained i o raw gain e f g h = rw (← e, f, h, g)
