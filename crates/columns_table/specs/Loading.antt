-- THE DOOR `load_particle`: a new, unpinned particle has the next number; loading a pinned one, or one twice, changes nothing.
use Rattle.std.specs.Prelude.{ℕ, ◌+◌, ◌≤◌, ◌<◌, ◌≡◌, Bool, true, false, ◌&&◌, not, cond, List, [], ◌∷◌, leb, ltb, eqb, length, set, Result, Ok, Err}
use Rattle.std.proofs.Common.{⊎_elim, arith, leb-true, ltb-true, le-leb}
use Rattle.std.proofs.lemmas.Bool.{not-true, not-false}
use Rattle.law.specs.Limit.{particles, columns, unloaded}
use Rattle.law.specs.declared.refusal.Refusal.{Refusal}
use Rattle.law.specs.declared.refusal.Refusal.TheVariants.{TooManyParticles, TooManyEntries, ShortBuffer, OutOfRange, BadPlan}
use Rattle.law.specs.Room.{Room, enough}
use Rattle.law.proofs.Room.{enough_is}
use Rattle.law.specs.Truth.{both, and_true, below_or, clash}
use Rattle.law.specs.Refusal.{Test, unless, Rising, verdict}
use Rattle.law.proofs.Refusals.{all_pass}
use Rattle.law.specs.Promise.{Door}
use Rattle.law.specs.Said.{Said}
use Rattle.matrix_shape.specs.Rows.{at}
use Rattle.columns_table.specs.Said.{loaded_said}
use Rattle.columns_table.specs.Table.{table_ok}

pub record In : Type 0 where
  pub n : ℕ
  pub pinned : List ℕ
  pub loaded : ℕ
  pub particle : ℕ
  pub column_of : List ℕ

pub record Out : Type 0 where
  pub answer : Result ℕ Refusal
  pub said : Said
  pub column_of : List ℕ

abbrev pub given : ℕ → List ℕ → ℕ → ℕ → List ℕ → In
given n pinned loaded particle table = record { n = n; pinned = pinned; loaded = loaded; particle = particle; column_of = table }

abbrev pub left : Result ℕ Refusal → List ℕ → Out
left r table = record { answer = r; said = loaded_said r; column_of = table }

-- new, as far as the lists show it: the particle is below n and has its place in both, unpinned and unloaded
unfoldable pub is_new : ℕ → List ℕ → List ℕ → ℕ → Bool
is_new n pinned table p = (ltb p n && ltb p (length pinned) && ltb p (length table)) && (eqb (at pinned p) 0 && eqb (at table p) unloaded)

-- what the lists need, and what they have
unfoldable pub table_room : ℕ → List ℕ → List ℕ → Room
table_room n pinned table = (n, length pinned) ∷ (n, length table) ∷ []

-- THE REFUSALS. One more than 16 comes before the room: its test looks only where there is a place
unfoldable pub refusals : In → List Test
refusals i =
    unless TooManyParticles (leb i.n particles)
    ∷ unless TooManyEntries (not (is_new i.n i.pinned i.column_of i.particle && leb columns i.loaded))
    ∷ unless ShortBuffer (enough true (table_room i.n i.pinned i.column_of))
    ∷ unless OutOfRange (ltb i.particle i.n)
    ∷ unless BadPlan (table_ok i.n i.pinned i.loaded i.column_of)
    ∷ []

pub in_order : (i : In) → Rising 1 (refusals i)
unfolding refusals
in_order i = (omega arith, (omega arith, (omega arith, (omega arith, (omega arith, tt)))))

-- THE WORK
unfoldable pub work : In → Out
work i = cond (is_new i.n i.pinned i.column_of i.particle) (left (Ok (i.loaded + 1)) (set i.column_of i.particle i.loaded))
    (left (Ok i.loaded) i.column_of)

abbrev pub door : Door In Out
door = record { tests = refusals; in_order = in_order; work = work; refuse = λ k i. left (Err k) i.column_of }

-- what the test of room says, once it has passed
pub held : (n : ℕ) (pinned table : List ℕ) → enough true (table_room n pinned table) ≡ true → (n ≤ length pinned) × (n ≤ length table)
unfolding table_room
held n pinned table h = let e = enough_is true (table_room n pinned table) h in (e.0, e.1.0)

-- ---- what the work requires

pub record Ready (i : In) : Type 0 where
  pub few : i.n ≤ particles
  pub marks : i.n ≤ length i.pinned
  pub places : i.n ≤ length i.column_of
  pub inside : i.particle < i.n
  pub table : table_ok i.n i.pinned i.loaded i.column_of ≡ true
  -- a new one has a number left
  pub room : is_new i.n i.pinned i.column_of i.particle ≡ true → i.loaded < columns

pub ready : (i : In) → Ok tt ≡ verdict (refusals i) → Ready i
unfolding refusals table_room
ready i h =
    let p = all_pass (refusals i) h in
    let e = enough_is true (table_room i.n i.pinned i.column_of) p.1.1.0 in
    let full = is_new i.n i.pinned i.column_of i.particle && leb columns i.loaded in
    record {
      few = leb-true _ _ p.0;
      marks = e.0;
      places = e.1.0;
      inside = ltb-true _ _ p.1.1.1.0;
      table = p.1.1.1.1.0;
      room = λ new. ⊎_elim (λ l. l) (λ l. absurd (clash full (not-true full p.1.0) (and_true _ _ new (le-leb _ _ l)))) (below_or i.loaded columns);
    }

-- ---- whether a particle is new, as the code tests it

module _ (n : ℕ) (pinned table : List ℕ) (p : ℕ) where
  abbrev pub has_place : Bool
  has_place = ltb p n && ltb p (length pinned) && ltb p (length table)

  pub has_place_lem : not has_place ≡ false → (p < n) × ((p < length pinned) × (p < length table))
  has_place_lem h =
      let a = both (ltb p n && ltb p (length pinned)) (ltb p (length table)) (not-false has_place h) in
      let b = both (ltb p n) (ltb p (length pinned)) a.0 in
      (ltb-true _ _ b.0, (ltb-true _ _ b.1, ltb-true _ _ a.1))

  pub no_place : not has_place ≡ true → false ≡ is_new n pinned table p
  unfolding is_new
  no_place h = rw (not-true has_place h)

  pub in_place : not has_place ≡ false → (eqb (at pinned p) 0 && eqb (at table p) unloaded) ≡ is_new n pinned table p
  unfolding is_new
  in_place h = rw (not-false has_place h)

-- ---- the two ends of the work

pub loads_none : (i : In) → is_new i.n i.pinned i.column_of i.particle ≡ false → left (Ok i.loaded) i.column_of ≡ work i
unfolding work
loads_none i h = rw h

pub loads_one : (i : In) → is_new i.n i.pinned i.column_of i.particle ≡ true
    → left (Ok (i.loaded + 1)) (set i.column_of i.particle i.loaded) ≡ work i
unfolding work
loads_one i h = rw h
