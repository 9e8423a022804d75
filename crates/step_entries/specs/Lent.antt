-- A RESPONSE'S ENTRIES, lent together.
use Rattle.std.specs.Prelude.{ℕ, Bool, List, Float}
use Rattle.law.specs.Room.{Room}
use Rattle.step_entries.specs.declared.entries.Entries.{Entries}
use Rattle.step_entries.specs.Entries as definitions

pub record Entered : Type 0 where
  pub count : ℕ
  pub particles : List ℕ
  pub gradients : List Float

abbrev pub entered : ℕ → List ℕ → List Float → Entered
entered count particles gradients = record { count = count; particles = particles; gradients = gradients }

-- what lent entries' lists hold
abbrev pub entered_of : Entries → Entered
entered_of e = entered e.count e.particles.now e.gradients.now

-- what each list needs, and what it has; that each has it, and that every particle is below n
abbrev pub room_of : ℕ → List ℕ → Entered → Room
room_of n pinned e = definitions.entries_room n pinned e.count e.particles e.gradients

abbrev pub all_below : ℕ → Entered → Bool
all_below n e = definitions.below n e.count e.particles

abbrev pub IsEntered : ℕ → List ℕ → Entered → Type 0
IsEntered n pinned e = definitions.Entries n pinned e.count e.particles e.gradients

-- whether an entry is left, the right-hand side, and the sum of the gains
abbrev pub some_free : List ℕ → Entered → Bool
some_free pinned e = definitions.any_free pinned e.count e.particles

abbrev pub load_of : List ℕ → Entered → List Float → List Float
load_of pinned e l = definitions.loaded pinned e.count e.particles e.gradients l

abbrev pub gain_sum : List ℕ → Entered → List Float → Float
gain_sum pinned e out = definitions.raw_gain pinned e.count e.particles e.gradients out
