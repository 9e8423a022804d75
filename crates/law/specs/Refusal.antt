-- THE REFUSAL LIST of a door: tests, each with the refusal that it stands for, in the order of their numbers (RULES.md § 3).
-- The verdict is the refusal of the first test that fails, and Ok where none does.
use Rattle.std.specs.Prelude.{ℕ, ◌≤◌, ◌<◌, ◌⊎◌, ◌≡◌, Bool, true, false, cond, List, [], ◌∷◌, Result, Ok, Err}
use Rattle.law.specs.declared.refusal.Refusal.{Refusal}
use Rattle.law.specs.Number.{number}

pub record Test : Type 0 where
  pub refusal : Refusal
  pub passes : Bool

-- refusal k unless t
abbrev pub unless : Refusal → Bool → Test
unless k t = record { refusal = k; passes = t }

abbrev pub Verdict : Type 0
Verdict = Result (Unit {0}) Refusal

unfoldable pub verdict : List Test → Verdict
verdict [] = Ok tt
verdict (t ∷ ts) = cond t.passes (verdict ts) (Err t.refusal)

-- the verdict's number: 0 is acceptance
abbrev pub told : Verdict → ℕ
told (Ok _) = 0
told (Err k) = number k

-- the numbers are k or more and never fall. A door's list is so from 1 on: 0 means acceptance, and no refusal bears it
abbrev pub Rising : ℕ → List Test → Type 0
Rising k [] = Unit {0}
Rising k (t ∷ ts) = (k ≤ number t.refusal) × Rising (number t.refusal) ts

-- ---- a test that is made only where d holds

unfoldable pub when : Bool → Bool → Bool
when d t = cond d t true

-- ---- what Ok means: every test passes, both ways

-- every test passes, as a tuple of facts in the list's order
abbrev pub Passed : List Test → Type 0
Passed [] = Unit {0}
Passed (t ∷ ts) = (t.passes ≡ true) × Passed ts

-- ---- what a refusal means: a test of that refusal fails, and none of a lower number does

-- some test of the refusal k fails
abbrev pub Fails : List Test → Refusal → Type 0
Fails [] k = ⊥
Fails (t ∷ ts) k = ((t.refusal ≡ k) × (t.passes ≡ false)) ⊎ Fails ts k

-- every number is below m
abbrev pub Under : ℕ → List Test → Type 0
Under m [] = Unit {0}
Under m (t ∷ ts) = (number t.refusal < m) × Under m ts
