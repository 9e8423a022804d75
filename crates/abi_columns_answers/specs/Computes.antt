-- COMPUTED COLUMNS OVER THE C ABI: six counts say how many of the solves ended in each way, as they were where the call is refused. The lent tally
-- goes in as seven counts and comes back so, also where the call is refused: that is counted too.
use Rattle.std.specs.Prelude.{ℕ, ◌≡◌, refl, List, Result, Ok, Err}
use Rattle.law.specs.declared.refusal.Refusal.{Refusal}
use Rattle.law.specs.Said.{Said, refused, carries, refusal_of}
use Rattle.step_tally.specs.declared.Tally.{Tally}
use Rattle.step_tally.specs.Count.{counts_of}
use Rattle.columns_make.specs.Said.{computed_said}
use Rattle.columns_make.specs.Making as making
use Rattle.columns_make.specs.declared.Ended.{Ended}
use Rattle.abi_answers.specs.Numbers.{answered}

pub computed_number : (a : Result Ended Refusal) → answered a ≡ refusal_of (computed_said a)
computed_number (Err k) = refl
computed_number (Ok e) = refl

-- all the whole numbers that an answer carries, in its order
abbrev pub wholes_by : Said → List ℕ → List ℕ
wholes_by (refused k) old = old
wholes_by (carries how counts values) old = counts

-- the answer and the record after it are what is told
pub record Reckoned : Type 0 where
  pub answer : Result Ended Refusal
  pub tally : Tally

abbrev pub reckoned : making.Out → Reckoned
reckoned o = record { answer = o.answer; tally = o.tally }

abbrev pub reckoned_number : Reckoned → ℕ
reckoned_number a = answered a.answer

pub record Numbers : Type 0 where
  pub counts : List ℕ
  pub ended : List ℕ

abbrev pub numbers : List ℕ → List ℕ → Numbers
numbers counts ended = record { counts = counts; ended = ended }

-- what the places hold after the answer, from what they held
abbrev pub numbers_of : Reckoned → Numbers → Numbers
numbers_of a old = numbers (counts_of a.tally) (wholes_by (computed_said a.answer) old.ended)

-- both are equal
pub same_numbers : (counts counts' ended ended' : List ℕ) → counts ≡ counts' → ended ≡ ended' → numbers counts ended ≡ numbers counts' ended'
same_numbers counts counts' ended ended' c e = rw (c, e)
