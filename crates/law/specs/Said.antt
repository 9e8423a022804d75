-- WHAT AN ANSWER SAYS (RULES.md § 8): the number and values of each case of an enum. A refusal says its number;
-- any other answer which of the cases it is, the whole numbers that it carries, and its floats.
use Rattle.std.specs.Prelude.{ℕ, List, Float}

pub data Said : Type 0 where
  refused : ℕ → Said
  carries : ℕ → List ℕ → List Float → Said

-- the number over the C ABI: a refusal's own, and 0 for acceptance
abbrev pub refusal_of : Said → ℕ
refusal_of (refused k) = k
refusal_of (carries how counts values) = 0
