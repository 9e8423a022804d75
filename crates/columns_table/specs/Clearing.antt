-- THE DOOR `clear_columns`: no particle is loaded. Neither what the table held nor a count is looked at.
use Rattle.std.specs.Prelude.{ℕ, List, [], ◌∷◌, ◌++◌, leb, length, drop, replicate, Result, Ok, Err}
use Rattle.std.proofs.Common.{arith}
use Rattle.law.specs.Limit.{particles, unloaded}
use Rattle.law.specs.declared.refusal.Refusal.{Refusal}
use Rattle.law.specs.declared.refusal.Refusal.TheVariants.{TooManyParticles, ShortBuffer}
use Rattle.law.specs.Refusal.{Test, unless, Rising}
use Rattle.law.specs.Promise.{Door}
use Rattle.law.specs.Said.{Said}
use Rattle.columns_table.specs.Said.{loaded_said}

pub record In : Type 0 where
  pub n : ℕ
  pub column_of : List ℕ

pub record Out : Type 0 where
  pub answer : Result ℕ Refusal
  pub said : Said
  pub column_of : List ℕ

abbrev pub given : ℕ → List ℕ → In
given n table = record { n = n; column_of = table }

abbrev pub left : Result ℕ Refusal → List ℕ → Out
left r table = record { answer = r; said = loaded_said r; column_of = table }

-- THE REFUSALS
unfoldable pub refusals : In → List Test
refusals i = unless TooManyParticles (leb i.n particles) ∷ unless ShortBuffer (leb i.n (length i.column_of)) ∷ []

pub in_order : (i : In) → Rising 1 (refusals i)
unfolding refusals
in_order i = (omega arith, (omega arith, tt))

-- THE WORK
abbrev pub emptied : ℕ → List ℕ → List ℕ
emptied n table = replicate n unloaded ++ drop n table

abbrev pub door : Door In Out
door = record {
  tests = refusals;
  in_order = in_order;
  work = λ i. left (Ok 0) (emptied i.n i.column_of);
  refuse = λ k i. left (Err k) i.column_of;
}
