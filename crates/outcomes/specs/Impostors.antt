-- IMPOSTORS that no promise admits, said of all of their kind.
use Rattle.std.specs.Prelude.{ℕ, ◌<◌, ◌≡◌, List, [], ◌∷◌, length}
use Rattle.law.specs.Refusal.{Passed}
use Rattle.law.specs.Promise.{Door, Promise}
use Rattle.matrix_pairs.specs.Pairs.{Together}
use Rattle.order_demand3.specs.Demand.{Ordered}
use Rattle.step_tally.specs.Runs.{fresh, solves}
use Rattle.step_doors.specs.Calls.{Call, MadeAll, asks_of}

-- WHO REFUSES EVERYTHING: where the tests of the refusal table pass, the outcome is the work
abbrev pub NoGoodCallRefused : Type 1
NoGoodCallRefused = (I O : Type 0) (d : Door I O) (i : I) (o : O) → Passed (d.tests i) → Promise d i o → o ≡ d.work i

-- WHO LISTS A CONSTANT ORDER: no order is that of three particles under every single pair of them.
-- A pair joins two (rules, module 2), and demand 3 lets nobody else stand between them
abbrev pub NoConstantOrder : Type 0
NoConstantOrder = (o : ℕ → ℕ) → ((a b : ℕ) → a < 3 → b < 3 → Ordered 3 (Together (a ∷ b ∷ []) 1) o) → ⊥

-- WHO KEEPS THE TALLY SILENT: calls that leave a fresh record fresh have asked for no step solve
abbrev pub NoSilentTally : Type 0
NoSilentTally = (l : List Call) → MadeAll l fresh fresh → length (solves (asks_of l)) ≡ 0
