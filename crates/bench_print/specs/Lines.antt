-- THE PROGRAM'S LINES.
use Rattle.std.specs.Prelude.{ℕ, ◌+◌, ◌*◌, List, ◌∷◌, ◌++◌, length, get_or}
use Rattle.law.specs.Bytes.{bytes}
use Rattle.law.specs.Gather.{gather}
use Rattle.bench_print.specs.Digits.{digits}

-- a number with a space before it
unfoldable pub item : ℕ → List ℕ
item x = 32 ∷ digits x

unfoldable pub listed : List ℕ → List ℕ
listed l = gather (λ i. item (get_or l i 0)) 0 (length l)

unfoldable pub order_line : List ℕ → List ℕ
order_line order = bytes "order" ++ (listed order ++ bytes "\n")

unfoldable pub number_line : List ℕ → ℕ → List ℕ
number_line word n = word ++ (digits n ++ bytes "\n")

-- what is printed of a plan, and of a refusal
unfoldable pub plan_text : List ℕ → ℕ → List ℕ
plan_text order envelope = order_line order ++ number_line (bytes "envelope ") envelope

unfoldable pub refused_text : ℕ → List ℕ
refused_text number = number_line (bytes "refused ") number

-- room enough for each, ten digits to a number
abbrev pub lines_room : ℕ → ℕ
lines_room n = 26 + 11 * n

abbrev pub refused_room : ℕ
refused_room = 19
