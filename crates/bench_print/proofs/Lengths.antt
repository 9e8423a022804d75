-- How long the lines can be: a u32 has at most ten digits.
use Prim.Native.Nat.{ℕ, suc, ◌+◌, ◌*◌, ◌/◌, ◌≤◌, ◌<◌}
use mathlib.Core.Path.{◌≡◌, refl}
use mathlib.Core.Bool.{Bool, true, false}
use mathlib.Core.List.{List}
use native.Mathlib.Omega.{arith}
use native.Mathlib.Nat.{div-add-mod'}
use lib.ListN.{length, get_or, length-append}
use lib.Dec.{ltb}
use borrow.Author.Tests.{ltb-true, ltb-false}
use Rattle.law.specs.Bytes.{bytes}
use Rattle.law.specs.Gather.{up_to}
use Rattle.law.proofs.Gather.{up_to_none, up_to_more}
use Rattle.law.proofs.Loop.{from}
use Rattle.bench_print.specs.Digits.{digits}
use Rattle.bench_print.proofs.Digits.{digits_one, digits_more}
use Rattle.bench_print.specs.Lines.{item, listed, order_line, number_line, plan_text, refused_text, lines_room, refused_room}

short_case : (k n m : ℕ) (b : Bool) → ltb n 10 ≡ b → n < m * 10 → ((x : ℕ) → x < m → length (digits x) ≤ k) → 0 < k → length (digits n) ≤ suc k
short_case k n m true e h ih p = rw (digits_one n (ltb-true n 10 e)) (omega arith)
short_case k n m false e h ih p =
    rw (digits_more n (ltb-false n 10 e), length-append) (omega (arith, ih (n / 10) (omega (arith, div-add-mod' n 10))))

pub at_most_ten : (n : ℕ) → n < 4294967296 → length (digits n) ≤ 10
at_most_ten n h =
    up 8 1000000000 (up 7 100000000 (up 6 10000000 (up 5 1000000 (up 4 100000 (up 3 10000 (up 2 1000 (up 1 100 (up 0 10 few)))))))) n (omega arith)
  where
    few : (x : ℕ) → x < 10 → length (digits x) ≤ 1
    few x l = rw (digits_one x l) (omega arith)

    up : (k m : ℕ) → ((x : ℕ) → x < m → length (digits x) ≤ suc k) → (x : ℕ) → x < m * 10 → length (digits x) ≤ suc (suc k)
    up k m ih x l = short_case (suc k) x m _ refl l ih (omega arith)

listed_short : (l : List ℕ) → ((i : ℕ) → get_or l i 0 < 4294967296) → length (listed l) ≤ 11 * length l
unfolding listed up_to item
listed_short l h =
    let g : ℕ → List ℕ = λ i. item (get_or l i 0) in
    from (λ k. up_to g k ≤ 11 * k) 0 (omega (arith, up_to_none g)) (λ k q ih. omega (arith, up_to_more g k, at_most_ten (get_or l k 0) (h k))) (length l)
    (omega arith)

line_short : (word : List ℕ) (n : ℕ) → n < 4294967296 → length (number_line word n) ≤ length word + 11
unfolding number_line bytes
line_short word n h = rw (length-append, length-append) (omega (arith, at_most_ten n h))

pub plan_short : (l : List ℕ) (e m : ℕ) → ((i : ℕ) → get_or l i 0 < 4294967296) → e < 4294967296 → lines_room (length l) ≤ m → length (plan_text l e) ≤ m
unfolding plan_text order_line bytes
plan_short l e m h g fits =
    rw length-append (omega (arith, length-append (listed l) (bytes "\n"), listed_short l h, line_short (bytes "envelope ") e g))

pub refused_short : (k m : ℕ) → k < 4294967296 → refused_room ≤ m → length (refused_text k) ≤ m
unfolding refused_text bytes
refused_short k m h fits = omega (arith, line_short (bytes "refused ") k h)
