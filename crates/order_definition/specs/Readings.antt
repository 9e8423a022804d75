-- The starred readings (RULES.md § 11) of the order and its envelope, computed; and two graphs that tell what those leave open: neighbours whose
-- degrees are not in the order of their indices, and a start that moves as often as it may.
use Rattle.std.specs.Prelude.{ℕ, ◌+◌, ◌≡◌, refl, true, List, [], ◌∷◌, get_or}
use Rattle.order_definition.specs.Order.{numbers, least, degree, neighbours, reach, depth, far_of, settle, choose_start}
use Rattle.order_definition.specs.Order.{start_after, fresh, placing, order_of}
use Rattle.order_definition.specs.Envelope.{first_block, first_col, row_starts}

-- an envelope's row starts, and its length
starts_of : ℕ → List ℕ → List ℕ → List ℕ
starts_of n starts cols = row_starts starts cols (order_of n starts cols) (n + n)

length_of : ℕ → List ℕ → List ℕ → ℕ
length_of n starts cols = get_or (starts_of n starts cols) (n + n) 0

-- n=3, pairs 0-1, 1-2
starts3 : List ℕ
starts3 = 0 ∷ 2 ∷ 5 ∷ 7 ∷ []

cols3 : List ℕ
cols3 = 0 ∷ 1 ∷ 0 ∷ 1 ∷ 2 ∷ 1 ∷ 2 ∷ []

-- n=4, pair 0-2
starts4 : List ℕ
starts4 = 0 ∷ 2 ∷ 3 ∷ 5 ∷ 6 ∷ []

cols4 : List ℕ
cols4 = 0 ∷ 2 ∷ 1 ∷ 0 ∷ 2 ∷ 3 ∷ []

-- n=6, pairs 1-2, 2-3, 3-4, 4-5, 0-3
starts6 : List ℕ
starts6 = 0 ∷ 2 ∷ 4 ∷ 7 ∷ 11 ∷ 14 ∷ 16 ∷ []

cols6 : List ℕ
cols6 = 0 ∷ 3 ∷ 1 ∷ 2 ∷ 1 ∷ 2 ∷ 3 ∷ 0 ∷ 2 ∷ 3 ∷ 4 ∷ 3 ∷ 4 ∷ 5 ∷ 4 ∷ 5 ∷ []

-- n=5, pairs 0-1, 0-2, 0-3, 1-4
starts5 : List ℕ
starts5 = 0 ∷ 4 ∷ 7 ∷ 9 ∷ 11 ∷ 13 ∷ []

cols5 : List ℕ
cols5 = 0 ∷ 1 ∷ 2 ∷ 3 ∷ 0 ∷ 1 ∷ 4 ∷ 0 ∷ 2 ∷ 0 ∷ 3 ∷ 1 ∷ 4 ∷ []

-- n=26, one of the graphs that oracle/src/moves.rs has: pairs 0-19, 0-24, 1-14, 2-6, 2-8, 3-5, 3-14, 4-12, 4-17, 5-6, 5-18, 6-11, 7-10, 7-13, 7-24,
-- 8-9, 9-25, 10-23, 11-20, 11-22, 12-16, 12-24, 13-15, 14-23, 15-21, 17-22, 20-25
starts26 : List ℕ
starts26 = 0 ∷ 3 ∷ 5 ∷ 8 ∷ 11 ∷ 14 ∷ 18 ∷ 22 ∷ 26 ∷ 29 ∷ 32 ∷ 35 ∷ 39 ∷ 43 ∷ 46 ∷ 50 ∷ 53 ∷ 55 ∷ 58 ∷ 60 ∷ 62 ∷ 65 ∷ 67 ∷ 70 ∷ 73 ∷ 77 ∷ 80 ∷ []

cols26 : List ℕ
cols26 =
    0 ∷ 19 ∷ 24 ∷ 1 ∷ 14 ∷ 2 ∷ 6 ∷ 8 ∷ 3 ∷ 5 ∷ 14 ∷ 4 ∷ 12 ∷ 17 ∷ 3 ∷ 5 ∷ 6 ∷ 18 ∷ 2 ∷ 5 ∷ 6 ∷ 11 ∷ 7 ∷ 10 ∷ 13 ∷ 24 ∷ 2 ∷ 8 ∷ 9
    ∷ 8 ∷ 9 ∷ 25 ∷ 7 ∷ 10 ∷ 23 ∷ 6 ∷ 11 ∷ 20 ∷ 22 ∷ 4 ∷ 12 ∷ 16 ∷ 24 ∷ 7 ∷ 13 ∷ 15 ∷ 1 ∷ 3 ∷ 14 ∷ 23 ∷ 13 ∷ 15 ∷ 21 ∷ 12 ∷ 16
    ∷ 4 ∷ 17 ∷ 22 ∷ 5 ∷ 18 ∷ 0 ∷ 19 ∷ 11 ∷ 20 ∷ 25 ∷ 15 ∷ 21 ∷ 11 ∷ 17 ∷ 22 ∷ 10 ∷ 14 ∷ 23 ∷ 0 ∷ 7 ∷ 12 ∷ 24 ∷ 9 ∷ 20 ∷ 25 ∷ []

-- where its first stretch would start if there were at most k more searches
moved26 : ℕ → ℕ
moved26 k =
    let nb = neighbours starts26 cols26 in
    let s = least 26 (degree nb) (numbers 26) in
    let r = reach nb 26 (λ v. true) s 26 in
    settle nb 26 (λ v. true) k s (far_of nb 26 r) (depth nb 26 r)

record Readings : Type 0 where
  order0 : order_of 0 (0 ∷ []) [] ≡ []
  envelope0 : length_of 0 (0 ∷ []) [] ≡ 0
  order1 : order_of 1 (0 ∷ 1 ∷ []) (0 ∷ []) ≡ 0 ∷ []
  envelope1 : starts_of 1 (0 ∷ 1 ∷ []) (0 ∷ []) ≡ 0 ∷ 1 ∷ 3 ∷ []
  order3 : order_of 3 starts3 cols3 ≡ 2 ∷ 1 ∷ 0 ∷ []
  envelope3 : starts_of 3 starts3 cols3 ≡ 0 ∷ 1 ∷ 3 ∷ 6 ∷ 10 ∷ 13 ∷ 17 ∷ []
  order4 : order_of 4 starts4 cols4 ≡ 2 ∷ 0 ∷ 3 ∷ 1 ∷ []
  envelope4 : length_of 4 starts4 cols4 ≡ 16
  order6 : order_of 6 starts6 cols6 ≡ 5 ∷ 4 ∷ 0 ∷ 3 ∷ 2 ∷ 1 ∷ []
  envelope6 : length_of 6 starts6 cols6 ≡ 38
  -- the start moves from 0, the particle of least (degree, index), to 1
  least6 : least 6 (degree (neighbours starts6 cols6)) (numbers 6) ≡ 0
  start6 : start_after (neighbours starts6 cols6) 6 [] ≡ 1
  -- 3 is placed before 1, which has more neighbours
  order5 : order_of 5 starts5 cols5 ≡ 4 ∷ 1 ∷ 3 ∷ 0 ∷ 2 ∷ []
  -- the start moves four times, from 1 to 16, 18, 19 and 8, and would move a fifth time, to 21
  least26 : moved26 0 ≡ 1
  once26 : moved26 1 ≡ 16
  twice26 : moved26 2 ≡ 18
  thrice26 : moved26 3 ≡ 19
  start26 : start_after (neighbours starts26 cols26) 26 [] ≡ 8
  fifth26 : moved26 5 ≡ 21

readings : Readings
unfolding starts_of length_of starts3 cols3 starts4 cols4 starts5 cols5 starts6 cols6 starts26 cols26 moved26 order_of row_starts first_col first_block
    placing choose_start fresh settle reach neighbours
readings = record {
  order0 = refl;
  envelope0 = refl;
  order1 = refl;
  envelope1 = refl;
  order3 = refl;
  envelope3 = refl;
  order4 = refl;
  envelope4 = refl;
  order6 = refl;
  envelope6 = refl;
  least6 = refl;
  start6 = refl;
  order5 = refl;
  least26 = refl;
  once26 = refl;
  twice26 = refl;
  thrice26 = refl;
  start26 = refl;
  fifth26 = refl;
}
