-- Writing a text as a part of the buffer, and a list number by number: the turns of the loop.
use Prim.Native.Nat.{ℕ, ◌+◌, ◌-◌, ◌≤◌, ◌<◌}
use mathlib.Core.Path.{◌≡◌, refl, sym, ap, ◌∙◌}
use mathlib.Core.List.{List, [], ◌∷◌, ◌++◌, append_assoc}
use native.Mathlib.Omega.{arith}
use lib.ListN.{length, get_or, take, drop, set}
use lib.Seq.{sets-eq, drop-drop}
use Rattle.law.specs.Store.{written}
use Rattle.law.specs.Gather.{gather, up_to}
use Rattle.law.proofs.Gather.{gather_none, gather_more, up_to_more, up_to_rise}
use Rattle.law.specs.Put.{Put, put_none, put_one, put_both}
use Rattle.bench_print.specs.Digits.{digits}
use Rattle.bench_print.specs.Lines.{item, listed}

-- ---- bytes, as a part of the buffer that is handed back

pub bytes_put : (text old : List ℕ) (at : ℕ) → at + length text ≤ length old
    → Put text at old (take at old ++ (text ++ drop ((at + length text) - at) (drop at old))) (at + length text)
unfolding written
bytes_put text old at h =
    let e : (at + length text) - at ≡ length text = omega arith in
    record {
      next = refl;
      holds = sym (sets-eq text old at (omega arith) ∙ append_assoc (take at old) text (drop (at + length text) old)
          ∙ ap (λ (t : List ℕ). take at old ++ (text ++ t)) (sym (rw e (drop-drop (length text) at old))));
    }

-- ---- numbers: the first i items are written

unfoldable pub items : List ℕ → ℕ → List ℕ
items list i = gather (λ i. item (get_or list i 0)) 0 i

pub items_none : (list old : List ℕ) (at : ℕ) → Put (items list 0) at old old at
unfolding items
items_none list old at = rw (← gather_none (λ i. item (get_or list i 0)) 0) (put_none old at)

pub items_turn : (list old out new : List ℕ) (at i to r : ℕ) → Put (items list i) at old out to → Put (item (get_or list i 0)) to out new r
    → Put (items list (i + 1)) at old new r
unfolding items
items_turn list old out new at i to r p q =
    rw (← gather_more (λ i. item (get_or list i 0)) 0 i (omega arith)) (put_both (items list i) (item (get_or list i 0)) old out new at to r p q)

-- the next item has room where all of them have
pub items_room : (list old out : List ℕ) (at i to : ℕ) → at + length (listed list) ≤ length old → length out ≡ length old → i < length list
    → Put (items list i) at old out to
    → to + length (item (get_or list i 0)) ≤ length out
unfolding items listed up_to
items_room list old out at i to h e l p =
    let g : ℕ → List ℕ = λ i. item (get_or list i 0) in
    omega (arith, p.next, up_to_more g i, up_to_rise g (i + 1) (length list) (omega arith))

pub items_end : (list old out : List ℕ) (at i to : ℕ) → i ≡ length list → Put (items list i) at old out to → Put (listed list) at old out to
unfolding items listed
items_end list old out at i to e p = rw e at p

-- ---- one item

pub item_room : (x at m : ℕ) → at + length (item x) ≤ m → at + 1 + length (digits x) ≤ m
unfolding item
item_room x at m h = omega arith

pub item_put : (x at q : ℕ) (old new : List ℕ) → Put (digits x) (at + 1) (set old at 32) new q → Put (item x) at old new q
unfolding item
item_put x at q old new p = put_both (32 ∷ []) (digits x) old _ new at _ q (put_one 32 old at) p
