-- One more search, and where the search for a start ends.
use Prim.Native.Nat.{ℕ, zero, suc, ◌-◌, ◌≤◌, ◌<◌}
use native.Mathlib.Omega.{arith}
use mathlib.Core.Path.{◌≡◌, refl, ap, ◌∙◌}
use mathlib.Core.Bool.{Bool, true, false}
use mathlib.Core.List.{List}
use lib.ListN.{length}
use lib.Dec.{leb}
use borrow.Author.Tests.{le-leb, lt-leb}
use Rattle.order_definition.specs.Order.{passing, numbers, least, degree, reach, depth, far_of, settle, choose_start}
use Rattle.order_definition.specs.Keys.{key_of, first_by, valued, Below}
use Rattle.order_definition.specs.Marks.{unmarked}
use Rattle.order_definition.specs.Searches.{FreeAt, SomeFree, TableOf}
use Rattle.order_definition.proofs.Visiting.{in_below}
use Rattle.order_definition.proofs.Pigeon.{in_numbers, numbers_below}
use Rattle.order_definition.proofs.Choosing.{first_some, first_least}
use Rattle.order_definition.proofs.Lists.{in_passing}
use Rattle.order_search.specs.declared.graph.Graph.{Graph}
use Rattle.order_search.specs.Graph.{beside, reached}
use Rattle.order_search.proofs.Exploring.{sound}
use Rattle.std.proofs.Common.{IsSome, Some}
use Rattle.order_start.proofs.Looking.{keys_are}
use Rattle.order_definition.proofs.Free.{far_free, least_free}
use Rattle.order_definition.proofs.Rows.{near}

module _ (nb : ℕ → List ℕ) (n : ℕ) (free : ℕ → Bool) where
  pub settle_stop : (k s far deep : ℕ) → 0 < k → depth nb n (reach nb n free far n) ≤ deep → settle nb n free k s far deep ≡ s
  unfolding settle
  settle_stop zero s far deep h le = absurd (omega arith)
  settle_stop (suc k) s far deep h le = go (leb (depth nb n (reach nb n free far n)) deep) (le-leb (depth nb n (reach nb n free far n)) deep le)
    where
      go : (b : Bool) → b ≡ true → elim b as (λ _. ℕ) [
        | true ↦ s
        | false ↦ settle nb n free k far (far_of nb n (reach nb n free far n))
            (depth nb n (reach nb n free far n))
      ] ≡ s
      go true p = refl
      go false p = absurd (mathlib.Core.Bool.false≢true p)

  pub settle_go : (k s far deep : ℕ) → 0 < k → deep < depth nb n (reach nb n free far n)
      → settle nb n free k s far deep ≡ settle nb n free (k - 1) far (far_of nb n (reach nb n free far n)) (depth nb n (reach nb n free far n))
  unfolding settle
  settle_go zero s far deep h lt = absurd (omega arith)
  settle_go (suc k) s far deep h lt =
      go (leb (depth nb n (reach nb n free far n)) deep) (lt-leb (depth nb n (reach nb n free far n)) deep lt)
      ∙ ap (λ (j : ℕ). settle nb n free j far (far_of nb n (reach nb n free far n)) (depth nb n (reach nb n free far n))) down
    where
      down : k ≡ suc k - 1
      down = omega arith

      go : (b : Bool) → b ≡ false → elim b as (λ _. ℕ) [
        | true ↦ s
        | false ↦ settle nb n free k far (far_of nb n (reach nb n free far n))
            (depth nb n (reach nb n free far n))
      ] ≡ settle nb n free k far (far_of nb n (reach nb n free far n)) (depth nb n (reach nb n free far n))
      go true p = absurd (mathlib.Core.Bool.true≢false p)
      go false p = refl

pub none : (nb : ℕ → List ℕ) (n : ℕ) (free : ℕ → Bool) (k s far deep : ℕ) → k ≡ 0 → s ≡ settle nb n free k s far deep
unfolding settle
none nb n free zero s far deep e = refl
none nb n free (suc k) s far deep e = absurd (omega arith)

pub far_free_at : (g : Graph) (mark : List ℕ) (s : ℕ) → length mark ≡ g.n → FreeAt mark s → FreeAt mark (far_of (beside g) g.n (reached g mark s))
far_free_at g mark s long f =
    let q = far_free (beside g) g.n (unmarked mark) (near g.n _ _ g.tight) (reached g mark s) (sound g mark s long f g.n) in
    record { below = omega (arith, q.0); free = q.1 }

-- ---- the whole choice

module _ (g : Graph) (mark degrees list : List ℕ) (long : length mark ≡ g.n) (table : TableOf g.row_offsets.now g.cols.now g.n degrees)
    (e : list ≡ numbers (length mark)) (one : SomeFree mark) where
  abbrev first_of : ℕ
  first_of = least g.n (degree (beside g)) (passing (unmarked mark) (numbers g.n))

  pub counted_below : Below (length degrees) list
  counted_below = rw (table.long, e, long) (in_below g.n (numbers g.n) (numbers_below g.n))

  pub least_some : IsSome (first_by (key_of degrees) (passing (valued mark 0) list))
  least_some = first_some (key_of degrees) (passing (valued mark 0) list) one.one (in_passing (valued mark 0) list one.one (rw e (in_numbers (length mark) one.one one.is_free.below)) one.is_free.free)

  module _ (s : ℕ) (h : first_by (key_of degrees) (passing (valued mark 0) list) ≡ Some s) where
    pub least_is : s ≡ first_of
    least_is = first_least g.n (key_of degrees) (passing (valued mark 0) list) s h ∙ rw (keys_are _ _ _ degrees table, e, long)

    pub least_free_at : FreeAt mark s
    least_free_at =
        let q = least_free (beside g) g.n (unmarked mark) (near g.n _ _ g.tight) (degree (beside g)) one.one (omega (arith, one.is_free.below)) one.is_free.free in
        rw least_is (record { below = omega (arith, q.0); free = q.1 })

pub choose_is : (g : Graph) (mark : List ℕ) (s far deep : ℕ) → s ≡ least g.n (degree (beside g)) (passing (unmarked mark) (numbers g.n))
    → far ≡ far_of (beside g) g.n (reached g mark s) → deep ≡ depth (beside g) g.n (reached g mark s)
    → settle (beside g) g.n (unmarked mark) 4 s far deep ≡ choose_start (beside g) g.n (unmarked mark)
unfolding choose_start
choose_is g mark s far deep e p q = rw (p, q, e)
