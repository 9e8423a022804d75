-- The blocks of an accepted pattern, in the lists that hold it: neighbours are its stored blocks, and so the placing is given what it needs.
use Prim.Native.Nat.{ℕ, ◌+◌, ◌<◌}
use mathlib.Core.Path.{◌≡◌, refl}
use mathlib.Core.Logic.{◌⊎◌, inl, inr}
use mathlib.Core.Bool.{Bool, true, false}
use mathlib.Core.List.{List}
use lib.ListN.{take}
use lib.Dec.{eqb}
use borrow.Author.Tests.{eqb-true, eqb-false}
use Rattle.matrix_shape.specs.Formed.{Stored}
use Rattle.matrix_shape.specs.Rows.{at, Pattern}
use Rattle.order_definition.specs.Order.{among, neighbours, fresh, start_after}
use Rattle.order_definition.specs.Tight.{Tight, tight_of, stored_part, stored_whole}
use Rattle.order_definition.proofs.At.{In}
use Rattle.order_definition.proofs.Pigeon.{among_true}
use Rattle.order_definition.proofs.Rows as rows
use Rattle.order_demand3.proofs.Place.{Given}

module _ (n : ℕ) (starts cols diagonal : List ℕ) (p : Pattern n starts cols diagonal) where
  abbrev S : ℕ → ℕ → Type 0
  S = Stored (at starts) (at cols)

  abbrev s : List ℕ
  s = take (n + 1) starts

  abbrev c : List ℕ
  c = take (at starts n) cols

  abbrev nb : ℕ → List ℕ
  nb = neighbours s c

  t : Tight n s c
  t = tight_of n starts cols diagonal p

  pub own_block : (v : ℕ) → v < n → S v v
  own_block v l = (at diagonal v, p.formed.home v l)

  pub reaches : (v w : ℕ) → v < n → S v w → w < n
  reaches v w l b = rows.reaches n s c t v w l (stored_part n starts cols diagonal p v w l b)

  pub nb_stored : (v w : ℕ) → v < n → In w (nb v) → S v w
  nb_stored v w l a = stored_whole n starts cols diagonal p v w l (rows.nb_stored n s c t v w l a)

  pub stored_nb : (v w : ℕ) → v < n → S v w → (v ≡ w → ⊥) → In w (nb v)
  stored_nb v w l b ne = rows.stored_nb n s c t v w l (stored_part n starts cols diagonal p v w l b) ne

  all_in : (o : List ℕ) (v w : ℕ) → v < n → S v w → (v ≡ w) ⊎ In w o ⊎ In w (fresh nb n o v)
  all_in o v w l b = go (eqb v w) refl (among o w) refl
    where
      go : (x : Bool) → eqb v w ≡ x → (y : Bool) → among o w ≡ y → (v ≡ w) ⊎ In w o ⊎ In w (fresh nb n o v)
      go true e y f = inl (eqb-true v w e)
      go false e true f = inr (inl (among_true o w f))
      go false e false f = inr (inr (rows.in_fresh n s c t o v w (stored_nb v w l b (eqb-false v w e)) f))

  pub given : Given S n (start_after nb n) (fresh nb n)
  given = record {
    swap = λ a b l x. p.formed.mirrored a b l x;
    reaches = reaches;
    free = λ o d below l. (rows.adding n s c t).free o l;
    adds_stored = λ o v i w l a. nb_stored v w l (rows.fresh_in n s c t o v w (i, a)).0;
    adds_new = λ o v i j w a b. (rows.adding n s c t).new o v w (i, a) (j, b);
    adds_once = (rows.adding n s c t).once;
    adds_all = all_in;
  }
