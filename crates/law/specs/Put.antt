-- A WRITER'S TURN: a list stored into a buffer from a place on, and the place past it.
-- Writers are joined end to end, and the room for all of them is the room for each.
use Rattle.std.specs.Prelude.{ℕ, ◌+◌, ◌≤◌, ◌≡◌, List, [], ◌∷◌, ◌++◌, length, take, drop, set}
use Rattle.std.proofs.Math.Path.{refl, sym}
use Rattle.std.proofs.Common.{◌∙◌, arith, add-zero, length-append, length-take-le}
use Rattle.law.specs.Store.{written, written_append, written_front, written_long}

-- l was stored from `at` on, and r is the place past it
pub record Put {A : Type 0} (l : List A) (at : ℕ) (old new : List A) (r : ℕ) : Type 0 where
  pub next : r ≡ at + length l
  pub holds : new ≡ written old at l

-- text was stored at the buffer's front, and the buffer's rest is as it was. The last two fields are what `&new[..r]` asks
pub record Written {A : Type 0} (text old new : List A) (r : ℕ) : Type 0 where
  pub count : r ≡ length text
  pub holds : new ≡ text ++ drop (length text) old
  pub within : r ≤ length new
  pub taken : r ≡ length (take r new)

module _ {A : Type 0} where
  pub put_none : (old : List A) (at : ℕ) → Put [] at old old at
  unfolding written
  put_none old at = record { next = sym (add-zero at); holds = refl }

  pub put_one : (x : A) (old : List A) (at : ℕ) → Put (x ∷ []) at old (set old at x) (at + 1)
  unfolding written
  put_one x old at = record { next = refl; holds = refl }

  pub put_both : (a b old mid new : List A) (at r q : ℕ) → Put a at old mid r → Put b r mid new q → Put (a ++ b) at old new q
  put_both a b old mid new at r q x y =
      record {
        next = omega (arith, x.next, y.next, length-append a b);
        holds = y.holds ∙ rw (x.holds, x.next) (written_append old at a b);
      }

  pub put_long : (l old new : List A) (at r : ℕ) → Put l at old new r → length new ≡ length old
  put_long l old new at r p = written_long old at l new p.holds

  -- the room for the first of two, and for the second once the first is stored
  pub room_first : (a b : List A) (at m : ℕ) → at + length (a ++ b) ≤ m → at + length a ≤ m
  room_first a b at m h = omega (arith, length-append a b)

  pub room_second : (a b old mid : List A) (at r : ℕ) → at + length (a ++ b) ≤ length old → Put a at old mid r → r + length b ≤ length mid
  room_second a b old mid at r h p = omega (arith, length-append a b, p.next, put_long a old mid at r p)

  -- from the front
  pub written_of : (text old new : List A) (r : ℕ) → length text ≤ length old → Put text 0 old new r → Written text old new r
  written_of text old new r h p =
      let long = put_long text old new 0 r p in
      let within : r ≤ length new = omega (arith, p.next) in
      record {
        count = omega (arith, p.next);
        holds = p.holds ∙ written_front old text h;
        within = within;
        taken = sym (length-take-le r new within);
      }
