-- What follows of specs/Room.antt: its theorems, apart from the definitions.
use Rattle.std.specs.Prelude.{◌≡◌, Bool, true, ◌&&◌, [], ◌∷◌, leb}
use Rattle.std.proofs.Common.{leb-true, le-leb}
use Rattle.law.specs.Truth.{both, and_true}
use Rattle.law.specs.Room.{Enough, Room, enough}

kept : (ok : Bool) (l : Room) → enough ok l ≡ true → ok ≡ true
unfolding enough
kept ok [] h = h
kept ok (p ∷ l) h = (both ok (leb p.0 p.1) (kept (ok && leb p.0 p.1) l h)).0

-- the test passes exactly if each need is met
pub enough_is : (ok : Bool) (l : Room) → enough ok l ≡ true → Enough l
unfolding enough
enough_is ok [] h = tt
enough_is ok (p ∷ l) h =
    (leb-true _ _ (both ok (leb p.0 p.1) (kept (ok && leb p.0 p.1) l h)).1, enough_is (ok && leb p.0 p.1) l h)

pub enough_of : (ok : Bool) (l : Room) → ok ≡ true → Enough l → enough ok l ≡ true
unfolding enough
enough_of ok [] e h = e
enough_of ok (p ∷ l) e h = enough_of (ok && leb p.0 p.1) l (and_true ok (leb p.0 p.1) e (le-leb _ _ h.0)) h.1
