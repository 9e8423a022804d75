-- The laws of the loop that chooses the least.
use Rattle.std.proofs.Common.{ℕ, suc, ◌+◌, ◌<◌, ◌≡◌, refl, ap, ◌∙◌, Bool, true, false, Option, Some, IsSome, IfSome, add-one, rules}
use mathlib.Core.List.{List, [], ◌∷◌, ◌++◌, append-nil}
use lib.ListN.{length, get_or, take}
use lib.Seq.{take-suc}
use Rattle.order_definition.specs.Order.{passing, cons_if, lower, least_from, least}
use Rattle.order_definition.specs.Keys.{Below, offer, first_by}
use Rattle.order_definition.proofs.At.{first, at_nil, In}
use Rattle.order_definition.proofs.Lists.{passing_in, least_in}
use Rattle.order_definition.proofs.Filling.{passing_append}
use Rattle.order_definition.proofs.Visiting.{in_take, below_in}

least_from_snoc : (d : ℕ → ℕ) (b : ℕ) (l : List ℕ) (x : ℕ) → least_from d b (l ++ (x ∷ [])) ≡ lower d (least_from d b l) x
least_from_snoc d b [] x = refl
least_from_snoc d b (y ∷ l) x = least_from_snoc d (lower d b y) l x

first_snoc : (d : ℕ → ℕ) (l : List ℕ) (x : ℕ) → first_by d (l ++ (x ∷ [])) ≡ Some (offer d (first_by d l) x)
first_snoc d [] x = refl
first_snoc d (y ∷ l) x = ap Some (least_from_snoc d y l x)

-- where there is one
pub first_some : (d : ℕ → ℕ) (l : List ℕ) (w : ℕ) → In w l → IsSome (first_by d l)
first_some d [] w a = absurd (at_nil a.1)
first_some d (x ∷ l) w a = search rules

pub first_least : (z : ℕ) (d : ℕ → ℕ) (l : List ℕ) (x : ℕ) → first_by d l ≡ Some x → x ≡ least z d l
first_least z d [] x e = absurd (cc)
first_least z d (y ∷ l) x e = cc

module _ (d : ℕ → ℕ) (t : ℕ → Bool) (list : List ℕ) where
  abbrev pub best_to : ℕ → Option ℕ
  best_to k = first_by d (passing t (take k list))

  pub best_below : (z k : ℕ) → Below z list → IfSome (best_to k) (λ b. b < z)
  best_below z k below = go (passing t (take k list)) (λ w a. below_in z list below w (in_take k list w (passing_in t (take k list) w a).0))
    where
      go : (l : List ℕ) → ((w : ℕ) → In w l → w < z) → IfSome (first_by d l) (λ b. b < z)
      go [] f = search rules
      go (x ∷ l) f = let h : least_from d x l < z = f _ (least_in z d (x ∷ l) x (0, first refl)) in search rules

  passing_more : (k : ℕ) → k < length list → passing t (take (suc k) list) ≡ passing t (take k list) ++ cons_if (t (get_or list k 0)) (get_or list k 0) []
  passing_more k lt = ap (passing t) (take-suc list k 0 lt) ∙ passing_append t (take k list) (get_or list k 0 ∷ [])

  pub best_yes : (k : ℕ) → k < length list → t (get_or list k 0) ≡ true → best_to (k + 1) ≡ Some (offer d (best_to k) (get_or list k 0))
  best_yes k lt p = rw (add-one k, passing_more k lt, p) (first_snoc d (passing t (take k list)) (get_or list k 0))

  pub best_no : (k : ℕ) → k < length list → t (get_or list k 0) ≡ false → best_to (k + 1) ≡ best_to k
  best_no k lt p = rw (add-one k, passing_more k lt, p, append-nil)
