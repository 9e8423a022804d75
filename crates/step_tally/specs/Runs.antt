-- THE TALLY AFTER ANY CALLS: from a fresh record its sum is the lesser of the cap and their number,
-- and each count is the number of its kind among the first so many. Said of any cap.
use Rattle.std.specs.Prelude.{◌≡◌, refl, Bool, true, false, cond, List, [], ◌∷◌, ℕ, suc, zero, ◌+◌, min, ◌≤◌, length, take, None, Some}
use Rattle.std.proofs.Common.{◌∙◌, ap, arith, length-take, lt-ltb, le-ltb}
use Rattle.law.specs.Limit.{tally}
use Rattle.step_tally.specs.declared.Tally.{Tally}
use Rattle.step_tally.specs.declared.Kind.{Kind}
use Rattle.step_tally.specs.declared.Kind.TheVariants.{Direct, Zero, Near, Converged, Curvature, Limit, Refused}
use Rattle.step_tally.specs.Count.{Asked, total_of, same, grown, one_more, counted_to}

abbrev pub fresh : Tally
fresh = record { direct = 0; zero = 0; near = 0; converged = 0; curvature = 0; limit = 0; refused = 0 }

-- the count of a kind
abbrev pub count_of : Tally → Kind → ℕ
count_of t Direct = t.direct
count_of t Zero = t.zero
count_of t Near = t.near
count_of t Converged = t.converged
count_of t Curvature = t.curvature
count_of t Limit = t.limit
count_of t Refused = t.refused

-- the record after calls that asked for these, in order
unfoldable pub after : ℕ → Tally → List Asked → Tally
after c t [] = t
after c t (a ∷ l) = after c (counted_to c t a) l

-- the step solves that were asked for
pub solves : List Asked → List Kind
solves [] = []
solves (None ∷ l) = solves l
solves (Some k ∷ l) = k ∷ solves l

-- how many of them are of a kind
pub of_kind : Kind → List Kind → ℕ
of_kind j [] = 0
of_kind j (k ∷ ks) = grown (same j k) (of_kind j ks)

-- the record where no cap stops it
all : Tally → List Kind → Tally
all t [] = t
all t (k ∷ ks) = all (one_more t k) ks

total_more : (t : Tally) (k : Kind) → total_of (one_more t k) ≡ total_of t + 1
total_more t Direct = omega arith
total_more t Zero = omega arith
total_more t Near = omega arith
total_more t Converged = omega arith
total_more t Curvature = omega arith
total_more t Limit = omega arith
total_more t Refused = omega arith

count_more : (t : Tally) (k j : Kind) → count_of (one_more t k) j ≡ grown (same j k) (count_of t j)
count_more t k Direct = refl
count_more t k Zero = refl
count_more t k Near = refl
count_more t k Converged = refl
count_more t k Curvature = refl
count_more t k Limit = refl
count_more t k Refused = refl

grown_add : (b : Bool) (m n : ℕ) → grown b m + n ≡ m + grown b n
grown_add true m n = omega arith
grown_add false m n = refl

total_all : (t : Tally) (ks : List Kind) → total_of (all t ks) ≡ total_of t + length ks
unfolding all
total_all t [] = omega arith
total_all t (k ∷ ks) = omega (arith, total_all (one_more t k) ks, total_more t k)

count_all : (t : Tally) (ks : List Kind) (j : Kind) → count_of (all t ks) j ≡ count_of t j + of_kind j ks
unfolding all of_kind
count_all t [] j = omega arith
count_all t (k ∷ ks) j = count_all (one_more t k) ks j ∙ ap (λ (n : ℕ). n + of_kind j ks) (count_more t k j) ∙ grown_add (same j k) (count_of t j) (of_kind j ks)

-- the cap cuts the list
cut : (c r : ℕ) (t : Tally) (l : List Asked) → total_of t + r ≡ c → after c t l ≡ all t (take r (solves l))
unfolding all after solves
cut c zero t [] e = refl
cut c (suc r) t [] e = refl
cut c zero t (None ∷ l) e = cut c zero t l e
cut c (suc r) t (None ∷ l) e = cut c (suc r) t l e
cut c zero t (Some k ∷ l) e = ap (λ (b : Bool). after c (cond b (one_more t k) t) l) (le-ltb (total_of t) c (omega arith)) ∙ cut c zero t l e
cut c (suc r) t (Some k ∷ l) e =
    ap (λ (b : Bool). after c (cond b (one_more t k) t) l) (lt-ltb (total_of t) c (omega arith)) ∙ cut c r (one_more t k) l (omega (arith, total_more t k))

zero_from : (j : Kind) → count_of fresh j ≡ 0
zero_from Direct = refl
zero_from Zero = refl
zero_from Near = refl
zero_from Converged = refl
zero_from Curvature = refl
zero_from Limit = refl
zero_from Refused = refl

-- THE SUM from a fresh record is the lesser of the cap and the number of step solves
pub sum_to : (c : ℕ) (l : List Asked) → total_of (after c fresh l) ≡ min c (length (solves l))
sum_to c l = omega (arith, ap total_of (cut c c fresh l (omega arith)), total_all fresh (take c (solves l)), length-take c (solves l))

-- EACH COUNT is the number of its kind among the first so many
pub count_to : (c : ℕ) (l : List Asked) (j : Kind) → count_of (after c fresh l) j ≡ of_kind j (take c (solves l))
count_to c l j = omega (arith, ap (λ (t : Tally). count_of t j) (cut c c fresh l (omega arith)), count_all fresh (take c (solves l)) j, zero_from j)

-- a record whose sum has reached the cap stays, whatever it holds and whatever is asked
pub full_stays : (c : ℕ) (t : Tally) (l : List Asked) → c ≤ total_of t → after c t l ≡ t
unfolding after
full_stays c t [] h = refl
full_stays c t (None ∷ l) h = full_stays c t l h
full_stays c t (Some k ∷ l) h = ap (λ (b : Bool). after c (cond b (one_more t k) t) l) (le-ltb (total_of t) c h) ∙ full_stays c t l h

-- both at the cap of RULES.md § 2
pub sum_is : (l : List Asked) → total_of (after tally fresh l) ≡ min tally (length (solves l))
sum_is l = sum_to tally l

pub count_is : (l : List Asked) (j : Kind) → count_of (after tally fresh l) j ≡ of_kind j (take tally (solves l))
count_is l j = count_to tally l j
