-- THE TALLY after one more call.
use Rattle.std.specs.Prelude.{ℕ, ◌+◌, Bool, cond, ltb, eqb, Option, None, Some, List, [], ◌∷◌, get_or}
use Rattle.law.specs.Limit.{tally}
use Rattle.step_tally.specs.declared.Tally.{Tally}
use Rattle.step_tally.specs.declared.Kind.{Kind}
use Rattle.step_tally.specs.declared.Kind.TheVariants.{Direct, Zero, Near, Converged, Curvature, Limit, Refused}

abbrev pub total_of : Tally → ℕ
total_of t = t.direct + t.zero + t.near + t.converged + t.curvature + t.limit + t.refused

-- seven counts as a list has them, in the order of the kinds; and back
abbrev pub tally_of : List ℕ → Tally
tally_of c = record {
  direct = get_or c 0 0;
  zero = get_or c 1 0;
  near = get_or c 2 0;
  converged = get_or c 3 0;
  curvature = get_or c 4 0;
  limit = get_or c 5 0;
  refused = get_or c 6 0;
}

abbrev pub counts_of : Tally → List ℕ
counts_of t = t.direct ∷ t.zero ∷ t.near ∷ t.converged ∷ t.curvature ∷ t.limit ∷ t.refused ∷ []

-- the kinds' order by the rules, module 7
abbrev pub number : Kind → ℕ
number Direct = 0
number Zero = 1
number Near = 2
number Converged = 3
number Curvature = 4
number Limit = 5
number Refused = 6

abbrev pub same : Kind → Kind → Bool
same j k = eqb (number j) (number k)

abbrev pub grown : Bool → ℕ → ℕ
grown b n = cond b (n + 1) n

-- the kind's count grows by 1, and the others stay
abbrev pub one_more : Tally → Kind → Tally
one_more t k = record {
  direct = grown (same Direct k) t.direct;
  zero = grown (same Zero k) t.zero;
  near = grown (same Near k) t.near;
  converged = grown (same Converged k) t.converged;
  curvature = grown (same Curvature k) t.curvature;
  limit = grown (same Limit k) t.limit;
  refused = grown (same Refused k) t.refused;
}

-- up to a cap: the record stays once its sum is there or above
abbrev pub added_to : ℕ → Tally → Kind → Tally
added_to c t k = cond (ltb (total_of t) c) (one_more t k) t

abbrev pub added_of : Tally → Kind → Tally
added_of t k = added_to tally t k

-- how the step solve ended that a call asked for: a response with no entries left asks for none
abbrev pub Asked : Type 0
Asked = Option Kind

abbrev pub counted_to : ℕ → Tally → Asked → Tally
counted_to c t None = t
counted_to c t (Some k) = added_to c t k

abbrev pub counted_of : Tally → Asked → Tally
counted_of t a = counted_to tally t a
