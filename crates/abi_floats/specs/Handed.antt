-- Floats handed out over the C ABI: into the front of a lent slice, or ShortBuffer where the slice is shorter.
use Rattle.std.specs.Prelude.{◌≤◌, ◌<◌, ◌≡◌, List, [], ◌∷◌, ◌++◌, leb, length, drop, Float, Ok, Err}
use Rattle.std.proofs.Common.{ap, ◌∙◌, arith, le-leb}
use Rattle.std.proofs.lemmas.Bool.{lt-leb}
use Rattle.law.specs.declared.refusal.Refusal.TheVariants.{ShortBuffer}
use Rattle.law.specs.Refusal.{Test, Verdict, unless, Rising}
use Rattle.law.proofs.Refusals.{goes_on, stops, ends}
use Rattle.law.specs.Promise.{Door, Promise}
use Rattle.law.proofs.Promise.{refuses, accepts}
use Rattle.law.specs.Store.{written, written_front}

-- the answer, and the lent slice at the call's exit
pub record Out : Type 0 where
  pub answer : Verdict
  pub out : List Float

abbrev pub left : Verdict → List Float → Out
left r out = record { answer = r; out = out }

abbrev pub refusals : List Float → List Float → List Test
refusals vs out = unless ShortBuffer (leb (length vs) (length out)) ∷ []

pub in_order : (vs out : List Float) → Rising 1 (refusals vs out)
in_order vs out = (omega arith, tt)

-- vs is handed out into the lent slice
unfoldable pub handed : List Float → Door (List Float) Out
handed vs = record {
  tests = refusals vs;
  in_order = in_order vs;
  work = λ out. left (Ok tt) (vs ++ drop (length vs) out);
  refuse = λ k out. left (Err k) out;
}

-- ---- the two returns of such a call

pub too_short : (vs out : List Float) → length out < length vs → Promise (handed vs) out (left (Err ShortBuffer) out)
unfolding handed
too_short vs out h = refuses (handed vs) out ShortBuffer (stops ShortBuffer _ [] (lt-leb _ _ h))

pub handed_out : (vs out l : List Float) → length vs ≤ length out → l ≡ written out 0 vs → Promise (handed vs) out (left (Ok tt) l)
unfolding handed
handed_out vs out l h e =
    accepts (handed vs) out (goes_on ShortBuffer _ [] _ (le-leb _ _ h) ends) (left (Ok tt) l) (ap (left (Ok tt)) (e ∙ written_front out vs h))
