-- What follows of specs/Reading.antt: its theorems, apart from the definitions.
use Rattle.std.specs.Prelude.{ℕ, ◌*◌, ◌≡◌, refl, true, List, [], ◌∷◌, ◌++◌, length, get_or, drop, leb, Result, Ok, Err}
use Rattle.std.proofs.Common.{ap, sym, arith, take_at, leb-true, eqb-true}
use Rattle.law.specs.All.{all}
use Rattle.law.specs.Limit.{bytes as byteLimit}
use Rattle.law.proofs.Refusals.{all_pass}
use Rattle.law.specs.declared.refusal.Refusal.{Refusal}
use Rattle.law.specs.Refusal.{Verdict}
use Rattle.law.specs.Promise.{by}
use Rattle.law.specs.Truth.{both}
use Rattle.bench_scan.specs.Numbers.{allowed, numbers, small}
use Rattle.bench_text.specs.Text.{counted, described, particle_count, pair_count, pair_numbers}
use Rattle.bench_text.specs.Nine.{limits, outcome_by}
use Rattle.bench_text.proofs.Nine.{no_nine}
use Rattle.bench_text.specs.Head.{counts_of}
use Rattle.bench_text.specs.declared.inner.Counts.{Counts}
use Rattle.bench_text.specs.Reading.{Accepted, In, Out, Reads, given, left, verdict_of, refusals, refuse, tests, work}

-- an answer is no refusal
no_both : {A : Type 0} (c : Counts) (k : Refusal) → ◌≡◌ {A = Result Counts Refusal} (Ok c) (Err k) → A
no_both c k e = absurd (let z = e in cc)

text_case : (i : In) (v : Verdict) (c : Counts) (z : List ℕ) → left (Ok c) z ≡ by v (work i) (λ k. refuse k i) → (v ≡ Ok tt) × (left (Ok c) z ≡ work i)
text_case i (Ok tt) c z e = (refl, e)
text_case i (Err k) c z e = no_both c k (ap (λ (o : Out). o.answer) e)

pairs_long : (vs : List ℕ) → counted vs ≡ true → length (drop 2 vs) ≡ 2 * get_or vs 1 0
unfolding counted
pairs_long [] c = absurd (let z : ◌≡◌ {A = ℕ} 0 1 = cc in omega arith)
pairs_long (n ∷ []) c = absurd (let z : ◌≡◌ {A = ℕ} 0 1 = cc in omega arith)
pairs_long (n ∷ p ∷ l) c = eqb-true (length l) (2 * p) c

pub pair_numbers_lem : (s : List ℕ) → described s ≡ true → length (pair_numbers s) ≡ 2 * pair_count s
unfolding described
pair_numbers_lem s d =
    pairs_long (numbers s) (both (all small (numbers s)) _ (both (all allowed s) _ (both (leb (length s) byteLimit) _ d).1).1).1

pub accepted_of : (s room z : List ℕ) (c : Counts) → Reads (given s room) (left (Ok c) z) → Accepted s room z c.n c.pairs
unfolding outcome_by work tests limits
accepted_of s room z c r =
    let i = given s room in
    let t = text_case i (verdict_of i) c z r in
    let d = no_nine s (refusals i) t.0 in
    let f = all_pass (refusals i) (sym d.1) in
    let a : ◌≡◌ {A = Result Counts Refusal} (Ok c) (Ok (counts_of (particle_count s) (pair_count s))) = ap (λ (o : Out). o.answer) t.1 in
    let same : c ≡ counts_of (particle_count s) (pair_count s) = cc in
    let first : c.n ≡ particle_count s = ap (λ (x : Counts). x.n) same in
    let second : c.pairs ≡ pair_count s = ap (λ (x : Counts). x.pairs) same in
    let holds : z ≡ pair_numbers s ++ drop (2 * pair_count s) room = ap (λ (o : Out). o.room) t.1 in
    record {
      zero = t.0;
      right = d.0;
      first = first;
      second = second;
      few = rw first (leb-true _ _ f.0);
      few_pairs = rw second (leb-true _ _ f.1.0);
      fits = rw second (leb-true _ _ f.1.1.0);
      front = rw (second, holds) (take_at (pair_numbers s) (drop (2 * pair_count s) room) (2 * pair_count s) (pair_numbers_lem s d.0));
    }

refused_case : (i : In) (v : Verdict) (k : Refusal) (z : List ℕ) → left (Err k) z ≡ by v (work i) (λ k. refuse k i) → v ≡ Err k
unfolding work
refused_case i (Ok tt) k z e = no_both _ k (sym (ap (λ (o : Out). o.answer) e))
refused_case i (Err j) k z e =
    let a : ◌≡◌ {A = Result Counts Refusal} (Err k) (Err j) = ap (λ (o : Out). o.answer) e in
    cc

pub refused_of : (s room z : List ℕ) (k : Refusal) → Reads (given s room) (left (Err k) z) → verdict_of (given s room) ≡ Err k
unfolding outcome_by
refused_of s room z k r = refused_case (given s room) (verdict_of (given s room)) k z r
