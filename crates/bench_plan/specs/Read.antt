-- FROM A TEXT TO WHAT IT COMES TO, by what reading it came to.
use Rattle.std.specs.Prelude.{ℕ, ◌*◌, ◌≡◌, refl, Bool, List, ◌++◌, leb, length, take, Ok, Err}
use Rattle.std.proofs.Math.Bool.{true, false, cond}
use Rattle.std.proofs.Common.{arith, leb-true, le-leb}
use Rattle.law.specs.declared.refusal.Refusal.{Refusal}
use Rattle.law.specs.declared.refusal.Refusal.TheVariants.{BadText}
use Rattle.law.specs.Limit.{particles, pairs as pairLimit}
use Rattle.law.specs.Promise.{Promise}
use Rattle.law.specs.Refusal.{Test, Verdict, verdict}
use Rattle.bench_text.specs.Text.{described, particle_count, pair_count}
use Rattle.bench_text.specs.Nine.{limits, verdict_by}
use Rattle.bench_text.proofs.Nine.{refused_by, is_described}
use Rattle.bench_text.specs.Reading as reading
use Rattle.bench_text.proofs.Reading as reading_lemmas
use Rattle.bench_text.specs.declared.inner.Counts.{Counts}
use Rattle.bench_plan.specs.Outcome.{Out, given, later, refusals, left, planning, given_by, planned_for}
use Rattle.bench_plan.specs.Built.{Counted}

-- as many numbers as pairs may have
abbrev pub numbers_room : ℕ
numbers_room = 2 * pairLimit

-- reading's refusals, in that room, are the limits', whatever is tested behind them
early : (n p : ℕ) (k : Refusal) (rest : List Test) → verdict (reading.tests n p numbers_room) ≡ Err k → verdict (limits n p ++ rest) ≡ Err k
unfolding reading.tests limits verdict
early n p k rest e = go (leb n particles) (leb p pairLimit) refl refl
  where
    go : (a b : Bool) → leb n particles ≡ a → leb p pairLimit ≡ b → verdict (limits n p ++ rest) ≡ Err k
    go false b x y = rw x (rw x at e)
    go true false x y = rw (x, y) (rw (x, y) at e)
    go true true x y =
        let z : ◌≡◌ {A = Verdict} (Ok tt) (Err k) = rw (x, y, le-leb (2 * p) numbers_room (omega (arith, leb-true p pairLimit y))) at e in
        absurd (let w = z in cc)

module _ (s room z : List ℕ) (k : Refusal) (long : length room ≡ numbers_room) (reads : reading.Reads (reading.given s room) (reading.left (Err k) z)) where
  -- the refusal is that of whatever begins with the limits
  pub read_verdict : (rest : List Test) → verdict_by s (limits (particle_count s) (pair_count s) ++ rest) ≡ Err k
  unfolding verdict_by
  read_verdict rest = go (described s) (rw long at (reading_lemmas.refused_of s room z k reads))
    where
      go : (d : Bool) → cond d (verdict (reading.tests (particle_count s) (pair_count s) numbers_room)) (Err BadText) ≡ Err k
          → cond d (verdict (limits (particle_count s) (pair_count s) ++ rest)) (Err BadText) ≡ Err k
      go true e = early (particle_count s) (pair_count s) k rest e
      go false e = e

  pub read_refused : (a b c d : List ℕ) → left (Err k) a b c d ≡ planned_for s
  unfolding planned_for left refusals
  read_refused a b c d = refused_by planning s (given_by s) k (read_verdict (later (given_by s)))

pub read_well : (s room z : List ℕ) (c : Counts) → reading.Reads (reading.given s room) (reading.left (Ok c) z) → reading.Accepted s room z c.n c.pairs
read_well s room z c reads = reading_lemmas.accepted_of s room z c reads

module _ (s room z : List ℕ) (n p : ℕ) (t : reading.Accepted s room z n p) where
  pub read_counted : Counted n p (take (2 * p) z)
  read_counted =
      record {
        few = t.few;
        few_pairs = t.few_pairs;
        all = rw (t.front, t.second) (omega (arith, reading_lemmas.pair_numbers_lem s t.right));
      }

  pub read_planned : (o : Out) → Promise planning (given n p (take (2 * p) z)) o → o ≡ planned_for s
  unfolding planned_for
  read_planned o h = is_described planning s (given_by s) o t.right (rw (t.front, t.first, t.second) at h)
