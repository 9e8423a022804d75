-- What follows of specs/Fronts.antt: its theorems, apart from the definitions.
use Prim.Native.Nat.{ℕ, ◌+◌, ◌*◌, ◌≤◌, ◌<◌}
use Rattle.std.proofs.Math.Path.{◌≡◌, refl, ap}
use Rattle.std.proofs.Common.{sym, ◌∙◌}
use Rattle.std.specs.Prelude.{Bool, false, cond, length, Ok, Err}
use Rattle.std.proofs.Math.Bool.{true}
use mathlib.Core.List.{List, [], ◌∷◌, ◌++◌}
use Rattle.std.proofs.Math.Logic.{⊎_elim}
use Rattle.std.proofs.Math.Dec.{leb}
use Rattle.std.proofs.Math.ListN.{take, drop}
use Rattle.std.proofs.Math.Seq.{take_at}
use borrow.Author.Tests.{le-leb, lt-leb}
use Rattle.law.specs.Every.{every}
use Rattle.law.proofs.Gather.{length_table}
use Rattle.law.specs.Limit.{particles, pairs as pairLimit, envelope}
use Rattle.law.specs.Promise.{Promise}
use Rattle.law.proofs.Promise.{refuses, accepts}
use Rattle.law.specs.declared.refusal.Refusal.{Refusal}
use Rattle.law.specs.declared.refusal.Refusal.TheVariants.{OutOfRange, LongEnvelope}
use Rattle.law.specs.Refusal.{unless, verdict}
use Rattle.law.proofs.Refusals.{all_pass, it_fails}
use Rattle.matrix_shape.specs.Rows.{at, Pattern}
use Rattle.matrix_pairs.specs.Pairs.{pair_ok_at}
use Rattle.order_definition.specs.Envelope.{first_col}
use Rattle.order_definition.specs.Order.{order_of}
use Rattle.plan_layout.specs.EachOnce.{order_lists}
use Rattle.plan_make.specs.Plan.{Plan, four, plan_by, plan_of, envelope_length}
use Rattle.plan_make.specs.Parts.{five, Made, made, settled}
use Rattle.plan_doors.specs.Planning as plans
use Rattle.bench_text.specs.Nine.{limits}
use Rattle.bench_plan.specs.Outcome.{starts_by, cols_by, order_by, first_by, length_by, draft, given, later, refusals, left, work, planning}
use Rattle.bench_plan.specs.Built.{Counted}
use Rattle.bench_plan.specs.Fronts.{plan_to}

pub planned_is : (i : plans.In) (len : ℕ) (p q x y d e f g h : List ℕ) → made len (four p q x y) (five d e f g h) ≡ plans.whole_of i
    → ◌≡◌ {A = ℕ × (List ℕ × List ℕ)} (len, (p, x)) (plan_to i.n (plans.own_starts i) (plans.own_cols i) i.plan.order i.plan.first)
unfolding plans.whole_of plan_to settled plans.length_for plans.laid_over
planned_is i len p q x y d e f g h is =
    let m = envelope_length i.n (plans.own_starts i) (plans.own_cols i) in
    ap (λ (b : Made). (b.len, (b.plan.order, b.plan.first))) is
    ∙ ap (λ (l : List ℕ × List ℕ). (m, l)) (go (leb m envelope) (plans.laid_over i.n (plan_of i.n (plans.own_starts i) (plans.own_cols i)) i.plan))
  where
    go : (t : Bool) (new : Plan) → ◌≡◌ {A = List ℕ × List ℕ} ((cond t new i.plan).order, (cond t new i.plan).first)
        (cond t (new.order, new.first) (i.plan.order, i.plan.first))
    go true new = refl
    go false new = refl

first_long : (n : ℕ) (s c : List ℕ) → length (plan_of n s c).first ≡ 2 * n
unfolding plan_of plan_by
first_long n s c = length_table (first_col s c (order_of n s c)) (2 * n)

order_long : (n : ℕ) (starts cols diagonal : List ℕ) → Pattern n starts cols diagonal
    → length (plan_of n (take (n + 1) starts) (take (at starts n) cols)).order ≡ n
unfolding plan_of plan_by
order_long n starts cols diagonal p = (order_lists n starts cols diagonal p).long

-- ---- one test of a call, as the code makes it

pub passed : (k : Refusal) (t : Bool) → Ok tt ≡ verdict (unless k t ∷ []) → t ≡ true
passed k t e = (all_pass (unless k t ∷ []) e).0

pub failed : (k j : Refusal) (t : Bool) → Err j ≡ verdict (unless k t ∷ []) → (k ≡ j) × (t ≡ false)
failed k j t e = ⊎_elim (λ f. f) (λ f. absurd f) (it_fails (unless k t ∷ []) j (sym e))

-- ---- the whole way

module _ (n count : ℕ) (pairs : List ℕ) (g : Counted n count pairs) where
  pub gave_four : (a b c d : List ℕ) → every (pair_ok_at n pairs) 0 count ≡ false
      → Promise planning (given n count pairs) (left (Err OutOfRange) a b c d)
  unfolding refusals limits later verdict left
  gave_four a b c d e = refuses planning (given n count pairs) OutOfRange (rw (le-leb n particles g.few, le-leb count pairLimit g.few_pairs, e))

  last : every (pair_ok_at n pairs) 0 count ≡ true
      → verdict (refusals (given n count pairs)) ≡ cond (leb (length_by n count pairs) envelope) (Ok tt) (Err LongEnvelope)
  unfolding refusals limits later verdict
  last e = rw (le-leb n particles g.few, le-leb count pairLimit g.few_pairs, e)

  -- starts, cols and diagonal are what building leaves, order and first what planning does
  module _ (e : every (pair_ok_at n pairs) 0 count ≡ true) (starts cols diagonal : List ℕ) (p : Pattern n starts cols diagonal)
      (s-is : take (n + 1) starts ≡ starts_by n count pairs)
      (c-is : take (at starts n) cols ≡ cols_by n count pairs) (len : ℕ) (o f order first : List ℕ)
      (is : ◌≡◌ {A = ℕ × (List ℕ × List ℕ)} (len, (order, first)) (plan_to n (take (n + 1) starts) (take (at starts n) cols) o f)) where
    long : len ≡ length_by n count pairs
    unfolding plan_to length_by
    long = ap (λ (x : ℕ × (List ℕ × List ℕ)). x.0) is ∙ rw (s-is, c-is)

    pub gave_seven : envelope < len → Promise planning (given n count pairs) (left (Err LongEnvelope) starts cols order first)
    unfolding left
    gave_seven h = refuses planning (given n count pairs) LongEnvelope (sym (last e ∙ rw (lt-leb (length_by n count pairs) envelope (rw long at h))))

    fronts : len ≤ envelope → (take n order ≡ order_by n count pairs) × (take (2 * n) first ≡ first_by n count pairs)
    unfolding plan_to order_by first_by
    fronts h =
        let s = take (n + 1) starts in
        let c = take (at starts n) cols in
        let t : leb (envelope_length n s c) envelope ≡ true = le-leb (envelope_length n s c) envelope (rw (ap (λ (x : ℕ × (List ℕ × List ℕ)). x.0) is) at h) in
        let both : ◌≡◌ {A = List ℕ × List ℕ} (order, first) ((plan_of n s c).order ++ drop n o, (plan_of n s c).first ++ drop (2 * n) f) = ap
        (λ (x : ℕ × (List ℕ × List ℕ)). x.1) is ∙ rw t in
        let a : take n order ≡ (plan_of n s c).order = ap (λ (x : List ℕ × List ℕ). take n x.0) both ∙ take_at (plan_of n s c).order (drop n o) n
        (order_long n starts cols diagonal p) in
        let b : take (2 * n) first ≡ (plan_of n s c).first = ap (λ (x : List ℕ × List ℕ). take (2 * n) x.1) both ∙ take_at (plan_of n s c).first
        (drop (2 * n) f) (2 * n) (first_long n s c) in
        (a ∙ rw (s-is, c-is), b ∙ rw (s-is, c-is))

    pub gave_plan : len ≤ envelope → Promise planning (given n count pairs) (left (Ok (draft n len)) starts cols order first)
    unfolding left work
    gave_plan h =
        let w = fronts h in
        accepts planning (given n count pairs) (sym (last e ∙ rw (le-leb (length_by n count pairs) envelope (rw long at h))))
        (left (Ok (draft n len)) starts cols order first) (rw (w.0, w.1, s-is, c-is, long))
