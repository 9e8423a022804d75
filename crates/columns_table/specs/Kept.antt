-- WHAT THE TWO CALLS LEAVE IS A TABLE: after clearing it numbers none, after an accepted loading as many as the call answers.
use Rattle.std.specs.Prelude.{ℕ, ◌+◌, ◌<◌, ◌≡◌, ◌&&◌, List, ltb, eqb, length, drop, set, replicate, Result, Ok, Err}
use Rattle.std.proofs.Common.{sym, ap, ◌∙◌, ⊎_elim, arith, get_or-set_same, get_or-set_other, eqb-true}
use Rattle.std.proofs.lemmas.List.{get_or-replicate, length-replicate}
use Rattle.std.proofs.Math.ListN.{get_or-append}
use Rattle.law.specs.Limit.{columns, unloaded}
use Rattle.law.specs.Truth.{both, same_or, below_or, holds_or}
use Rattle.law.specs.declared.refusal.Refusal.{Refusal}
use Rattle.law.specs.Refusal.{verdict}
use Rattle.matrix_shape.specs.Rows.{at}
use Rattle.columns_table.specs.Table.{Numbered}
use Rattle.columns_table.specs.Test.{numbered_is}
use Rattle.columns_table.specs.Clearing.{emptied}
use Rattle.columns_table.specs.Loading.{In, is_new, refusals, work, ready}

-- none of the first n is loaded
pub emptied_at : (n : ℕ) (table : List ℕ) (p : ℕ) → p < n → at (emptied n table) p ≡ unloaded
emptied_at n table p l =
    get_or-append (replicate n unloaded) (drop n table) 0 p (omega (arith, length-replicate n unloaded)) ∙ get_or-replicate n p unloaded 0 l

pub clearing_keeps : (n : ℕ) (pinned table : List ℕ) → Numbered n pinned 0 (emptied n table)
clearing_keeps n pinned table = record {
  few = omega arith;
  inside = λ p l g. absurd (g (emptied_at n table p l));
  unpinned = λ p l g. absurd (g (emptied_at n table p l));
  each = λ c l. absurd (omega arith);
  once = λ p q l m g e. absurd (g (emptied_at n table p l));
}

-- ---- one more particle

module _ (n : ℕ) (pinned : List ℕ) (count : ℕ) (table : List ℕ) (w : Numbered n pinned count table) (p : ℕ) (l : p < n) (o : p < length table)
    (free : at pinned p ≡ 0) (new : at table p ≡ unloaded) (few : count < columns) where
  here : at (set table p count) p ≡ count
  here = get_or-set_same table p count 0 o

  there : (q : ℕ) → (q ≡ p → ⊥) → at (set table p count) q ≡ at table q
  there q ne = get_or-set_other table p q count 0 ne

  -- no other particle has the new number
  other : (q : ℕ) → q < n → (q ≡ p → ⊥) → at (set table p count) q ≡ count → ⊥
  other q m ne e =
      let z : at table q ≡ count = sym (there q ne) ∙ e in
      omega (arith, w.inside q m (λ u. omega arith))

  pub one_more : Numbered n pinned (count + 1) (set table p count)
  one_more = record {
    few = omega arith;
    inside = λ q m g. ⊎_elim (λ e. rw e (omega (arith, here)))
        (λ e. let z = there q e in omega (arith, w.inside q m (λ u. g (z ∙ u)))) (same_or q p);
    unpinned = λ q m g. ⊎_elim (λ e. rw e free) (λ e. w.unpinned q m (λ u. g (there q e ∙ u))) (same_or q p);
    each = λ c m. ⊎_elim
        (λ h.
        let q = w.each c h in
        let z = q.1.1 in
        (q.0, (q.1.0, there q.0 (λ e. let y : at table p ≡ c = ap (at table) (sym e) ∙ z in omega arith) ∙ z)))
        (λ h. let e : count ≡ c = omega arith in (p, (l, here ∙ e))) (below_or c count);
    once = λ q r m k g e. ⊎_elim
        (λ a. ⊎_elim (λ b. a ∙ sym b) (λ b. absurd (other r k b (sym e ∙ ap (at (set table p count)) a ∙ here))) (same_or r p))
        (λ a. ⊎_elim (λ b. absurd (other q m a (e ∙ ap (at (set table p count)) b ∙ here)))
        (λ b. w.once q r m k (λ u. g (there q a ∙ u)) (sym (there q a) ∙ e ∙ there r b)) (same_or r p)) (same_or q p);
  }

-- how many an answer says
abbrev pub count_of : Result ℕ Refusal → ℕ
count_of (Err k) = 0
count_of (Ok count) = count

pub loading_keeps : (i : In) → Ok tt ≡ verdict (refusals i) → Numbered i.n i.pinned (count_of (work i).answer) (work i).column_of
unfolding work is_new
loading_keeps i h =
    let r = ready i h in
    let w = numbered_is i.n i.pinned i.loaded i.column_of r.table in
    ⊎_elim
    (λ e.
    let a = both (ltb i.particle i.n && ltb i.particle (length i.pinned) && ltb i.particle (length i.column_of)) _ e in
    let b = both (eqb (at i.pinned i.particle) 0) (eqb (at i.column_of i.particle) unloaded) a.1 in
    rw e (one_more i.n i.pinned i.loaded i.column_of w i.particle r.inside (omega (arith, r.inside, r.places)) (eqb-true _ _ b.0)
    (eqb-true _ _ b.1) (r.room e)))
    (λ e. rw e w)
    (holds_or (is_new i.n i.pinned i.column_of i.particle))
