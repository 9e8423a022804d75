-- What follows of specs/One.antt: its theorems, apart from the definitions.
use Rattle.std.specs.Prelude.{◌≡◌}
use Rattle.std.proofs.Common.{sym, ap, ◌∙◌}
use seplogic.Ra.Ura.{Ura}
use base.Logic.{SProp, ent, sep, emp, ex, id⊢, via, ex_i, ex_e, mono_r, emp∗, comm∗}
use types.Logic.{Logic, sem}
use contract.Monad.{fact, fact_i, fact_mono}
use contract.Lifetimes.{Lfts}
use denote.Triple.Entry.{Args, Res}
use denote.Triple.Clauses.{Ended, Lasts, lasts}
use Rattle.std.specs.Prelude.{Ok, Err}
use Rattle.law.specs.declared.refusal.Refusal.{Refusal}
use Rattle.law.specs.Refusal.{Verdict, verdict}
use Rattle.law.specs.Promise.{Door, Promise, Counted, outcome, by}
use Rattle.law.specs.One.{Holding, One, OneOutcome, Outcome, Passed, Says}

-- OF A CONTRACT THAT SAYS A PLAIN THING P of the answer and of what each `&mut` holds at the exit
module _ (T : Ended)
    (P : (κs : Lfts T.signature.lifetimes) (a : Args T.signature κs) → Res T.signature κs → Lasts T κs a → Type 0) where
  pub plainly : ((κs : Lfts T.signature.lifetimes) (a : Args T.signature κs) → Passed T κs a → One (λ (o : Outcome T κs a). P κs a o.0 o.1))
      → OneOutcome T (Says T P)
  plainly h κs a p = (o, λ M 𝓤 𝓛 mem run g. (id⊢ 𝓤 (emp 𝓤), kept M 𝓤 𝓛, λ r. alone M 𝓤 𝓛 r))
    where
      o : Outcome T κs a
      o = (h κs a p).0

      kept : (M : Type 1) (𝓤 : Ura M) (𝓛 : Logic 𝓤) → ent 𝓤 (sem 𝓛 (lasts T κs a o.1)) (ex 𝓤 ((Holding T P) 𝓛 κs a o.0))
      kept M 𝓤 𝓛 =
          let L : SProp 𝓤 = sem 𝓛 (lasts T κs a o.1) in
          via 𝓤 (sep 𝓤 L (emp 𝓤)) (via 𝓤 (sep 𝓤 (emp 𝓤) L) (emp∗ 𝓤 L) (comm∗ 𝓤 (emp 𝓤) L))
          (via 𝓤 ((Holding T P) 𝓛 κs a o.0 o.1) (mono_r 𝓤 L (fact_i 𝓤 (P κs a o.0 o.1) (emp 𝓤) (h κs a p).1.0))
          (ex_i 𝓤 ((Holding T P) 𝓛 κs a o.0) o.1))

      alone : (M : Type 1) (𝓤 : Ura M) (𝓛 : Logic 𝓤) (r : Res T.signature κs)
          → ent 𝓤 (ex 𝓤 ((Holding T P) 𝓛 κs a r)) (ex 𝓤 (λ (ws : Lasts T κs a). sep 𝓤 (sem 𝓛 (lasts T κs a ws)) (fact 𝓤 ((r, ws) ≡ o))))
      alone M 𝓤 𝓛 r = ex_e 𝓤 ((Holding T P) 𝓛 κs a r) (λ ws.
          let L : SProp 𝓤 = sem 𝓛 (lasts T κs a ws) in
          via 𝓤 (sep 𝓤 L (fact 𝓤 ((r, ws) ≡ o))) (mono_r 𝓤 L (fact_mono 𝓤 (P κs a r ws) ((r, ws) ≡ o) ((h κs a p).1.1 (r, ws))))
          (ex_i 𝓤 (λ (ws : Lasts T κs a). sep 𝓤 (sem 𝓛 (lasts T κs a ws)) (fact 𝓤 ((r, ws) ≡ o))) ws))

-- AND OF SUCH A THING, that it holds of one outcome w. `left` is what w leaves, and `back` reads w off it again

-- an equation
pub of_parts : {O W : Type 0} (left : W → O) (o : O) (back : O → W) → left (back o) ≡ o → ((w : W) → back (left w) ≡ w) → One (λ (w : W). left w ≡ o)
of_parts left o back e f = (back o, (e, λ w h. sym (f w) ∙ ap back h))

-- two equations
pub of_both : {A B W : Type 0} (first : W → A) (second : W → B) (a : A) (b : B) (back : A → B → W) → first (back a b) ≡ a → second (back a b) ≡ b
    → ((w : W) → back (first w) (second w) ≡ w) → One (λ (w : W). (first w ≡ a) × (second w ≡ b))
of_both first second a b back d e f = (back a b, ((d, e), λ w h. sym (f w) ∙ ap (λ x. back x (second w)) h.0 ∙ ap (back a) h.1))

module _ {I O : Type 0} (d : Door I O) (i : I) where
  -- what the work and each refusal have, the outcome has
  pub comes_so : (Q : O → Type 0) → Q (d.work i) → ((k : Refusal) → Q (d.refuse k i)) → Q (outcome d i)
  unfolding outcome
  comes_so Q works refuses = go (verdict (d.tests i))
    where
      go : (v : Verdict) → Q (by v (d.work i) (λ j. d.refuse j i))
      go (Ok tt) = works
      go (Err k) = refuses k

  module _ {W : Type 0} (left : W → O) where
    -- a door's promise
    pub of_door : (back : O → W) → left (back (d.work i)) ≡ d.work i → ((k : Refusal) → left (back (d.refuse k i)) ≡ d.refuse k i)
        → ((w : W) → back (left w) ≡ w) → One (λ (w : W). Promise d i (left w))
    of_door back works refuses f = of_parts left (outcome d i) back (comes_so (λ o. left (back o) ≡ o) works refuses) f

    -- and that of one that counts: `last` is the record that w leaves
    pub of_counted : {R : Type 0} (counts : R → O → R) (t : R) (last : W → R) (back : O → R → W)
        → ((u : R) → left (back (d.work i) u) ≡ d.work i) → ((k : Refusal) (u : R) → left (back (d.refuse k i) u) ≡ d.refuse k i)
        → ((o : O) (u : R) → last (back o u) ≡ u) → ((w : W) → back (left w) (last w) ≡ w) → One (λ (w : W). Counted d counts i t (left w) (last w))
    of_counted {R} counts t last back works refuses ends f =
        let o : O = outcome d i in
        let u : R = counts t o in
        let e : left (back o u) ≡ o = comes_so (λ p. left (back p u) ≡ p) (works u) (λ k. refuses k u) in
        (back o u, ((e, ends o u ∙ ap (counts t) (sym e)), λ w h. sym (f w) ∙ ap (λ p. back p (last w)) h.0 ∙ ap (back o) (h.1 ∙ ap (counts t) h.0)))
