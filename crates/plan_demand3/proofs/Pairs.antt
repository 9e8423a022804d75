-- What building leaves, as the plan's call reads it: a pattern that its tests accept, storing just the blocks that the pairs join. Assumes nothing.
use Prim.Native.Nat.{ℕ, ◌≤◌}
use mathlib.Core.Path.{◌≡◌, refl, sym, ap, ◌∙◌}
use mathlib.Core.Bool.{Bool, true}
use mathlib.Core.List.{append_assoc}
use mathlib.Core.Logic.{⊎_elim}
use native.Mathlib.Omega.{arith}
use Rattle.std.specs.Prelude.{Result, Ok, Err}
use Rattle.law.specs.declared.refusal.Refusal.{Refusal}
use Rattle.law.specs.Limit.{particles}
use Rattle.law.specs.Room.{enough}
use Rattle.law.proofs.Room.{enough_of}
use Rattle.law.specs.Promise.{Promise, IsWork}
use Rattle.law.proofs.Promise.{work_or_refusal}
use Rattle.matrix_shape.specs.Formed.{Stored, formed_of}
use Rattle.matrix_shape.specs.Rows.{at}
use Rattle.matrix_shape.specs.Given.{pattern_room, formed}
use Rattle.matrix_shape.specs.Made.{start_of, Begins, begins, stored_passes, passes_stored, well_formed}
use Rattle.matrix_pairs.specs.Pairs.{stored_by, own, twin, Together, together_is, together_of, together_below}
use Rattle.matrix_build.specs.Build.{built_of}
use Rattle.matrix_building.specs.Building as building
use Rattle.matrix_building.specs.Building.{In, Out, Ready, work}
use Rattle.matrix_building.proofs.Building.{ready}
use Rattle.matrix_building.specs.FromPairs as frompairs
use Rattle.matrix_building.proofs.FromPairs as frompairs_lemmas
use Rattle.order_demand3.proofs.Carried.{Alike}

-- ---- an answered call has built

abbrev tag : Result ℕ Refusal → ℕ
tag (Err k) = 0
tag (Ok m) = 1

apart : (k : Refusal) (m : ℕ) → ◌≡◌ {A = Result ℕ Refusal} (Err k) (Ok m) → ⊥
apart k m e = let z : ◌≡◌ {A = ℕ} 0 1 = ap tag e in omega arith

-- what building had, and what it left
pub record Worked (b : In) (c : Out) : Type 0 where
  pub had : Ready b
  pub left : c ≡ work b

pub pattern_worked : (b : In) (c : Out) → Promise building.door b c → (m : ℕ) → c.answer ≡ Ok m → Worked b c
pattern_worked b c h m e =
    let a : IsWork building.door b c =
    ⊎_elim (λ a. a) (λ r. absurd (apart r.0 m (sym (ap (λ (x : Out). x.answer) r.1.1.1) ∙ e))) (work_or_refusal building.door b c h) in
    record { had = ready b (sym a.0); left = a.1 }

pub values_worked : (b : frompairs.In) (c : frompairs.Out) → Promise frompairs.door b c → (m : ℕ) → c.pattern.answer ≡ Ok m
    → Worked b.pattern c.pattern
unfolding frompairs.work
values_worked b c h m e =
    let a : IsWork frompairs.door b c =
    ⊎_elim (λ a. a) (λ r. absurd (apart r.0 m (sym (ap (λ (x : frompairs.Out). x.pattern.answer) r.1.1.1) ∙ e)))
    (work_or_refusal frompairs.door b c h) in
    record { had = (frompairs_lemmas.ready b (sym a.0)).pattern; left = ap (λ (x : frompairs.Out). x.pattern) a.1 }

-- ---- what it left

module _ (b : In) (c : Out) (w : Worked b c) where
  abbrev p : ℕ → ℕ → Bool
  p = stored_by b.pairs b.count

  begun : Begins b.n p c.row_offsets c.cols c.diagonal
  unfolding work built_of
  begun = rw (w.left, append_assoc) (begins b.n p _ _ _)

  last : at c.row_offsets b.n ≡ start_of b.n p b.n
  last = begun.start b.n (omega arith)

  pub few : b.n ≤ particles
  few = w.had.few

  pub held : enough true (pattern_room b.n c.row_offsets c.cols c.diagonal) ≡ true
  unfolding pattern_room
  held = let h = begun.held in enough_of true _ refl (omega (arith, h.places), (omega (arith, h.columns, last), (h.marks, tt)))

  pub well : formed b.n c.row_offsets c.cols c.diagonal ≡ true
  unfolding formed
  well = formed_of b.n _ _ _ _ (rw last (well_formed b.n p _ _ _ begun (λ r l. own b.pairs b.count r) (twin b.pairs b.count)))

  pub alike : Alike b.n (Stored (at c.row_offsets) (at c.cols)) (Together b.pairs b.count)
  alike = record {
    reaches = λ r q l s. (stored_passes b.n p _ _ _ begun r q l s).0;
    there = λ r q l s. together_is b.pairs b.count r q (stored_passes b.n p _ _ _ begun r q l s).1;
    back = λ r q l t. passes_stored b.n p _ _ _ begun r q l (together_below b.pairs b.count r q b.n w.had.pairs_ok l t)
        (together_of b.pairs b.count r q t);
  }
