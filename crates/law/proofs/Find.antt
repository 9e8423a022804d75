-- What follows of specs/Find.antt: its theorems, apart from the definitions.
use Prim.Native.Nat.{ℕ, ◌-◌, ◌≤◌, ◌<◌}
use Rattle.std.proofs.Math.Path.{◌≡◌, refl, sym}
use Rattle.std.proofs.Common.{◌∙◌, eq-eqb, ne_eqb}
use Rattle.std.specs.Prelude.{Bool, not, eqb}
use Rattle.std.proofs.Math.Bool.{true, false}
use native.Mathlib.Omega.{arith}
use Rattle.law.specs.Every.{some}
use Rattle.law.proofs.Every.{some_at, some_of}
use Rattle.law.specs.Find.{find, find_none, seek, seek_in}

module _ (p : ℕ → Bool) (d : ℕ) where
  -- where d is none of the range, the answer d says that none passes
  pub find_tells : (a b : ℕ) → b ≤ d → some p a b ≡ not (eqb (find p a b d) d)
  unfolding find
  find_tells a b h = tells (some p a b) refl
    where
      no : (j : ℕ) → a ≤ j → j < b → some p a b ≡ false → (x : Bool) → p j ≡ x → x ≡ false
      no j l m e true t = sym (some_of p a b j l m t) ∙ e
      no j l m e false t = refl

      tells : (x : Bool) → some p a b ≡ x → x ≡ not (eqb (find p a b d) d)
      tells true e =
          let w = some_at p a b e in
          let i = (seek_in p d) (b - a) a w.0 w.1.0 (omega (arith, w.1.0, w.1.1.0)) w.1.1.1 in
          rw (ne_eqb (seek p a (b - a) d) d (λ q. omega (arith, i.1, w.1.0, w.1.1.0)))
      tells false e = rw (eq-eqb (find p a b d) d ((find_none p d) a b (λ j l m. no j l m e (p j) refl)))
