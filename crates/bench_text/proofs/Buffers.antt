-- What follows of specs/Buffer.antt: its theorems, apart from the definitions.
use Rattle.std.specs.Prelude.{ℕ, ◌<◌, ◌≡◌, false, List, length, take}
use Rattle.std.proofs.Common.{sym, ap, ◌∙◌, ⊎_elim, arith, length-take-le, take_all}
use Rattle.std.proofs.lemmas.Bool.{lt-leb}
use Rattle.law.specs.Limit.{bytes as byteLimit}
use Rattle.law.specs.Truth.{below_or}
use Rattle.bench_text.specs.Text.{described}
use Rattle.bench_text.specs.Buffer.{Buffered, ReadFrom}

-- more bytes than a text may have are none
pub too_long : (s : List ℕ) → byteLimit < length s → described s ≡ false
unfolding described
too_long s h = rw (lt-leb (length s) byteLimit h)

module _ (n : ℕ) (buffer : List ℕ) (b : Buffered n buffer) where
  -- as an input they are read whole
  pub itself : ReadFrom (take n buffer) n buffer
  itself = sym (take_all (length buffer) (take n buffer) (omega (arith, b.within, length-take-le n buffer b.within)))

  -- THE BUFFER DECIDES whatever goes by the text and has one answer to all that are not as described
  pub decides : {A : Type 0} (f : List ℕ → A) (nine : A) → ((s : List ℕ) → described s ≡ false → f s ≡ nine) → (input : List ℕ) → ReadFrom input n buffer
      → f (take n buffer) ≡ f input
  decides f nine bad input r =
      ⊎_elim
      (λ h. ap f r ∙ bad _ (too_long _ (omega (arith, b.more, length-take-le (length buffer) input (omega arith))))
      ∙ sym (bad input (too_long input (omega (arith, b.more)))))
      (λ h. ap f (r ∙ take_all (length buffer) input h))
      (below_or (length buffer) (length input))
