-- THE WHOLE SOLVE, CALL BY CALL: what the five calls leave is the definition's.
use Rattle.std.specs.Prelude.{ℕ, ◌*◌, ◌≡◌, length, Float}
use Rattle.std.proofs.Math.Path.{ap}
use Rattle.std.proofs.Common.{◌∙◌}
use mathlib.Core.List.{List}
use Rattle.law.specs.Gather.{gather}
use Rattle.law.specs.Mix.{mix}
use Rattle.law.proofs.Mix.{mix_whole}
use Rattle.plane.specs.Plane.{zero_of}
use Rattle.plane.specs.Lent.{vector_at}
use Rattle.plan_fits.specs.Cells.{look}
use Rattle.factor_passes.specs.Passes.{forward_of, backward_of}
use Rattle.factor_substitution.specs.Solve.{permuted, placed_of, solve_of, left, solved_of}

module _ (n : ℕ) (o p f s : ℕ → ℕ) (v b : List Float) where
  pub solve_calls : (x₀ x₁ y₀ y₁ y₂ y₃ y₄ : List Float) → length x₀ ≡ 2 * n → length y₀ ≡ 2 * n → length y₃ ≡ 2 * n
      → y₁ ≡ mix 2 n (λ i. vector_at b (o i)) y₀ → y₂ ≡ forward_of f (look f s v) (2 * n) y₁ → y₃ ≡ backward_of f (look f s v) (2 * n) y₂
      → x₁ ≡ mix 2 n (λ i. vector_at y₃ (p i)) x₀ → y₄ ≡ mix 2 n (λ k. zero_of) y₃ → left x₁ y₄ ≡ solved_of n o p f s v b
  unfolding solved_of solve_of placed_of permuted
  solve_calls x₀ x₁ y₀ y₁ y₂ y₃ y₄ h g k a₁ a₂ a₃ a₄ a₅ =
      let e : y₃ ≡ backward_of f (look f s v) (2 * n) (forward_of f (look f s v) (2 * n) (gather (λ i. vector_at b (o i)) 0 n)) =
      a₃ ∙ ap (backward_of f (look f s v) (2 * n)) (a₂ ∙ ap (forward_of f (look f s v) (2 * n)) (a₁ ∙ mix_whole 2 n _ y₀ g)) in
      ap (λ (t : List Float). left x₁ t) (a₅ ∙ mix_whole 2 n _ y₃ k) ∙ ap (λ (t : List Float). left t (gather (λ k. zero_of) 0 n))
      (a₄ ∙ mix_whole 2 n _ x₀ h ∙ ap (λ (t : List Float). gather (λ i. vector_at t (p i)) 0 n) e)
