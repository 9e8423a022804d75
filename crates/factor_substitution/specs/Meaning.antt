-- WHO GETS WHAT: particle o i gets what stands at position i.
use Rattle.std.specs.Prelude.{ℕ, ◌+◌, ◌*◌, ◌<◌, ◌≡◌, refl, List, get_or, Float}
use Rattle.std.proofs.Common.{ap, ◌∙◌, arith, add-zero}
use Rattle.std.specs.Float.{nan}
use Rattle.law.specs.Gather.{up_to}
use Rattle.law.proofs.Gather.{gather_at, up_to_even}
use Rattle.plane.specs.Lent.{vector_at}
use Rattle.plan_fits.specs.Fits.{PlanRules}
use Rattle.factor_substitution.specs.Solve.{permuted, placed_of, solve_of}

pub permuted_at : (n : ℕ) (p : ℕ → ℕ) (v : List Float) (i : ℕ) → i < n → vector_at (permuted n p v) i ≡ vector_at v (p i)
unfolding permuted
permuted_at n p v i h =
    let g : ℕ → List Float = λ i. vector_at v (p i) in
    let e : up_to g i ≡ 2 * i = up_to_even g 2 (λ j. refl) i in
    let a : get_or (permuted n p v) (2 * i) nan ≡ get_or v (2 * p i) nan = rw (e, add-zero) at (gather_at g n i 0 nan h (omega arith)) in
    let b : get_or (permuted n p v) (2 * i + 1) nan ≡ get_or v (2 * p i + 1) nan = rw e at (gather_at g n i 1 nan h (omega arith)) in
    rw (a, b)

-- what stands at position i is given to particle o i. (The Rust stores it so; the code gathers it by the inverse.)
pub solve_gives : (n : ℕ) (o p f s : ℕ → ℕ) → PlanRules n o p f s → (v b : List Float) (i : ℕ) → i < n → vector_at (solve_of n o p f s v b)
    (o i) ≡ vector_at (placed_of n o f s v b) i
unfolding solve_of
solve_gives n o p f s w v b i h = permuted_at n p (placed_of n o f s v b) (o i) (w.particle i h) ∙ ap (vector_at (placed_of n o f s v b)) (w.back i h)
