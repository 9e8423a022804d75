-- Which panel a pixel is in.
use Rattle.std.specs.Prelude.{ℕ, ◌+◌, ◌-◌, ◌*◌, ◌<◌, ◌≡◌, false}
use Rattle.std.proofs.Common.{arith}
use borrow.Author.Tests.{lt-ltb, le-ltb}
use Rattle.bench_picture.specs.Pixels.{Scene, before, after, pixel}

module _ (s : Scene) (i k : ℕ) where
  pub left_panel : k < 2 * s.n → pixel s i k ≡ before s i k
  unfolding pixel
  left_panel h = rw (lt-ltb k (2 * s.n) h)

  pub between : k ≡ 2 * s.n → pixel s i k ≡ false
  unfolding pixel
  between e = rw (le-ltb k (2 * s.n) (omega arith), le-ltb (2 * s.n) k (omega arith))

  pub right_panel : 2 * s.n < k → pixel s i k ≡ after s i (k - (2 * s.n + 1))
  unfolding pixel
  right_panel h = rw (le-ltb k (2 * s.n) (omega arith), lt-ltb (2 * s.n) k h)
