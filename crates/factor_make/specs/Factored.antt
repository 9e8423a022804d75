-- HOW A FACTORIZATION WENT: done, or ended at a row whose pivot isn't above zero.
use Rattle.std.specs.Prelude.{ℕ, Result, Float}
use Rattle.factor_make.specs.declared.Failed.{Failed}

abbrev pub Factored : Type 0
Factored = Result (Unit {0}) Failed

abbrev pub failed : ℕ → Float → Failed
failed r d = record { row = r; pivot = d }
