-- 9 PRECEDES ALL: whoever is handed a text asks his tests only where it is as described. So 9 stands outside the refusal lists, whose numbers never fall.
use Prim.Native.Nat.{ℕ}
use Rattle.std.specs.Prelude.{◌≡◌, List, [], ◌∷◌, leb, Err}
use Rattle.std.proofs.Math.Bool.{cond}
use Rattle.law.specs.Limit.{particles, pairs}
use Rattle.law.specs.declared.refusal.Refusal.TheVariants.{TooManyParticles, TooManyEntries, BadText}
use Rattle.law.specs.Promise.{Door, by}
use Rattle.law.specs.Refusal.{Test, Verdict, unless, verdict}
use Rattle.bench_text.specs.Text.{described}

-- the verdict on a text
unfoldable pub verdict_by : List ℕ → List Test → Verdict
verdict_by text tests = cond (described text) (verdict tests) (Err BadText)

-- what a door over a text comes to, and what it promises
unfoldable pub outcome_by : {I O : Type 0} → Door I O → List ℕ → I → O
outcome_by d text i = by (verdict_by text (d.tests i)) (d.work i) (λ k. d.refuse k i)

abbrev pub PromiseBy : {I O : Type 0} → Door I O → List ℕ → I → O → Type 0
PromiseBy d text i o = o ≡ outcome_by d text i

-- the first tests of them all, by the text's counts
unfoldable pub limits : ℕ → ℕ → List Test
limits n p = unless TooManyParticles (leb n particles) ∷ unless TooManyEntries (leb p pairs) ∷ []
