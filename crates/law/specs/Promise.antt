-- THE PROMISE OF A DOOR: what it answers and leaves behind every `&mut`, as one value, is a definition of what it was handed.
use Rattle.std.specs.Prelude.{◌≡◌, ◌<◌, List, Ok, Err}
use Rattle.law.specs.declared.refusal.Refusal.{Refusal}
use Rattle.law.specs.Number.{number}
use Rattle.law.specs.Refusal.{Test, Verdict, verdict, Rising}

-- a door: its list of refusals, whose numbers never fall; its work; and what a refusal answers and leaves
pub record Door (I O : Type 0) : Type 1 where
  pub tests : I → List Test
  pub in_order : (i : I) → Rising 1 (tests i)
  pub work : I → O
  pub refuse : Refusal → I → O

-- Ok leads to the work, Err to the refusal
abbrev pub by : {A : Type 0} → Verdict → A → (Refusal → A) → A
by (Ok _) work refuse = work
by (Err k) work refuse = refuse k

-- what a door comes to
unfoldable pub outcome : {I O : Type 0} → Door I O → I → O
outcome d i = by (verdict (d.tests i)) (d.work i) (λ k. d.refuse k i)

-- what a door promises of an input and an outcome
abbrev pub Promise : {I O : Type 0} → Door I O → I → O → Type 0
Promise d i o = o ≡ outcome d i

-- A DOOR THAT COUNTS: besides its promise, a lent record t becomes what `counts` makes of it and the outcome
abbrev pub Counted : {I O T : Type 0} → Door I O → (T → O → T) → I → T → O → T → Type 0
Counted d counts i t o u = Promise d i o × (u ≡ counts t o)

-- WHAT A PROMISE SAYS OF AN OUTCOME: it is the work, and the verdict is Ok; or it is the refusal that the verdict has, whose number is above 0
module _ {I O : Type 0} (d : Door I O) (i : I) (o : O) where
  abbrev pub IsWork : Type 0
  IsWork = (verdict (d.tests i) ≡ Ok tt) × (o ≡ d.work i)

  abbrev pub IsRefusal : Refusal → Type 0
  IsRefusal k = (0 < number k) × ((verdict (d.tests i) ≡ Err k) × (o ≡ d.refuse k i))
