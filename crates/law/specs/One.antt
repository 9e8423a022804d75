-- ONE OUTCOME: what a call ensures holds of one outcome, and of no other. Said of the contract that the call's own theorem cites.
use Prim.Native.Nat.{ℕ, zero, suc}
use Rattle.std.specs.Prelude.{◌≡◌}
use seplogic.Ra.Ura.{Ura}
use base.Logic.{SProp, ent, sep, emp, ex}
use prog.Memory.{Memory}
use prog.Routine.{Routine}
use types.Logic.{Logic, sem}
use contract.Monad.{Fun, fact}
use contract.Lifetimes.{Lfts}
use denote.Signature.{types_at}
use denote.Laws.{Ises, Are}
use denote.Triple.Entry.{Args, Vals, Res}
use denote.Triple.Clauses.{Ended, Lasts, lasts}
use denote.Triple.Spec.{Spec}

-- P holds of something, and of nothing else
abbrev pub One : {O : Type 0} → (O → Type 0) → Type 0
One {O} P = (o : O) × (P o × ((p : O) → P p → p ≡ o))

-- A CALL, by its signature and by what of its parameters is seen at the exit
module _ (T : Ended) where
  -- its contract, in every model of the logic
  abbrev pub Contract : Type 2
  Contract = (M : Type 1) (𝓤 : Ura M) (𝓛 : Logic 𝓤) → (Memory → SProp 𝓤) → (Routine → Fun 𝓤) → Spec 𝓤 T.signature

  module _ (κs : Lfts T.signature.lifetimes) (a : Args T.signature κs) where
    -- an outcome: the answer, and what each `&mut` holds at the exit
    abbrev pub Outcome : Type 0
    Outcome = Res T.signature κs × Lasts T κs a

    -- the arguments can be passed: machine values stand for them
    abbrev pub Passed : Type 0
    Passed = (vss : Vals T.signature κs) × Are (types_at T.signature.params κs) (Ises (types_at T.signature.params κs)) a vss

    -- the contract asks nothing; o keeps it; and who has what it ensures knows that the outcome is o
    abbrev pub Only : Contract → Outcome → Type 2
    Only c o = (M : Type 1) (𝓤 : Ura M) (𝓛 : Logic 𝓤) (mem : Memory → SProp 𝓤) (run : Routine → Fun 𝓤)
        (g : (c M 𝓤 𝓛 mem run κs a).ghost)
        → ent 𝓤 (emp 𝓤) ((c M 𝓤 𝓛 mem run κs a).requires g)
        × ent 𝓤 (sem 𝓛 (lasts T κs a o.1)) ((c M 𝓤 𝓛 mem run κs a).ensures g o.0)
        × ((r : Res T.signature κs)
        → ent 𝓤 ((c M 𝓤 𝓛 mem run κs a).ensures g r) (ex 𝓤 (λ (ws : Lasts T κs a). sep 𝓤 (sem 𝓛 (lasts T κs a ws)) (fact 𝓤 ((r, ws) ≡ o)))))

  -- THE STATEMENT: whatever is passed, the contract leaves one outcome
  abbrev pub OneOutcome : Contract → Type 2
  OneOutcome c = (κs : Lfts T.signature.lifetimes) (a : Args T.signature κs) → Passed κs a → (o : Outcome κs a) × Only κs a c o

-- OF A CONTRACT THAT SAYS A PLAIN THING P of the answer and of what each `&mut` holds at the exit
module _ (T : Ended)
    (P : (κs : Lfts T.signature.lifetimes) (a : Args T.signature κs) → Res T.signature κs → Lasts T κs a → Type 0) where
  abbrev pub Holding : {M : Type 1} {𝓤 : Ura M} (𝓛 : Logic 𝓤) (κs : Lfts T.signature.lifetimes) (a : Args T.signature κs)
      → Res T.signature κs → Lasts T κs a → SProp 𝓤
  Holding {𝓤 = 𝓤} 𝓛 κs a r ws = sep 𝓤 (sem 𝓛 (lasts T κs a ws)) (fact 𝓤 (P κs a r ws))

  abbrev pub Says : Contract T
  Says M 𝓤 𝓛 mem run κs a = record { ghost = Unit {0}; requires = λ g. emp 𝓤; ensures = λ g r. ex 𝓤 (Holding 𝓛 κs a r) }

-- in an outcome a parameter that is no `&mut` is `tt`: k of these, and then x
abbrev pub Past : ℕ → Type 0 → Type 0
Past zero X = X
Past (suc k) X = Unit {0} × Past k X

abbrev pub past : (k : ℕ) {X : Type 0} → X → Past k X
past zero x = x
past (suc k) x = (tt, past k x)
