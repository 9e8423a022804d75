-- THE THEOREMS: what an accepted computing leaves, and what a combination of one entry from it is. By the calls' promises alone. Assumes nothing.
use Rattle.std.specs.Prelude.{Ok}
use Prim.Native.Nat.{ℕ, ◌*◌, ◌≤◌}
use native.Mathlib.Omega.{arith}
use mathlib.Core.Path.{◌≡◌, refl, sym, ap, ◌∙◌}
use mathlib.Core.Bool.{true}
use mathlib.Core.List.{List, [], ◌∷◌}
use lib.ListN.{length}
use lib.Ieee.{Float}
use borrow.Author.Tests.{lt-ltb}
use Rattle.law.specs.Loop.{over, fold}
use Rattle.law.specs.Every.{every}
use Rattle.law.proofs.Room.{enough_is, enough_of}
use Rattle.law.specs.Refusal.{Verdict, verdict}
use Rattle.step_tally.specs.declared.Tally.{Tally}
use Rattle.law.proofs.Refusals.{all_pass, none_fails}
use Rattle.law.specs.Promise.{Promise, by, outcome}
use Rattle.step_entries.specs.Entries.{entries_room, below}
use Rattle.columns_make.specs.Making.{In, Out, Ready, ready, making_room, later, refusals, ended_of, made, finished, work, door}
use Rattle.columns_combine.specs.Combining as C
use Rattle.columns_meaning.specs.Solution.{solution, asks}
use Rattle.columns_meaning.specs.Combined.{from, ComputeCombines}
use Rattle.columns_meaning.specs.Computed.{Loaded, sum_of, ColumnsAre, RestKept, WorkZero, TallyIs, ComputeLeaves}
use Rattle.columns_meaning.proofs.Loop.{made_is, columns_hold}
pub use Rattle.columns_meaning.proofs.Solve.{solves_are_calls}
pub use Rattle.columns_meaning.proofs.Entry.{one_entry}
use Rattle.columns_meaning.proofs.Tally.{ran, two_each, own_sum}

-- ---- computing

is_work : (i : In) (o : Out) → Promise door i o → verdict (refusals i) ≡ Ok tt → o ≡ finished (made i)
unfolding outcome work
is_work i o h v = h ∙ ap (λ (k : Verdict). by k (work i) (λ j. door.refuse j i)) v

module _ (i : In) (o : Out) (h : Promise door i o) (v : verdict (refusals i) ≡ Ok tt) where
  has : Ready i
  has = ready i (sym v)

  pub columns_are : ColumnsAre i o
  columns_are p k is g = rw (is_work i o h v) (columns_hold i has p k is g)

  pub rest_kept : RestKept i o
  rest_kept = rw (is_work i o h v) record { rest = (made_is i has).rest; long = (made_is i has).long }

  pub work_lists_zero : WorkZero i o
  work_lists_zero =
      let u = made_is i has in
      rw (is_work i o h v) record {
        rhs = u.rhs;
        scratch = u.scratch;
        residual = u.residual;
        direction = u.direction;
        a_direction = u.a_direction;
        z = u.z;
      }

  pub tally_is : TallyIs i o
  unfolding asks
  tally_is =
      let u = made_is i has in
      let own = ap (λ (t : Tally). Ok (ended_of t)) u.own in
      rw (is_work i o h v) record {
        lent = u.lent;
        own = own;
        ran = ran i;
        many = two_each i has.numbered;
        sum = ap sum_of own ∙ own_sum i has.numbered;
      }

pub compute_leaves : ComputeLeaves
compute_leaves i o h v = record { columns = columns_are i o h v; kept = rest_kept i o h v; work = work_lists_zero i o h v; tally = tally_is i o h v }

-- ---- combining

-- one entry of a loaded particle is accepted
accepts : (i : In) (c : Out) → Promise door i c → verdict (refusals i) ≡ Ok tt → (p : ℕ) (g out : List Float) → Loaded i p → 2 ≤ length g
    → 2 * i.n ≤ length out → verdict (C.refusals (from i c p g out)) ≡ Ok tt
unfolding refusals later making_room C.refusals C.columns_room entries_room below every over fold
accepts i c h v p g out is two room =
    let f = all_pass (refusals i) (sym v) in
    let r = enough_is true _ f.1.1.0 in
    let long = (rest_kept i c h v).long in
    let columns = enough_of true (C.columns_room i.n i.loaded i.column_of c.columns (2 * i.n) out) refl
    (r.1.0, (omega (arith, r.1.1.0), (room, tt))) in
    let entries = enough_of true (entries_room i.n i.pinned 1 (p ∷ []) g) refl (r.0, (omega arith, (two, tt))) in
    none_fails (C.refusals (from i c p g out)) (f.0, (refl, (columns, (entries, (lt-ltb _ _ is.0, (f.1.1.1.1.0, tt))))))

pub computed_combines : ComputeCombines
computed_combines i c h v p g out is two room =
    let ok = accepts i c h v p g out is two room in
    record {
      accepted = ok;
      weighs = λ o q. one_entry (from i c p g out) o q ok (solution i p 0) (solution i p 1) record {
        one = refl;
        has = is.1;
        first = columns_are i c h v p 0 is (omega arith);
        second = columns_are i c h v p 1 is (omega arith);
      };
    }
