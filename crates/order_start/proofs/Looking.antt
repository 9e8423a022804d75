-- What a search found, read off the lent lists.
use Prim.Native.Nat.{ℕ, ◌-◌, ◌<◌}
use native.Mathlib.Omega.{arith}
use mathlib.Core.Path.{◌≡◌, sym, ap, ◌∙◌, subst, fun_ext}
use mathlib.Core.List.{List}
use lib.ListN.{length, get_or, take}
use lib.Seq.{get_or-take}
use borrow.Author.Tests.{eq-eqb}
use Rattle.std.proofs.Common.{IsSome, Some}
use Rattle.order_definition.specs.Order.{passing, neighbours, degree, depth, far_of}
use Rattle.order_definition.specs.Keys.{Below, key_of, first_by, valued}
use Rattle.order_definition.specs.Searches.{Searched, FreeAt, TableOf}
use Rattle.order_definition.proofs.At.{In, get_d_at}
use Rattle.order_definition.proofs.Choosing.{first_some, first_least}
use Rattle.order_definition.proofs.Lists.{in_passing}
use Rattle.order_definition.proofs.Visiting.{in_below}
use Rattle.order_search.specs.declared.graph.Graph.{Graph}
use Rattle.order_search.specs.Graph.{beside, reached}
use Rattle.order_search.proofs.Exploring.{sound}

pub keys_are : (starts cols : List ℕ) (n : ℕ) (degrees : List ℕ) → TableOf starts cols n degrees → key_of degrees ≡ degree (neighbours starts cols)
keys_are starts cols n degrees t = fun_ext (λ v. t.each v)

module _ (g : Graph) (mark : List ℕ) (s : ℕ) (long : length mark ≡ g.n) (f : FreeAt mark s) (queue level : List ℕ) (len : ℕ)
    (st : Searched (reached g mark s) queue level len) where
  pub some : 0 < len
  some = omega (arith, st.size, (sound g mark s long f g.n).some)

  last_is : get_or queue (len - 1) 0 ≡ get_or (reached g mark s).queue (length (reached g mark s).queue - 1) 0
  last_is =
      sym (get_or-take len queue (len - 1) 0 (omega (arith, some)))
      ∙ ap (λ (t : List ℕ). get_or t (len - 1) 0) st.front
      ∙ ap (λ (k : ℕ). get_or (reached g mark s).queue (k - 1) 0) st.size

  in_part : (w : ℕ) → In w (take len queue) → w < g.n
  in_part w a = (sound g mark s long f g.n).below w (subst (λ (t : List ℕ). In w t) st.front a)

  last_in : In (get_or queue (len - 1) 0) (take len queue)
  last_in =
      let is : get_or (take len queue) (len - 1) 0 ≡ get_or queue (len - 1) 0 = get_or-take len queue (len - 1) 0 (omega (arith, some)) in
      let far : length (take len queue) ≡ len = ap length st.front ∙ sym st.size in
      (len - 1, rw is at (get_d_at (take len queue) (len - 1) 0 (omega (arith, some))))

  pub last_below : get_or queue (len - 1) 0 < g.n
  last_below = in_part _ last_in

  pub part_below : Below g.n (take len queue)
  part_below = in_below g.n (take len queue) in_part

  module _ (degrees : List ℕ) (table : TableOf g.row_offsets.now g.cols.now g.n degrees) (deep : ℕ) (is : deep ≡ get_or level (get_or queue (len - 1) 0) 0) where
    pub deep_is : deep ≡ depth (beside g) g.n (reached g mark s)
    deep_is = is ∙ ap (λ (t : List ℕ). get_or t (get_or queue (len - 1) 0) 0) st.levels ∙ ap (λ (w : ℕ). get_or (reached g mark s).level w 0) last_is

    -- the last of the queue is in the last level, so there is a far node
    pub far_some : IsSome (first_by (key_of degrees) (passing (valued level deep) (take len queue)))
    far_some = first_some (key_of degrees) (passing (valued level deep) (take len queue)) _ (in_passing (valued level deep) (take len queue) _ last_in (eq-eqb _ _ (sym is)))

    pub far_is : (x : ℕ) → first_by (key_of degrees) (passing (valued level deep) (take len queue)) ≡ Some x → x ≡ far_of (beside g) g.n (reached g mark s)
    far_is x e =
        first_least g.n (key_of degrees) (passing (valued level deep) (take len queue)) x e
        ∙ rw (keys_are _ _ _ degrees table, st.front, st.levels, deep_is)
