-- PLANNING ON LISTS OF JUST THE LENGTH NEEDED: what it requires, and what it answers and leaves.
use Rattle.std.specs.Prelude.{ℕ, ◌+◌, ◌*◌, ◌≤◌, ◌<◌, ◌≡◌, cond, leb, replicate}
use Rattle.std.proofs.Math.Path.{refl, sym, ap}
use Rattle.std.proofs.Common.{◌∙◌, arith, le-leb}
use mathlib.Core.List.{List, [], ◌∷◌}
use Rattle.std.proofs.Math.ListN.{length}
use Rattle.std.proofs.lemmas.Bool.{lt-leb}
use Rattle.law.specs.Gather.{table}
use Rattle.law.proofs.Gather.{gather_same, length_table, table_at}
use Rattle.law.specs.Limit.{particles, envelope}
use Rattle.matrix_shape.specs.Rows.{at}
use Rattle.order_definition.specs.Order.{order_of}
use Rattle.order_definition.specs.Envelope.{place_of, first_col, row_starts}
use Rattle.order_definition.specs.Tight.{Tight}
use Rattle.order_search.specs.declared.graph.Graph.{Graph}
use Rattle.plan_layout.specs.EachOnce.{EachOnce}
use Rattle.plan_layout.specs.Leftmost.{col_most}
use Rattle.plan_layout.specs.Starts.{start_at, start_same, starts_are}
use Rattle.plan_make.specs.Plan.{Plan, four, plan_by, plan_of, envelope_length}
use Rattle.plan_layout.specs.Laid.{Laid}

-- the work lists
pub record Work : Type 0 where
  pub degrees : List ℕ
  pub placed : List ℕ
  pub mark : List ℕ
  pub level : List ℕ
  pub queue : List ℕ

abbrev pub five : List ℕ → List ℕ → List ℕ → List ℕ → List ℕ → Work
five degrees placed mark level queue = record { degrees = degrees; placed = placed; mark = mark; level = level; queue = queue }

-- ---- what is required

-- a pattern whose order lists each particle once
pub record Ground (n : ℕ) (s c : List ℕ) : Type 0 where
  pub few : n ≤ particles
  pub pattern : Tight n s c
  pub listed : EachOnce n (order_of n s c)

pub record Room (n : ℕ) (p : Plan) : Type 0 where
  pub order : length p.order ≡ n
  pub inverse : length p.inverse ≡ n
  pub first : length p.first ≡ 2 * n
  pub rows : length p.rows ≡ 2 * n + 1

pub record Desk (n : ℕ) (w : Work) : Type 0 where
  pub degrees : length w.degrees ≡ n
  pub placed : length w.placed ≡ n
  pub mark : length w.mark ≡ n
  pub level : length w.level ≡ n
  pub queue : length w.queue ≡ n

-- ---- what is left

-- the order and the places, in work lists, and the envelope's length
pub record Measured (n : ℕ) (s c : List ℕ) (len : ℕ) (level queue : List ℕ) : Type 0 where
  pub order : queue ≡ order_of n s c
  pub inverse : level ≡ table (place_of (order_of n s c)) n
  pub long : len ≡ envelope_length n s c

unfoldable pub zeros : ℕ → Work
zeros n = let none : List ℕ = replicate n 0 in five none none none none none

-- the plan where it fits, and otherwise what stood there
unfoldable pub settled : ℕ → Plan → Plan → Plan
settled len plan old = cond (leb len envelope) plan old

pub record Made : Type 0 where
  pub len : ℕ
  pub plan : Plan
  pub work : Work

abbrev pub made : ℕ → Plan → Work → Made
made len plan work = record { len = len; plan = plan; work = work }

unfoldable pub made_of : ℕ → List ℕ → List ℕ → Plan → Made
made_of n s c old = made (envelope_length n s c) (settled (envelope_length n s c) (plan_of n s c) old) (zeros n)

-- ---- the steps of planning

-- the last row start
pub length_is : (n : ℕ) (s c : List ℕ) → envelope_length n s c ≡ start_at (first_col s c (order_of n s c)) (2 * n)
unfolding envelope_length plan_of plan_by
length_is n s c =
    let f = first_col s c (order_of n s c) in
    ap (λ (t : List ℕ). at t (2 * n)) (starts_are s c (order_of n s c) (2 * n)) ∙ table_at (start_at f) (2 * n + 1) (2 * n) (omega arith)

pub too_long : (len : ℕ) (plan old : Plan) → envelope < len → old ≡ settled len plan old
unfolding settled
too_long len plan old h = rw (lt-leb len envelope h)

module _ (n : ℕ) (s c o : List ℕ) where
  -- a first column is no later than its row
  pub firsts_most : (x : List ℕ) → x ≡ table (first_col s c o) (2 * n) → (r : ℕ) → r < length x → at x r ≤ r
  firsts_most x e r h =
      let f = first_col s c o in
      let g : r < 2 * n = omega (arith, ap length e, length_table f (2 * n)) in
      omega (arith, ap (λ (t : List ℕ). at t r) e, table_at f (2 * n) r g, col_most s c o r)

  pub laid_out : (len : ℕ) (old : Plan) (p q x y : List ℕ) → len ≤ envelope → p ≡ o → q ≡ table (place_of o) n → x ≡ table (first_col s c o) (2 * n)
      → y ≡ table (start_at (at x)) (length x + 1) → four p q x y ≡ settled len (plan_by n s c o) old
  unfolding settled plan_by
  laid_out len old p q x y l a b d e =
      let f = first_col s c o in
      let long : length x ≡ 2 * n = ap length d ∙ length_table f (2 * n) in
      let same : table (start_at (at x)) (2 * n + 1) ≡ table (start_at f) (2 * n + 1) =
      gather_same (λ r. start_at (at x) r ∷ []) (λ r. start_at f r ∷ []) 0 (2 * n + 1) (omega arith)
      (λ r g h. ap (λ (k : ℕ). k ∷ []) (start_same (at x) f r (λ j m. ap (λ (t : List ℕ). at t j) d ∙ table_at f (2 * n) j (omega arith)))) in
      let rows : y ≡ row_starts s c o (2 * n) = (rw long at e) ∙ same ∙ sym (starts_are s c o (2 * n)) in
      rw (le-leb len envelope l, a, b, d, rows)

-- the work lists are cleared
pub zeros_are : (n : ℕ) (w : Work) → Desk n w → (a b d e f : List ℕ) → a ≡ replicate (length w.degrees) 0 → b ≡ replicate (length w.placed) 0
    → d ≡ replicate (length w.mark) 0 → e ≡ replicate (length w.level) 0 → f ≡ replicate (length w.queue) 0 → five a b d e f ≡ zeros n
unfolding zeros
zeros_are n w k a b d e f p q r s t = rw (p, q, r, s, t, k.degrees, k.placed, k.mark, k.level, k.queue)

-- lists that are still as long
pub desk_kept : (n : ℕ) (w : Work) → Desk n w → (a b d e f : List ℕ) → length a ≡ length w.degrees → length b ≡ length w.placed
    → length d ≡ length w.mark
    → length e ≡ length w.level → length f ≡ length w.queue → Desk (length f) (five a b d e f)
desk_kept n w k a b d e f p q r s t =
    let u = sym (t ∙ k.queue) in
    record { degrees = p ∙ k.degrees ∙ u; placed = q ∙ k.placed ∙ u; mark = r ∙ k.mark ∙ u; level = s ∙ k.level ∙ u; queue = refl }

-- q is the order and m its length; l has the places
module _ (n : ℕ) (s c : List ℕ) (g : Ground n s c) (q : List ℕ) (m : ℕ) (same : m ≡ n) (is : q ≡ order_of n s c) where
  pub order_listed : EachOnce m q
  order_listed = rw (same, is) g.listed

  length_q : length q ≡ n
  length_q = ap length is ∙ g.listed.long

  pub order_laid : (l : List ℕ) → l ≡ table (place_of q) m → Laid (length q) s c q l
  order_laid l e = rw length_q (record { few = g.few; pattern = g.pattern; order = rw is g.listed; inverse = rw same at e })

  pub order_measured : (l : List ℕ) (len : ℕ) → l ≡ table (place_of q) m → len ≡ start_at (first_col s c q) (2 * length q) → Measured n s c len l q
  order_measured l len e h = record { order = is; inverse = rw (same, is) at e; long = (rw (length_q, is) at h) ∙ sym (length_is n s c) }

-- the same once it has been measured
module _ (n : ℕ) (s c : List ℕ) (g : Ground n s c) (len : ℕ) (l q : List ℕ) (m : ℕ) (same : m ≡ n) (h : Measured m s c len l q) where
  order_is : q ≡ order_of n s c
  order_is = rw same at h.order

  pub measured_laid : Laid (length q) s c q l
  measured_laid = order_laid n s c g q n refl order_is l (rw same at h.inverse ∙ rw order_is)

  pub made_is : (old plan : Plan) (work : Work) (k : ℕ) → plan ≡ settled len (plan_by (length q) s c q) old → k ≡ n → work ≡ zeros k
      → made len plan work ≡ made_of n s c old
  unfolding made_of plan_of
  made_is old plan work k b j d =
      let a : len ≡ envelope_length n s c = rw same at h.long in
      rw (d, b, a, length_q n s c g q n refl order_is, order_is, j)

-- ---- over a graph as it is lent

abbrev pub order_over : Graph → List ℕ
order_over g = order_of g.n g.row_offsets.now g.cols.now

pub ground : (g : Graph) → EachOnce g.n (order_over g) → Ground g.n g.row_offsets.now g.cols.now
ground g l = record { few = g.few; pattern = g.tight; listed = l }

pub order_met : (g : Graph) (l : EachOnce g.n (order_over g)) (q inverse : List ℕ) (len : ℕ) → q ≡ order_over g → inverse ≡ table (place_of q) g.n
    → len ≡ start_at (first_col g.row_offsets.now g.cols.now q) (2 * g.n) → Measured g.n g.row_offsets.now g.cols.now len inverse q
order_met g l q inverse len is p e =
    order_measured _ _ _ (ground g l) q g.n refl is inverse len p
    (e ∙ ap (λ (k : ℕ). start_at (first_col g.row_offsets.now g.cols.now q) (2 * k)) (sym (order_listed _ _ _ (ground g l) q g.n refl is).long))

pub made_met : (g : Graph) (l : EachOnce g.n (order_over g)) (q inverse : List ℕ) (len : ℕ) → Measured g.n g.row_offsets.now g.cols.now len inverse q
    → (old plan : Plan) (work : Work) → plan ≡ settled len (plan_by g.n g.row_offsets.now g.cols.now q) old → work ≡ zeros g.n
    → made len plan work ≡ made_of g.n g.row_offsets.now g.cols.now old
made_met g l q inverse len h old plan work e z =
    made_is _ _ _ (ground g l) len inverse q g.n refl h old plan work g.n
    (e ∙ ap (λ (k : ℕ). settled len (plan_by k g.row_offsets.now g.cols.now q) old) (sym (order_listed _ _ _ (ground g l) q g.n refl h.order).long)) refl z
