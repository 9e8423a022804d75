-- WHAT THE CODE LEAVES IS CHOLESKY'S FACTOR (`cholesky`): the places hold the entries that specs/Entry.antt says, done or ended early. Assumes nothing.
use Prim.Native.Nat.{ℕ, ◌+◌, ◌-◌, ◌≤◌, ◌<◌, zero-le}
use mathlib.Core.Path.{◌≡◌, refl, ap, sym, ◌∙◌}
use mathlib.Core.Bool.{Bool, true, false}
use mathlib.Core.List.{List}
use mathlib.Core.Logic.{⊎_elim}
use native.Mathlib.Omega.{arith}
use native.Mathlib.Nat.{le_refl}
use lib.ListN.{length, get_or, set, length-set}
use lib.Ieee.{Float, nan, lt}
use Rattle.law.specs.Loop.{over}
use Rattle.law.proofs.Loop.{over_same, over_shift, over_keeps, over_holds}
use Rattle.law.specs.Truth.{below_or}
use Rattle.plane.specs.Plane.{◌⊖◌, ◌⊗◌, zero32}
use Rattle.flat_runs.specs.Run.{run_step, dot_run}
use Rattle.root.specs.Sqrt.{sqrt_of}
use Rattle.plan_fits.specs.Cells.{Skyline, Cell, place, corner, look}
use Rattle.factor_load.specs.Permuted.{Matrix}
use Rattle.factor_load.proofs.Look.{look_same, look_other}
use Rattle.factor_row.specs.Row.{later, later_left, later_right, reduced_of, entry_of, entry_step, left_of, square_step, pivot_of}
use Rattle.std.specs.Prelude.{Ok, Err}
use Rattle.factor_make.specs.Factored.{Factored}
use Rattle.factor_make.specs.Factor.{State, state, close_of, row_of, row_step, factor_of}
use Rattle.factor_make.specs.Entry.{product_step, entry, pivot_step, pivot, Finished, Ended, Cholesky}

-- ---- what an entry and a pivot are worked out of

pub entry_same : (f : ℕ → ℕ) (a l t : Matrix) (i j : ℕ) → f j ≤ j → ((k : ℕ) → f i ≤ k → k < j → l i k ≡ t i k)
    → ((k : ℕ) → f j ≤ k → k ≤ j → l j k ≡ t j k) → entry f a l i j ≡ entry f a t i j
unfolding entry product_step
entry_same f a l t i j low mine theirs =
    let k = later (f i) (f j) in
    let sums : over (product_step l i j) k j zero32 ≡ over (product_step t i j) k j zero32 =
    over_same (product_step l i j) (product_step t i j) k j zero32
    (λ c z h g. rw (mine c (omega (arith, later_left (f i) (f j))) g, theirs c (omega (arith, later_right (f i) (f j))) (omega arith))) in
    rw (sums, theirs j low (le_refl j))

pub pivot_same : (f : ℕ → ℕ) (a l t : Matrix) (i : ℕ) → ((k : ℕ) → f i ≤ k → k < i → l i k ≡ t i k) → pivot f a l i ≡ pivot f a t i
unfolding pivot pivot_step
pivot_same f a l t i mine = over_same (pivot_step l i) (pivot_step t i) (f i) i (a i i) (λ k z h g. rw (mine k h g))

-- finished rows stay finished where their entries stay
module _ (f : ℕ → ℕ) (a l t : Matrix) (m : ℕ) (low : (i : ℕ) → i < m → f i ≤ i) (same : (i j : ℕ) → i < m → f i ≤ j → j ≤ i → l i j ≡ t i j) where
  finished_same : Finished m f a l → Finished m f a t
  finished_same w = record {
    left = λ i j h g u.
        sym (same i j h g (omega arith)) ∙ w.left i j h g u
        ∙ entry_same f a l t i j (low j (omega arith)) (λ k p q. same i k h p (omega arith)) (λ k p q. same j k (omega arith) p q);
    above = λ i h. rw (pivots i h) at (w.above i h);
    diagonal = λ i h. sym (same i i h (low i h) (le_refl i)) ∙ w.diagonal i h ∙ ap sqrt_of (pivots i h);
  }
    where
      pivots : (i : ℕ) → i < m → pivot f a l i ≡ pivot f a t i
      pivots i h = pivot_same f a l t i (λ k p q. same i k h p (omega arith))

-- one row more
finished_more : (f : ℕ → ℕ) (a l : Matrix) (m : ℕ) → Finished m f a l → ((j : ℕ) → f m ≤ j → j < m → l m j ≡ entry f a l m j)
    → lt zero32 (pivot f a l m) ≡ true
    → l m m ≡ sqrt_of (pivot f a l m) → Finished (m + 1) f a l
finished_more f a l m w row up root = record {
  left = λ i j h g u. ⊎_elim (λ p. w.left i j p g u) (λ p. let e : i ≡ m = omega arith in rw e (row j (rw e at g) (omega arith))) (below_or i m);
  above = λ i h. ⊎_elim (λ p. w.above i p) (λ p. let e : i ≡ m = omega arith in rw e up) (below_or i m);
  diagonal = λ i h. ⊎_elim (λ p. w.diagonal i p) (λ p. let e : i ≡ m = omega arith in rw e root) (below_or i m);
}

-- the matrix's entries outside the envelope don't count
pub cholesky_same : (m : ℕ) (f : ℕ → ℕ) (a b l : Matrix) → ((i : ℕ) → i < m → f i ≤ i) → ((i j : ℕ) → Cell m f i j → a i j ≡ b i j) → (h : Factored)
    → Cholesky m f a l h → Cholesky m f b l h
unfolding entry pivot
cholesky_same m f a b l low same = go
  where
    at : (i j : ℕ) → i < m → f i ≤ j → j ≤ i → a i j ≡ b i j
    at i j h g u = same i j (record { row = h; left = g; upto = u })

    rows : (k : ℕ) → k ≤ m → Finished k f a l → Finished k f b l
    rows k u w = record {
      left = λ i j h g p. w.left i j h g p ∙ rw (at i j (omega arith) g (omega arith));
      above = λ i h. rw (at i i (omega arith) (low i (omega arith)) (le_refl i)) at (w.above i h);
      diagonal = λ i h. w.diagonal i h ∙ rw (at i i (omega arith) (low i (omega arith)) (le_refl i));
    }

    go : (h : Factored) → Cholesky m f a l h → Cholesky m f b l h
    go (Ok _) w = rows m (le_refl m) w
    go (Err e) w =
        let r = e.row in
        let corner = at r r w.row (low r w.row) (le_refl r) in
        record {
          row = w.row;
          earlier = rows r (omega (arith, w.row)) w.earlier;
          left = λ j g u. w.left j g u ∙ rw (at r j w.row g (omega arith));
          reached = w.reached ∙ rw corner;
          fails = w.fails;
          diagonal = w.diagonal ∙ corner;
          rest = λ i j h g u p. w.rest i j h g u p ∙ at i j g u p;
        }

-- nor do the factor's
pub cholesky_kept : (m : ℕ) (f : ℕ → ℕ) (a l t : Matrix) → ((i : ℕ) → i < m → f i ≤ i) → ((i j : ℕ) → Cell m f i j → l i j ≡ t i j) → (h : Factored)
    → Cholesky m f a l h → Cholesky m f a t h
cholesky_kept m f a l t low same = go
  where
    at : (i j : ℕ) → i < m → f i ≤ j → j ≤ i → l i j ≡ t i j
    at i j h g u = same i j (record { row = h; left = g; upto = u })

    go : (h : Factored) → Cholesky m f a l h → Cholesky m f a t h
    go (Ok _) w = finished_same f a l t m low at w
    go (Err e) w =
        let r = e.row in
        let h = w.row in
        let row : (k : ℕ) → f r ≤ k → k < r → l r k ≡ t r k = λ k p q. at r k h p (omega arith) in
        record {
          row = h;
          earlier = finished_same f a l t r (λ i g. low i (omega arith)) (λ i j g u p. at i j (omega arith) u p) w.earlier;
          left = λ j g u. sym (row j g u) ∙ w.left j g u
              ∙ entry_same f a l t r j (low j (omega arith)) (λ k p q. row k p (omega arith)) (λ k p q. at j k (omega arith) p q);
          reached = w.reached ∙ pivot_same f a l t r row;
          fails = w.fails;
          diagonal = sym (at r r h (low r h) (le_refl r)) ∙ w.diagonal;
          rest = λ i j g u p q. sym (at i j u p q) ∙ w.rest i j g u p q;
        }

-- ---- the places' sums are the entries'

sum_is : (f s : ℕ → ℕ) (v : List Float) (i j k : ℕ) → f i ≤ k → f j ≤ k → dot_run v (place f s i k) v (place f s j k) (j - k) ≡ over
    (product_step (look f s v) i j) k j zero32
unfolding dot_run product_step
sum_is f s v i j k h g =
    over_shift (run_step v (place f s i k) v (place f s j k)) (product_step (look f s v) i j) k j zero32
    (λ c z l.
    let a : place f s i k + c ≡ place f s i (k + c) = omega arith in
    let b : place f s j k + c ≡ place f s j (k + c) = omega arith in
    rw (a, b))

-- a row's entry, as long as its column is still the matrix's
entry_is : (f s : ℕ → ℕ) (a : Matrix) (v : List Float) (i j : ℕ) → look f s v i j ≡ a i j → entry_of f s v (f i) (s i) j ≡ entry f a (look f s v) i j
unfolding entry_of reduced_of entry
entry_is f s a v i j e = rw (sum_is f s v i j (later (f i) (f j)) (later_left (f i) (f j)) (later_right (f i) (f j)), e)

pivot_is : (f s : ℕ → ℕ) (a : Matrix) (v : List Float) (i : ℕ) → look f s v i i ≡ a i i → pivot_of v (s i) (place f s i i) ≡ pivot f a (look f s v) i
unfolding pivot_of square_step pivot pivot_step
pivot_is f s a v i e =
    let step : ℕ → Float → Float = λ c d. d ⊖ get_or v (s i + c) nan ⊗ get_or v (s i + c) nan in
    let far : place f s i i - s i ≡ i - f i = omega arith in
    let here : over step 0 (i - f i) (a i i) ≡ over (square_step v) (s i) (place f s i i) (a i i) =
    rw far at (over_shift step (square_step v) (s i) (place f s i i) (a i i) (λ c z l. refl)) in
    let there : over step 0 (i - f i) (a i i) ≡ over (pivot_step (look f s v) i) (f i) i (a i i) =
    over_shift step (pivot_step (look f s v) i) (f i) i (a i i) (λ c z l. let q : f i + c - f i ≡ c = omega arith in rw q) in
    rw e (sym here ∙ there)

-- ---- the length stays

closed_long : (i e : ℕ) (d : Float) (v : List Float) (b : Bool) → lt zero32 d ≡ b → length (close_of i e d v).values ≡ length v
unfolding close_of
closed_long i e d v true u = rw u (length-set v e (sqrt_of d))
closed_long i e d v false u = rw u

row_long : (f s : ℕ → ℕ) (i : ℕ) (v : List Float) → length (row_of f s i v).values ≡ length v
unfolding row_of left_of entry_step
row_long f s i v =
    let w = left_of f s (f i) (s i) i v in
    closed_long i (place f s i i) (pivot_of w (s i) (place f s i i)) w _ refl
    ∙ over_keeps (λ t. length t ≡ length v) (entry_step f s (f i) (s i)) (f i) i v (λ j t h g e. length-set t _ _ ∙ e) refl

step_long : (f s : ℕ → ℕ) (i : ℕ) (x : State) (h : Factored) → x.how ≡ h → length (row_step f s i x).values ≡ length x.values
unfolding row_step
step_long f s i x (Ok _) e = rw e (row_long f s i x.values)
step_long f s i x (Err y) e = rw e

pub factor_long : (f s : ℕ → ℕ) (m : ℕ) (v : List Float) → length (factor_of f s m v).values ≡ length v
unfolding factor_of
factor_long f s m v =
    over_keeps (λ x. length x.values ≡ length v) (row_step f s) 0 m (state (Ok tt) v) (λ i x h g e. step_long f s i x x.how refl ∙ e) refl

-- ---- the rows

module _ {m : ℕ} {f s : ℕ → ℕ} (w : Skyline m f s) (v : List Float) (whole : length v ≡ s m) where
  abbrev A : Matrix
  A = look f s v

  -- row i with its entries before column j finished; z is what stood there before the row's first turn
  record Left (i : ℕ) (z : List Float) (j : ℕ) (t : List Float) : Type 0 where
    long : length t ≡ s m
    done : (b : ℕ) → f i ≤ b → b < j → look f s t i b ≡ entry f A (look f s t) i b
    raw : (b : ℕ) → f i ≤ b → j ≤ b → b ≤ i → look f s t i b ≡ A i b
    others : (a b : ℕ) → Cell m f a b → (a ≡ i → ⊥) → look f s t a b ≡ look f s z a b

  module _ (i : ℕ) (below : i < m) (z : List Float) where
    cell : (b : ℕ) → f i ≤ b → b ≤ i → Cell m f i b
    cell b h g = record { row = below; left = h; upto = g }

    turn : (j : ℕ) (t : List Float) → f i ≤ j → j < i → Left i z j t → Left i z (j + 1) (entry_step f s (f i) (s i) j t)
    unfolding entry_step
    turn j t h g c = record {
      long = length-set t (place f s i j) x ∙ c.long;
      done = λ b p q. ⊎_elim (λ u. row b p (omega arith) (λ e. omega arith) ∙ c.done b p u ∙ stays b (omega arith))
          (λ u. let e : b ≡ j = omega arith in rw e (look_same w t c.long here x ∙ entry_is f s A t i j (c.raw j h (le_refl j) (omega arith))
          ∙ stays j (le_refl j))) (below_or b j);
      raw = λ b p q u. row b p u (λ e. omega arith) ∙ c.raw b p (omega arith) u;
      others = λ a b e ne. look_other w t c.long here x e (λ q. ne q.0) ∙ c.others a b e ne;
    }
      where
        here : Cell m f i j
        here = cell j h (omega arith)

        x : Float
        x = entry_of f s t (f i) (s i) j

        row : (b : ℕ) → f i ≤ b → b ≤ i → (b ≡ j → ⊥) → look f s (set t (place f s i j) x) i b ≡ look f s t i b
        row b p q ne = look_other w t c.long here x (cell b p q) (λ e. ne e.1)

        stays : (b : ℕ) → b ≤ j → entry f A (look f s t) i b ≡ entry f A (look f s (set t (place f s i j) x)) i b
        stays b p =
            entry_same f A (look f s t) (look f s (set t (place f s i j) x)) i b (w.low b (omega arith))
            (λ k q u. sym (row k q (omega arith) (λ e. omega arith)))
            (λ k q u. sym (look_other w t c.long here x (record { row = omega arith; left = q; upto = u }) (λ e. omega (arith, e.0))))

  -- the first k rows are finished and the others are the matrix's
  record Run (k : ℕ) (t : List Float) : Type 0 where
    long : length t ≡ s m
    finished : Finished k f A (look f s t)
    raw : (a b : ℕ) → Cell m f a b → k ≤ a → look f s t a b ≡ A a b

  abbrev Reached : ℕ → Factored → List Float → Type 0
  Reached k (Ok _) t = Run k t
  Reached k (Err e) t = Ended m f A (look f s t) e.row e.pivot

  module _ (i : ℕ) (below : i < m) (z : List Float) (run : Run i z) where
    left : Left i z i (left_of f s (f i) (s i) i z)
    unfolding left_of
    left =
        over_holds (Left i z) (entry_step f s (f i) (s i)) (f i) i z (w.low i below)
        (record {
          long = run.long;
          done = λ b p q. absurd (omega arith);
          raw = λ b p q u. run.raw i b (cell i below z b p u) (le_refl i);
          others
              = λ a b e ne. refl;
        })
        (λ j t h g c. turn i below z j t h g c)

    -- a row's turn, by whether its pivot is above zero
    closed : (t : List Float) → Left i z i t → (d : Float) → d ≡ pivot f A (look f s t) i → (b : Bool) → lt zero32 d ≡ b
        → Reached (i + 1) (close_of i (place f s i i) d t).how (close_of i (place f s i i) d t).values
    unfolding close_of
    closed t c d e true u = rw u (record {
      long = length-set t (place f s i i) (sqrt_of d) ∙ c.long;
      finished = finished_more f A l i (finished_same f A (look f s z) l i (λ a h. w.low a (omega arith))
          (λ a b h g p. sym (up a b (omega arith) g p (λ q. omega arith) ∙ c.others a b (at a b (omega arith) g p) (λ q. omega arith)))
          run.finished)
          (λ b h g. up i b below h (omega arith) (λ q. omega arith) ∙ c.done b h g ∙ entry_same f A (look f s t) l i b (w.low b (omega arith))
          (λ k p q. mine k p (omega arith)) (λ k p q. sym (up b k (omega arith) p q (λ y. omega arith))))
          (rw (e ∙ same) at u) (look_same w t c.long (corner w i below) (sqrt_of d) ∙ ap sqrt_of (e ∙ same));
      raw = λ a b y h. look_other w t c.long (corner w i below) (sqrt_of d) y (λ q. omega (arith, q.0)) ∙ c.others a b y (λ q. omega arith)
          ∙ run.raw a b y (omega arith);
    })
      where
        l : Matrix
        l = look f s (set t (place f s i i) (sqrt_of d))

        at : (a b : ℕ) → a < m → f a ≤ b → b ≤ a → Cell m f a b
        at a b h g p = record { row = h; left = g; upto = p }

        -- nothing but the diagonal has changed
        up : (a b : ℕ) → a < m → f a ≤ b → b ≤ a → (b ≡ i → ⊥) → l a b ≡ look f s t a b
        up a b h g p ne = look_other w t c.long (corner w i below) (sqrt_of d) (at a b h g p) (λ q. ne q.1)

        mine : (k : ℕ) → f i ≤ k → k < i → look f s t i k ≡ l i k
        mine k p q = sym (up i k below p (omega arith) (λ y. omega arith))

        same : pivot f A (look f s t) i ≡ pivot f A l i
        same = pivot_same f A (look f s t) l i mine
    closed t c d e false u = rw u (record {
      row = below;
      earlier = finished_same f A (look f s z) (look f s t) i (λ a h. w.low a (omega arith))
          (λ a b h g p. sym (c.others a b (record { row = omega arith; left = g; upto = p }) (λ q. omega arith))) run.finished;
      left = λ b h g. c.done b h g;
      reached = e;
      fails = u;
      diagonal = c.raw i (w.low i below) (le_refl i) (le_refl i);
      rest = λ a b h g p q. c.others a b (record { row = g; left = p; upto = q }) (λ y. omega arith)
          ∙ run.raw a b (record { row = g; left = p; upto = q }) (omega arith);
    })

  step : (i : ℕ) (x : State) (h : Factored) → x.how ≡ h → i < m → Reached i h x.values → Reached (i + 1) (row_step f s i x).how (row_step f s i x).values
  unfolding row_step row_of
  step i x (Ok _) e below run =
      let z = x.values in
      let t = left_of f s (f i) (s i) i z in
      let c = left i below z run in
      let d = pivot_of t (s i) (place f s i i) in
      rw e (closed i below z run t c d (pivot_is f s A t i (c.raw i (w.low i below) (le_refl i) (le_refl i))) (lt zero32 d) refl)
  step i x (Err y) e below run = rw e run

  reached : Reached m (factor_of f s m v).how (factor_of f s m v).values
  unfolding factor_of
  reached =
      over_holds (λ k x. Reached k x.how x.values) (row_step f s) 0 m (state (Ok tt) v) zero-le
      (record {
        long = whole;
        finished = record {
          left = λ i j h g u. absurd (omega arith);
          above = λ i h. absurd (omega arith);
          diagonal
              = λ i h. absurd (omega arith);
        };
        raw = λ a b y h. refl;
      })
      (λ i x h g q. step i x x.how refl g q)

  pub cholesky : Cholesky m f A (look f s (factor_of f s m v).values) (factor_of f s m v).how
  cholesky = told (factor_of f s m v) (factor_of f s m v).how refl reached
    where
      told : (x : State) (h : Factored) → x.how ≡ h → Reached m h x.values → Cholesky m f A (look f s x.values) x.how
      told x (Ok _) e q = rw e q.finished
      told x (Err y) e q = rw e q
