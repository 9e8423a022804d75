-- THE DOOR `particle_block_from_columns`: both columns of a particle, copied, and the block of their values at the particle, symmetrised.
use Rattle.std.specs.Prelude.{ℕ, ◌+◌, ◌*◌, ◌-◌, ◌≤◌, ◌<◌, ◌≡◌, true, cond, List, [], ◌∷◌, ◌++◌, leb, ltb, eqb, length, take, drop, Float, Result, Ok, Err, Option, None, Some}
use Rattle.std.proofs.Common.{ap, sym, ◌∙◌, append-nil, append_assoc, arith, length-drop, length-take-le, take_all, take_at, drop_at, drop-drop, leb-true, ltb-true, eq-eqb, ne_eqb}
use Rattle.std.proofs.Math.Seq.{drop-length}
use Rattle.std.specs.Float.{binary32}
use Rattle.std.specs.Float.Ieee.{of_bits}
use Rattle.law.specs.Limit.{particles, unloaded}
use Rattle.law.specs.declared.refusal.Refusal.{Refusal}
use Rattle.law.specs.declared.refusal.Refusal.TheVariants.{TooManyParticles, ShortBuffer, OutOfRange, BadPlan}
use Rattle.law.specs.Loop.{fold, over}
use Rattle.law.specs.Gather.{gather}
use Rattle.law.specs.Mix.{mix}
use Rattle.law.proofs.Mix.{mix_whole}
use Rattle.law.specs.Room.{enough}
use Rattle.law.proofs.Room.{enough_is}
use Rattle.law.specs.Refusal.{Test, unless, Rising, verdict}
use Rattle.law.proofs.Refusals.{all_pass}
use Rattle.law.specs.Promise.{Door}
use Rattle.law.specs.Said.{Said}
use Rattle.plane.specs.Plane.{Vector, Block, pair, x, y, c0, c1, add_of, scale_of, zero_of}
use Rattle.plane.specs.Lent.{vector_at}
use Rattle.matrix_shape.specs.Rows.{at}
use Rattle.gradient_definition.specs.Vectors.{copied_is}
use Rattle.step_routes.specs.Dense.{cleared}
use Rattle.columns_table.specs.Lent.{Numbering}
use Rattle.columns_table.specs.Table.{table_ok}
use Rattle.columns_table.specs.Columns.{column_of}
use Rattle.columns_block.specs.Said.{block_said}
use Rattle.columns_combine.specs.Combining.{columns_room}
use Rattle.columns_combine.specs.Readable.{Readable, Stored, readable_of, stored_long}

pub record In : Type 0 where
  pub n : ℕ
  pub pinned : List ℕ
  pub loaded : ℕ
  pub column_of : List ℕ
  pub columns : List Float
  pub particle : ℕ
  pub out : List Float

pub record Out : Type 0 where
  pub answer : Result (Option Block) Refusal
  pub said : Said
  pub out : List Float

abbrev pub given : ℕ → Numbering → List Float → ℕ → List Float → In
given n t columns particle out =
    record { n = n; pinned = t.pinned; loaded = t.loaded; column_of = t.column_of; columns = columns; particle = particle; out = out }

abbrev pub left : Result (Option Block) Refusal → List Float → Out
left r out = record { answer = r; said = block_said r; out = out }

-- THE REFUSALS
unfoldable pub refusals : In → List Test
refusals i =
    unless TooManyParticles (leb i.n particles)
    ∷ unless ShortBuffer (leb i.n (length i.pinned))
    ∷ unless ShortBuffer (enough true (columns_room i.n i.loaded i.column_of i.columns (4 * i.n) i.out))
    ∷ unless OutOfRange (ltb i.particle i.n)
    ∷ unless BadPlan (table_ok i.n i.pinned i.loaded i.column_of)
    ∷ []

pub in_order : (i : In) → Rising 1 (refusals i)
unfolding refusals
in_order i = (omega arith, (omega arith, (omega arith, (omega arith, (omega arith, tt)))))

-- THE WORK. (M + Mᵀ)·0.5, entry by entry
abbrev pub half32 : Float
half32 = of_bits binary32 0x3f00_0000

abbrev pub transposed : Block → Block
transposed m = pair (pair (x (c0 m)) (x (c1 m))) (pair (y (c0 m)) (y (c1 m)))

unfoldable pub symmetrised : Block → Block
symmetrised m = pair (scale_of (add_of (c0 m) (c0 (transposed m))) half32) (scale_of (add_of (c1 m) (c1 (transposed m))) half32)

-- the block of the two columns' values at particle p
abbrev pub block_for : ℕ → List Float → ℕ → ℕ → Block
block_for n columns c p = symmetrised (pair (vector_at (column_of n columns c 0) p) (vector_at (column_of n columns c 1) p))

-- both columns, axis after axis, over the front of out
unfoldable pub copied : ℕ → List Float → ℕ → List Float → List Float
copied n columns c out = mix (2 * n) 2 (λ k. column_of n columns c k) out

unfoldable pub work : In → Out
work i =
    cond (eqb (at i.pinned i.particle) 0)
    (cond (eqb (at i.column_of i.particle) unloaded) (left (Ok None) i.out)
    (left (Ok (Some (block_for i.n i.columns (at i.column_of i.particle) i.particle)))
    (copied i.n i.columns (at i.column_of i.particle) i.out)))
    (left (Ok (Some (pair zero_of zero_of))) (cleared (2 * i.n) i.out))

-- a refusal changes nothing
abbrev pub door : Door In Out
door = record { tests = refusals; in_order = in_order; work = work; refuse = λ k i. left (Err k) i.out }

-- ---- what the work requires

pub record Ready (i : In) : Type 0 where
  pub readable : Readable i.n i.column_of i.columns
  pub marks : i.n ≤ length i.pinned
  pub inside : i.particle < i.n
  pub room : 4 * i.n ≤ length i.out

pub ready : (i : In) → Ok tt ≡ verdict (refusals i) → Ready i
unfolding refusals columns_room
ready i h =
    let p = all_pass (refusals i) h in
    let q = p.1.1 in
    let r = enough_is true (columns_room i.n i.loaded i.column_of i.columns (4 * i.n) i.out) q.0 in
    record {
      readable = readable_of i.n i.pinned i.loaded i.column_of i.columns (leb-true _ _ p.0) r.0 r.1.0 q.1.1.0;
      marks = leb-true _ _ p.1.0;
      inside = ltb-true _ _ q.1.0;
      room = r.1.1.0;
    }

-- ---- both columns as they are copied: a and b are the columns, m is out after the first copy, r its rest after the second

parts_whole : (n : ℕ) (a : List Float) → length a ≡ 2 * n → gather (vector_at a) 0 n ≡ a
parts_whole n a e = copied_is n a (gather (vector_at a) 0 n) e a e (sym (mix_whole 2 n (vector_at a) a e))

two_copies : (n : ℕ) (a b out m r : List Float) → length a ≡ 2 * n → length b ≡ 2 * n → length m ≡ length out → 4 * n ≤ length out
    → m ≡ mix 2 n (vector_at a) out → r ≡ mix 2 n (vector_at b) (take (length m - 2 * n) (drop (2 * n) m))
    → take (2 * n) m ++ (r ++ drop (length m - 2 * n) (drop (2 * n) m)) ≡ a ++ (b ++ drop (4 * n) out)
two_copies n a b out m r la lb lm room h g =
    let front : m ≡ a ++ drop (2 * n) out = h ∙ ap (λ (t : List Float). t ++ drop (2 * n) out) (parts_whole n a la) in
    let rest : drop (2 * n) m ≡ drop (2 * n) out = ap (drop (2 * n)) front ∙ drop_at a (drop (2 * n) out) (2 * n) la in
    let long : length m - 2 * n ≡ length (drop (2 * n) out) = ap (λ (k : ℕ). k - 2 * n) lm ∙ sym (length-drop (2 * n) out) in
    let all : take (length m - 2 * n) (drop (2 * n) m) ≡ drop (2 * n) out =
    ap (take (length m - 2 * n)) rest ∙ take_all (length m - 2 * n) (drop (2 * n) out) (omega (arith, long)) in
    let none : drop (length m - 2 * n) (drop (2 * n) m) ≡ [] =
    ap (drop (length m - 2 * n)) rest ∙ ap (λ (k : ℕ). drop k (drop (2 * n) out)) long ∙ drop-length (drop (2 * n) out) in
    let four : 2 * n + 2 * n ≡ 4 * n = omega arith in
    let second : r ≡ b ++ drop (4 * n) out =
    g ∙ ap (mix 2 n (vector_at b)) all ∙ ap (λ (t : List Float). t ++ drop (2 * n) (drop (2 * n) out)) (parts_whole n b lb)
    ∙ ap (λ (t : List Float). b ++ t) (drop-drop (2 * n) (2 * n) out ∙ ap (λ (k : ℕ). drop k out) four) in
    rw (ap (take (2 * n)) front ∙ take_at a (drop (2 * n) out) (2 * n) la, second, none, append-nil)

-- the rest that the second copy is lent
pub rest_long : (n : ℕ) (out m : List Float) → length m ≡ length out → 4 * n ≤ length out → 2 * n ≤ length (take (length m - 2 * n) (drop (2 * n) m))
rest_long n out m e h = rw (length-take-le (length m - 2 * n) (drop (2 * n) m) (rw length-drop (omega arith))) (omega arith)

pub both_copied : (n c : ℕ) (columns : List Float) (a b out m r : List Float) → Stored n c columns → 4 * n ≤ length out
    → a ≡ column_of n columns c 0 → b ≡ column_of n columns c 1
    → length m ≡ length out → m ≡ mix 2 n (vector_at a) out → r ≡ mix 2 n (vector_at b) (take (length m - 2 * n) (drop (2 * n) m))
    → take (2 * n) m ++ (r ++ drop (length m - 2 * n) (drop (2 * n) m)) ≡ copied n columns c out
unfolding copied gather over fold
both_copied n c columns a b out m r w h ea eb lm f g =
    let la = stored_long n c columns 0 a w (omega arith) ea in
    let lb = stored_long n c columns 1 b w (omega arith) eb in
    let four : 4 * n ≡ 2 * n * 2 = omega arith in
    two_copies n a b out m r la lb lm h f g ∙ rw (ea, eb, four, append_assoc)

-- ---- the block as it is read: u and v are the columns' values at the particle

pub block_is : (n : ℕ) (columns : List Float) (c p : ℕ) (a b : List Float) (u v : Vector) (m : Block) → a ≡ column_of n columns c 0
    → b ≡ column_of n columns c 1 → u ≡ vector_at a p → v ≡ vector_at b p → m ≡ symmetrised (pair u v) → m ≡ block_for n columns c p
block_is n columns c p a b u v m ea eb eu ev h = h ∙ rw (eu, ev, ea, eb)

-- ---- the three ends

pub is_pinned : (i : In) (o : List Float) → (at i.pinned i.particle ≡ 0 → ⊥) → o ≡ cleared (2 * i.n) i.out
    → left (Ok (Some (pair zero_of zero_of))) o ≡ work i
unfolding work
is_pinned i o h e = rw (ne_eqb _ _ h, e)

pub not_loaded : (i : In) → at i.pinned i.particle ≡ 0 → at i.column_of i.particle ≡ unloaded → left (Ok None) i.out ≡ work i
unfolding work
not_loaded i h u = rw (eq-eqb _ _ h, eq-eqb _ _ u)

pub is_block : (i : In) (o : List Float) (m : Block) → at i.pinned i.particle ≡ 0 → (at i.column_of i.particle ≡ unloaded → ⊥)
    → o ≡ copied i.n i.columns (at i.column_of i.particle) i.out
    → m ≡ block_for i.n i.columns (at i.column_of i.particle) i.particle → left (Ok (Some m)) o ≡ work i
unfolding work
is_block i o m h u e f = rw (eq-eqb _ _ h, ne_eqb _ _ u, e, f)
