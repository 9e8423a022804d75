-- FROM WHAT A TEXT CAME TO TO WHAT IS DRAWN.
use Rattle.std.specs.Prelude.{ℕ, ◌+◌, ◌*◌, ◌≤◌, false, List, length, take, Result, Ok, Err}
use Rattle.std.proofs.Math.Path.{◌≡◌, ap}
use Rattle.std.proofs.Common.{sym, ◌∙◌, ⊎_elim, arith, get_or-take, take_all}
use Rattle.law.specs.Number.{number}
use Rattle.law.specs.declared.refusal.Refusal.{Refusal}
use Rattle.law.specs.declared.refusal.Refusal.TheVariants.{BadText}
use Rattle.law.specs.Truth.{below_or}
use Rattle.matrix_shape.specs.Made.{length_cols}
use Rattle.matrix_shape.specs.Rows.{at}
use Rattle.matrix_pairs.specs.Pairs.{stored_by}
use Rattle.bench_text.specs.Text.{described, particle_count, pair_count, pair_numbers}
use Rattle.bench_text.proofs.Nine.{nine_of}
use Rattle.bench_text.specs.Buffer.{Buffered, ReadFrom}
use Rattle.bench_text.proofs.Buffers.{decides}
use Rattle.bench_print.specs.Lines.{refused_text}
use Rattle.bench_plan.specs.Outcome.{order_by, first_by, refusals, left, given_by, verdict_for, planned_for}
use Rattle.bench_plan.specs.Told.{Tells, told_refused, told_done}
use Rattle.bench_plan.specs.declared.inner.Draft.{Draft}
use Rattle.bench_picture.specs.Pixels.{Scene, scene, picture_of}
use Rattle.bench_picture.specs.Ready.{Ready}
use Rattle.bench_sketch.specs.Prepared.{ends, scene_ready}
use Rattle.bench_sketch.specs.Spied.{scene_by, scene_for, spied_of}

-- the part of each list that is drawn
abbrev pub parts : ℕ → List ℕ → List ℕ → List ℕ → List ℕ → Scene
parts n starts cols order first = scene n (take (n + 1) starts) (take (at starts n) cols) (take n order) (take (2 * n) first)

-- the lists hold what the program writes for the first `read` bytes of its buffer, whatever the input is of which they are all, or as much as it takes
pub record Shows (read : ℕ) (buffer : List ℕ) (n : ℕ) (starts cols order first : List ℕ) : Type 0 where
  pub whole : (input : List ℕ) → ReadFrom input read buffer → spied_of input ≡ picture_of (parts n starts cols order first)
  pub ready : Ready (parts n starts cols order first)
  pub columns : at starts n ≤ length cols

pub record Sketches (read : ℕ) (buffer : List ℕ) (r : Result ℕ Refusal) (starts cols order first : List ℕ) : Type 0 where
  pub refused : (k : Refusal) → r ≡ Err k → (input : List ℕ) → ReadFrom input read buffer → spied_of input ≡ refused_text (number k)
  pub done : (n : ℕ) → r ≡ Ok n → Shows read buffer n starts cols order first

-- 9 for whatever is not as described
nine : (s : List ℕ) → described s ≡ false → spied_of s ≡ refused_text (number BadText)
unfolding spied_of verdict_for
nine s h = rw (nine_of s (refusals (given_by s)) h)

module _ (read : ℕ) (buffer : List ℕ) (b : Buffered read buffer) (starts cols order first : List ℕ) where
  abbrev text : List ℕ
  text = take read buffer

  -- the bytes that were read have the input's output
  own : (input : List ℕ) → ReadFrom input read buffer → spied_of input ≡ spied_of text
  own input from = sym (decides read buffer b spied_of (refused_text (number BadText)) nine input from)

  pub sketched_none : (k : Refusal) → left (Err k) starts cols order first ≡ planned_for text → Sketches read buffer (Err k) starts cols order first
  unfolding spied_of
  sketched_none k is =
      record {
        refused = λ j q input from. let same : k ≡ j = cc in own input from
            ∙ told_refused text starts cols order first _ (λ x. refused_text (number x)) k is ∙ ap (λ (x : Refusal). refused_text (number x)) same;
        done = λ n q. absurd (let z = q in cc);
      }

  module _ (d : Draft) (is : left (Ok d) starts cols order first ≡ planned_for text) where
    abbrev n : ℕ
    n = d.n

    told : Tells text n d.envelope starts cols order first
    told = told_done text starts cols order first d is

    scenes : scene_for text ≡ parts n starts cols order first
    unfolding scene_for scene_by order_by first_by
    scenes = let t = told in rw (t.starts_are, t.cols_are, t.order_is, t.first_are, t.same)

    -- the last start says how long the part of the columns is
    last : at starts n ≡ length (take (at starts n) cols)
    last =
        let t = told in
        let few = rw t.same at t.few in
        sym (get_or-take (n + 1) starts n 0 (omega arith)) ∙ ap (λ (l : List ℕ). at l n) t.starts_are
        ∙ rw (t.cols_are, t.same)
        (ends (particle_count text) (pair_count text) (pair_numbers text) few
        ∙ sym (length_cols (particle_count text) (stored_by (pair_numbers text) (pair_count text))))

    -- so none is cut off
    columns : at starts n ≤ length cols
    columns =
        ⊎_elim (λ h. absurd (omega (arith, last, ap length (take_all (at starts n) cols (omega arith))))) (λ h. h)
        (below_or (length cols) (at starts n))

    shown : Shows read buffer n starts cols order first
    unfolding spied_of scene_for
    shown =
        let t = told in
        record {
          whole = λ input from. own input from ∙ rw t.none (ap picture_of scenes);
          ready = rw scenes at (scene_ready (particle_count text) (pair_count text) (pair_numbers text) (rw t.same at t.few));
          columns = columns;
        }

    pub sketched : Sketches read buffer (Ok n) starts cols order first
    sketched =
        record {
          refused = λ k q. absurd (let z = q in cc);
          done = λ m q. let same : n ≡ m = cc in rw same at shown;
        }
