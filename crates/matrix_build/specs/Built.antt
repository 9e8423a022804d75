-- THE BUFFERS AFTER BUILDING are those of `built_of`: the rows stand over zeros.
use Rattle.std.specs.Prelude.{ℕ, ◌-◌, ◌≡◌, length, drop, replicate}
use Rattle.std.proofs.Math.Path.{ap}
use Rattle.std.proofs.Common.{◌∙◌, arith}
use mathlib.Core.List.{List, ◌++◌}
use Rattle.std.proofs.lemmas.List.{length-replicate}
use Rattle.law.specs.Store.{written, written_front, drop_replicate}
use Rattle.matrix_shape.specs.Made.{start_of, cols_of, length_cols}
use Rattle.matrix_pairs.specs.Pairs.{stored_by, start_bound}
use Rattle.matrix_lists.specs.Ways.{Given}
use Rattle.matrix_lists.specs.Turned.{AllTurned}
use Rattle.matrix_build.specs.Build.{room_of, Ready, made, built_of}
use Rattle.matrix_build.specs.Filled.{Unfilled, AllFilled}

module _ (n count : ℕ) (pairs starts cols diagonal work : List ℕ) (g : Ready n count pairs starts cols diagonal work) where
  pub given : Given n count pairs
  given = record { few = g.few; few_pairs = g.few_pairs; pairs_long = g.pairs_long; pairs_ok = g.pairs_ok }

  -- s, c, d, w are the buffers once the rows are listed, and the columns zero
  pub unfilled : (s c d w : List ℕ) → length s ≡ length starts → length c ≡ length cols → length d ≡ length diagonal → length w ≡ length work
      → AllTurned n count pairs d w → Unfilled n count pairs w s c d
  unfilled s c d w es ec ed ew l =
      let bound = start_bound pairs n count n in
      record {
        links_long = omega (arith, g.work_long);
        starts_long = es ∙ g.starts_long;
        cols_long = omega (arith, g.cols_long);
        slots_small = omega (arith, g.few, g.few_pairs);
        diagonal_long = ed ∙ g.diagonal_long;
        listed = l;
      }

  over_zeros : written (replicate (length cols) 0) 0 (cols_of n (stored_by pairs count)) ≡ cols_of n (stored_by pairs count) ++ replicate
      (room_of n count - start_of n (stored_by pairs count) n) 0
  over_zeros =
      let p = stored_by pairs count in
      let len = length_cols n p in
      let bound = start_bound pairs n count n in
      let m = length cols in
      let room = g.cols_long in
      let long = length-replicate {A = ℕ} m 0 in
      written_front (replicate m 0) (cols_of n p) (omega arith)
      ∙ ap (λ (x : ℕ). cols_of n p ++ drop x (replicate m 0)) len
      ∙ ap (λ (t : List ℕ). cols_of n p ++ t) (drop_replicate (start_of n p n) m 0 (omega arith))
      ∙ ap (λ (x : ℕ). cols_of n p ++ replicate (x - start_of n p n) 0) room

  pub built : (c : List ℕ) (k : ℕ) (s' c' d' w' : List ℕ) → c ≡ replicate (length cols) 0 → AllFilled n (stored_by pairs count) c k s' c' d'
      → w' ≡ replicate (length work) 0
      → made k s' c' d' w' ≡ built_of n count pairs
  unfolding built_of
  built c k s' c' d' w' ec f ew = rw (
    f.behind,
    f.begins,
    f.stored ∙ ap (λ (t : List ℕ). written t 0 (cols_of n (stored_by pairs count))) ec
        ∙ over_zeros,
    f.marked,
    ew,
    g.work_long,
  )
