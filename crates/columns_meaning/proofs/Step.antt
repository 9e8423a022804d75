-- What a step solve leaves, by its two routes: x's front is worked out of b's first n vectors, whatever the lists that it writes held. Assumes nothing.
use Prim.Native.Nat.{ℕ, zero, suc, ◌+◌, ◌*◌, ◌<◌}
use native.Mathlib.Omega.{arith}
use mathlib.Core.Path.{◌≡◌, refl, ap, ◌∙◌}
use mathlib.Core.Bool.{Bool, true, false, cond, ◌&&◌}
use mathlib.Core.List.{List, ◌++◌}
use lib.ListN.{length, drop}
use lib.Seq.{take_at, drop_at}
use lib.Ieee.{Float, lt, le, eq, ne}
use Rattle.law.proofs.Loop.{over_same}
use Rattle.law.specs.Truth.{both}
use Rattle.law.specs.Gather.{gather}
use Rattle.law.proofs.Gather.{gather_same}
use Rattle.law.proofs.Mix.{length_parts}
use Rattle.plane.specs.Plane.{Vector, zero32, one32, zero_of, ◌⊕◌, ◌⊗◌, ◌⊘◌, dot_of, sub_of}
use Rattle.plane.specs.Lent.{vector_at}
use Rattle.vectors.specs.Whole.{dot_step, dot_all, lack_at}
use Rattle.vectors.specs.Multiples.{advanced_at, scaled_at}
use Rattle.matrix_shape.specs.Rows.{at}
use Rattle.factor_substitution.specs.Solve.{permuted, placed_of, solve_of}
use Rattle.factor_doors.specs.Solving as D
use Rattle.gradient_definition.specs.declared.Turned.{Turned}
use Rattle.gradient_definition.specs.declared.Turned.TheVariants.{Bent, Done, Onward}
use Rattle.gradient_definition.specs.declared.Outcome.{Outcome}
use Rattle.gradient_definition.specs.declared.Outcome.TheVariants.{Zero, Near, Converged, Curvature, Limit}
use Rattle.gradient_definition.specs.Vectors.{Map, product, preconditioned, advanced, retreated, lacking, scaled, zeros}
use Rattle.gradient_definition.specs.Solve.{
  State,
  After,
  Ended,
  ended,
  state,
  turn,
  onward,
  run,
  clamp_of,
  rescaled,
  finish_by,
  finished,
  fresh_of,
  launched,
  started,
  solved,
}
use Rattle.gradient_doors.specs.Solving as G
use Rattle.step_routes.specs.Dense.{cleared, swept}
use Rattle.std.specs.Prelude.{Ok}
use Rattle.step_solve.specs.declared.Stepped.{Stepped}
use Rattle.step_solve.specs.declared.Stepped.TheVariants.{Direct, Iterated}
use Rattle.step_solve.specs.Stepping as S

-- ---- vectors that are the same as far as n particles go

abbrev pub Same : ℕ → List Float → List Float → Type 0
Same n b c = (q : ℕ) → q < n → vector_at b q ≡ vector_at c q

module _ (n : ℕ) (b c : List Float) (same : Same n b c) where
  dot_same : (u v : List Float) → Same n u v → dot_all n b u ≡ dot_all n c v
  unfolding dot_all
  dot_same u v g = over_same (dot_step b u) (dot_step c v) 0 n zero32 (λ q t _ l.
      ap (λ (w : Vector). t ⊕ dot_of w (vector_at u q)) (same q l) ∙ ap (λ (w : Vector). t ⊕ dot_of (vector_at c q) w) (g q l))

  lack_same : (r : List Float) → lacking n b r ≡ lacking n c r
  unfolding lacking
  lack_same r = gather_same (lack_at b r) (lack_at c r) 0 n (omega arith) (λ q _ l. ap (λ (w : Vector). sub_of w (vector_at r q)) (same q l))

  module _ (A P : Map) where
    rescale_same : (x : List Float) → rescaled n A b x ≡ rescaled n A c x
    unfolding rescaled
    rescale_same x = rw (dot_same x x (λ q l. refl))

    finish_same : (e : Ended) → finished n A b e ≡ finished n A c e
    unfolding finished
    finish_same e = rw (rescale_same e.x)

    launch_same : (threshold : Float) (limit : ℕ) (norm : Float) (x r : List Float) → launched n A P b threshold limit norm x r ≡ launched n A P c
        threshold limit norm x r
    unfolding launched
    launch_same threshold limit norm x r = finish_same _

    start_same : (threshold : Float) (limit : ℕ) (x : List Float) → started n A P b threshold limit x ≡ started n A P c threshold limit x
    unfolding started fresh_of
    start_same threshold limit x = rw (lack_same (A x), launch_same threshold limit _ x (lacking n c (A x)))

    solved_same : (tolerance : Float) (limit : ℕ) (x : List Float) → solved n A P b tolerance limit x ≡ solved n A P c tolerance limit x
    unfolding solved
    solved_same tolerance limit x = rw (dot_same b c same, start_same (tolerance ⊗ tolerance ⊗ dot_all n c c) limit x)

  permuted_same : (o : ℕ → ℕ) → ((q : ℕ) → q < n → o q < n) → permuted n o b ≡ permuted n o c
  unfolding permuted
  permuted_same o inside = gather_same _ _ 0 n (omega arith) (λ q _ l. same (o q) (inside q l))

  -- by the factor: order names only the n particles
  direct_same : (o p f s : ℕ → ℕ) (v : List Float) → ((q : ℕ) → q < n → o q < n) → solve_of n o p f s v b ≡ solve_of n o p f s v c
  unfolding solve_of placed_of
  direct_same o p f s v inside = rw (permuted_same o inside)

-- ---- a solve's x is 2 * n long where its start is

abbrev Long : ℕ → List Float → Type 0
Long n l = length l ≡ 2 * n

parts_long : (n : ℕ) (f : ℕ → Vector) → ((j : ℕ) → length (f j) ≡ 2) → Long n (gather f 0 n)
parts_long n f long = length_parts 2 f long n

pub zeros_long : (n : ℕ) → Long n (zeros n)
unfolding zeros
zeros_long n = parts_long n (λ _. zero_of) (λ j. refl)

module _ (n : ℕ) (A P : Map) where
  advanced_long : (alpha : Float) (d x : List Float) → Long n (advanced n alpha d x)
  unfolding advanced
  advanced_long alpha d x = parts_long n (advanced_at alpha d x) (λ j. refl)

  turn_long : (threshold : Float) (s : State) → Long n s.x → Long n (turn n A P threshold s).x
  unfolding turn
  turn_long threshold s l = pick (lt zero32 den) (le (dot_all n r r) threshold) refl refl
    where
      den : Float
      den = dot_all n s.direction (A s.direction)

      r : List Float
      r = retreated n (s.rz ⊘ den) (A s.direction) s.residual

      pick : (t u : Bool) → lt zero32 den ≡ t → le (dot_all n r r) threshold ≡ u → Long n (turn n A P threshold s).x
      pick true true e f = rw (e, f) (advanced_long _ _ _)
      pick true false e f = rw (e, f) (advanced_long _ _ _)
      pick false u e f = rw e l

  onward_long : (h : Turned) (count : ℕ) (norm : Float) (a : After) (more : Float → State → Ended) → Long n a.x
      → ((next : Float) (t : State) → Long n t.x → Long n (more next t).x) → Long n (onward h count norm a more).x
  onward_long (Bent den) count norm a more l g = l
  onward_long (Done last) count norm a more l g = l
  onward_long (Onward next rz) count norm a more l g = g next (state a.x a.residual a.direction rz) l

  run_long : (threshold : Float) (left count : ℕ) (norm : Float) (s : State) → Long n s.x → Long n (run n A P threshold left count norm s).x
  unfolding run
  run_long threshold zero count norm s l = l
  run_long threshold (suc left) count norm s l =
      let a = turn n A P threshold s in
      onward_long a.how count norm a (λ next t. run n A P threshold left (count + 1) next t) (turn_long threshold s l)
      (λ next t g. run_long threshold left (count + 1) next t g)

  scaled_long : (alpha : Float) (x : List Float) → Long n (scaled n alpha x)
  unfolding scaled
  scaled_long alpha x = parts_long n (scaled_at alpha x) (λ j. refl)

  rescaled_long : (b x : List Float) → Long n x → Long n (rescaled n A b x)
  unfolding rescaled
  rescaled_long b x l = pick (le (dot_all n x (A x)) zero32) (ne (clamp_of (dot_all n b x ⊘ dot_all n x (A x))) one32) refl refl
    where
      pick : (t u : Bool) → le (dot_all n x (A x)) zero32 ≡ t → ne (clamp_of (dot_all n b x ⊘ dot_all n x (A x))) one32 ≡ u → Long n (rescaled n A b x)
      pick true u e f = rw e (zeros_long n)
      pick false true e f = rw (e, f) (scaled_long _ x)
      pick false false e f = rw (e, f) l

  finish_long : (o : Outcome) (short x : List Float) → Long n short → Long n x → Long n (finish_by o short x).x
  finish_long (Zero count) short x h l = l
  finish_long (Near count residual) short x h l = l
  finish_long (Converged count residual) short x h l = l
  finish_long (Curvature count residual denominator) short x h l = h
  finish_long (Limit count residual) short x h l = h

  launch_long : (b : List Float) (threshold : Float) (limit : ℕ) (norm : Float) (x r : List Float) → Long n x
      → Long n (launched n A P b threshold limit norm x r).x
  unfolding launched finished
  launch_long b threshold limit norm x r l =
      let s = state x r (P r) (dot_all n r (P r)) in
      let e = run n A P threshold limit 0 norm s in
      let long = run_long threshold limit 0 norm s l in
      finish_long e.how (rescaled n A b e.x) e.x (rescaled_long b e.x long) long

  solved_long : (b : List Float) (tolerance : Float) (limit : ℕ) (x : List Float) → Long n x → Long n (solved n A P b tolerance limit x).x
  unfolding solved started
  solved_long b tolerance limit x l = pick (eq (dot_all n b b) zero32) refl
    where
      go : (threshold : Float) (r : List Float) (t : Bool) → le (dot_all n r r) threshold ≡ t
          → Long n (cond (le (dot_all n r r) threshold) (ended (Near 0 (dot_all n r r)) x) (launched n A P b threshold limit (dot_all n r r) x r)).x
      go threshold r true e = rw e l
      go threshold r false e = rw e (launch_long b threshold limit (dot_all n r r) x r l)

      pick : (t : Bool) → eq (dot_all n b b) zero32 ≡ t → Long n (solved n A P b tolerance limit x).x
      pick true e = rw e (zeros_long n)
      pick false e = rw e (go (tolerance ⊗ tolerance ⊗ dot_all n b b) (fresh_of n A b x) _ refl)

direct_long : (n : ℕ) (o p f s : ℕ → ℕ) (v b : List Float) → Long n (solve_of n o p f s v b)
unfolding solve_of permuted
direct_long n o p f s v b = parts_long n _ (λ j. refl)

-- ---- the step solve

module _ (s : S.In) where
  -- whether it goes by the factor
  abbrev pub by_factor : Bool
  by_factor = S.dense s && s.factored

  -- for a right-hand side: what it iterates to from zeros, how it ends, and x's front
  abbrev pub iterate : List Float → Ended
  iterate b = solved s.n (product s.n s.row_offsets s.cols s.blocks) (preconditioned s.n s.preconditioner) b s.tolerance
      s.max_iterations (zeros s.n)

  abbrev pub how_of : List Float → Stepped
  how_of b = cond by_factor Direct (Iterated (iterate b).how)

  abbrev pub front_of : List Float → List Float
  front_of b = cond by_factor (solve_of s.n (at s.perm) (at s.inv_perm) (at s.first) (at s.row_start) s.values b) (iterate b).x

  pub front_long : (b : List Float) → length (front_of b) ≡ 2 * s.n
  front_long b = pick by_factor refl
    where
      pick : (t : Bool) → by_factor ≡ t → length (front_of b) ≡ 2 * s.n
      pick true e = rw e (direct_long s.n _ _ _ _ s.values b)
      pick false e = rw e (solved_long s.n _ _ b s.tolerance s.max_iterations (zeros s.n) (zeros_long s.n))

  -- the order names only the n particles, where the plan counts
  abbrev Inside : Type 0
  Inside = S.dense s ≡ true → (q : ℕ) → q < s.n → at s.perm q < s.n

  module _ (b c : List Float) (same : Same s.n b c) where
    iterate_same : iterate b ≡ iterate c
    iterate_same = solved_same s.n b c same _ _ s.tolerance s.max_iterations (zeros s.n)

    pub how_same : how_of b ≡ how_of c
    how_same = rw iterate_same

    pub front_same : Inside → front_of b ≡ front_of c
    front_same inside = pick by_factor refl
      where
        pick : (t : Bool) → by_factor ≡ t → front_of b ≡ front_of c
        pick true e = rw e (direct_same s.n b c same _ _ _ _ s.values (inside (both (S.dense s) s.factored e).0))
        pick false e = rw (e, iterate_same)

  -- all that it answers and leaves
  pub work_is : S.work s
      ≡ S.left (Ok (how_of s.b)) (front_of s.b ++ drop (2 * s.n) s.x) (swept (S.dense s) s.n s.scratch) (cleared s.n s.residual)
      (cleared s.n s.direction) (cleared s.n s.a_direction) (cleared s.n s.z)
  unfolding S.work S.directly S.iteratively D.work G.work G.solve_for swept zeros
  work_is = pick by_factor refl
    where
      pick : (t : Bool) → by_factor ≡ t → S.work s
          ≡ S.left (Ok (how_of s.b)) (front_of s.b ++ drop (2 * s.n) s.x) (swept (S.dense s) s.n s.scratch) (cleared s.n s.residual)
          (cleared s.n s.direction) (cleared s.n s.a_direction) (cleared s.n s.z)
      pick true e = rw (e, (both (S.dense s) s.factored e).0)
      pick false e =
          let rest = drop (2 * s.n) s.x in
          rw (e, take_at _ rest (2 * s.n) (zeros_long s.n), drop_at _ rest (2 * s.n) (zeros_long s.n))
