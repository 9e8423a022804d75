-- THE COLUMNS OF A RANGE OUT OF A ROW'S CHAIN, stored one after the other.
use Rattle.std.specs.Prelude.{ℕ, ◌+◌, ◌-◌, ◌*◌, ◌≤◌, ◌<◌, ◌≡◌, refl, true, List, [], ◌∷◌, ◌++◌, length, get_or, set}
use Rattle.std.proofs.Common.{ap, sym, ◌∙◌, arith, length-append}
use Rattle.law.specs.Truth.{untrue}
use Rattle.law.proofs.Gather.{gather_none}
use Rattle.law.specs.Keep.{only_if, keep}
use Rattle.law.proofs.Keep.{keep_in, keep_skip, keep_room}
use Rattle.law.specs.Store.{written, written_one}
use Rattle.law.proofs.Store.{write_none}
use Rattle.matrix_lists.specs.Ways.{apart}
use Rattle.matrix_lists.specs.Chain.{front_of, None, Chain, chain_front, chain_link, chain_raise, chain_lower}

-- v is joined with r, and isn't r
abbrev pub Apart : ℕ → List ℕ → ℕ → ℕ → Type 0
Apart count pairs r v = apart pairs count r v ≡ true

-- what storing the columns of from..to leaves: the list of the columns behind them, the slot behind them, and the buffer
pub record Swept (n count : ℕ) (pairs links : List ℕ) (r from to slot : ℕ) (cols : List ℕ) (list' slot' : ℕ) (cols' : List ℕ) : Type 0 where
  pub behind : slot' ≡ slot + length (keep (apart pairs count r) from to)
  pub stored : cols' ≡ written cols slot (keep (apart pairs count r) from to)
  pub chain : Chain n count pairs links r (Apart count pairs r) list' to

-- the same on the way: the columns below c are stored, and c is the next
pub record Sweeping (n count : ℕ) (pairs links : List ℕ) (r from to slot : ℕ) (cols : List ℕ) (list' slot' : ℕ) (cols' : List ℕ) (c : ℕ) : Type 0 where
  pub front : c ≡ front_of n pairs list'
  pub above : from ≤ c
  pub most : c ≤ n
  pub behind : slot' ≡ slot + length (keep (apart pairs count r) from c)
  pub stored : cols' ≡ written cols slot (keep (apart pairs count r) from c)
  pub chain : Chain n count pairs links r (Apart count pairs r) list' c
  pub none : None (Apart count pairs r) to c

module _ (n count : ℕ) (pairs links : List ℕ) (r from to slot : ℕ) (cols : List ℕ) (order : from ≤ to) (most : to ≤ n) where
  -- before the first column
  pub sweep_none : (list c : ℕ) → Chain n count pairs links r (Apart count pairs r) list from → c ≡ front_of n pairs list
      → Sweeping n count pairs links r from to slot cols list slot cols c
  sweep_none list c h e =
      let q = apart pairs count r in
      let f = chain_front n count pairs links r (Apart count pairs r) list from h in
      let up = f.above (omega arith) in
      let all = keep_skip q from from (front_of n pairs list) (omega arith) up (λ x u v. untrue (q x) (f.none x u v)) in
      let none : length (keep q from (front_of n pairs list)) ≡ 0 = ap length (sym (gather_none (λ x. only_if (q x) x) from ∙ all)) in
      rw e (record {
        front = refl;
        above = up;
        most = f.most;
        behind = omega arith;
        stored = write_none (λ x. only_if (q x) x) cols slot from ∙ ap (λ (t : List ℕ). written cols slot t) all;
        chain = chain_raise n count pairs links r (Apart count pairs r) list from (front_of n pairs list) up f.most f.none h;
        none = λ x u v. f.none x (omega arith) v;
      })

  module _ (list' slot' : ℕ) (cols' : List ℕ) (c : ℕ) (s : Sweeping n count pairs links r from to slot cols list' slot' cols' c) where
    -- no column of the range is left
    pub sweep_done : to ≤ c → Swept n count pairs links r from to slot cols list' slot' cols'
    sweep_done l =
        let q = apart pairs count r in
        let e : keep q from to ≡ keep q from c = keep_skip q from to c order l (λ x u v. untrue (q x) (s.none x u v)) in
        record {
          behind = s.behind ∙ ap (λ (t : List ℕ). slot + length t) (sym e);
          stored = s.stored ∙ ap (λ (t : List ℕ). written cols slot t) (sym e);
          chain = chain_lower n count pairs links r (Apart count pairs r) list' c to l s.none s.chain;
        }

    module _ (l : c < to) where
      -- the list's first way, and the chain behind it
      link : (0 < list') × (list' ≤ 2 * count) × (Apart count pairs r c) × Chain n count pairs links r (Apart count pairs r)
          (get_or links (list' - 1) 0) (c + 1)
      link =
          let e = s.front in
          let k = chain_link n count pairs links r (Apart count pairs r) list' c s.chain (omega arith) in
          (k.0, (chain_front n count pairs links r (Apart count pairs r) list' c s.chain).low, rw (k.2 ∙ sym e) at k.1.has, rw (sym e) at k.3)

      pub sweep_link : (0 < list') × (list' ≤ 2 * count)
      sweep_link = (link.0, link.1)

      pub sweep_next : get_or links (list' - 1) 0 ≤ 2 * count
      sweep_next = (chain_front n count pairs links r (Apart count pairs r) (get_or links (list' - 1) 0) (c + 1) link.3).low

      -- there is room for it
      pub sweep_room : slot' < slot + length (keep (apart pairs count r) from to)
      sweep_room = let m = keep_room (apart pairs count r) from c to s.above l link.2 in omega (arith, s.behind)

      -- one column more
      pub sweep_more : (list'' c' : ℕ) → list'' ≡ get_or links (list' - 1) 0 → c' ≡ front_of n pairs list''
          → (c < c') × Sweeping n count pairs links r from to slot cols list'' (slot' + 1) (set cols' slot' c) c'
      sweep_more list'' c' e z =
          let q = apart pairs count r in
          let h : Chain n count pairs links r (Apart count pairs r) list'' (c + 1) = rw e link.3 in
          let f = chain_front n count pairs links r (Apart count pairs r) list'' (c + 1) h in
          let up : c + 1 ≤ front_of n pairs list'' = f.above (omega arith) in
          let one : keep q from c ++ (c ∷ []) ≡ keep q from (front_of n pairs list'') =
          keep_in q from c s.above link.2 ∙ keep_skip q from (c + 1) (front_of n pairs list'') (omega (arith, s.above)) up
          (λ x u v. untrue (q x) (f.none x u v)) in
          rw z (
            omega arith,
            record {
              front = refl;
              above = omega (arith, s.above);
              most = f.most;
              behind = rw (← one, length-append) (omega (arith, s.behind));
              stored = rw (← one, s.stored, s.behind) (written_one cols slot (keep q from c) c);
              chain = chain_raise n count pairs links r (Apart count pairs r) list'' (c + 1) (front_of n pairs list'') up f.most f.none h;
              none = λ x u v. f.none x (omega arith) v;
            },
          )
