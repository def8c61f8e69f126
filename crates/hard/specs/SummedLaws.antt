-- The summary of a transform is right: from its two tables alone it names the most hits of any of its origins, and the most of any origin but the best one.
use Rattle.std.specs.Prelude.{◌≡◌, Bool, true, cond, List, ◌⊎◌, ℕ, zero, suc, ◌+◌, ◌*◌, ◌≤◌, ◌<◌, T, ltb, eqb, length, Float}
use Rattle.std.proofs.Math.Path.{refl}
use Rattle.std.proofs.Common.{sym, ap, ap₂, ◌∙◌, inl, inr, mul-le-mul, mul-le-mul_left, mul-le-mul_right, arith}
use Rattle.std.proofs.Math.Bool.{false}
use Rattle.std.proofs.Math.Logic.{⊎_elim}
use borrow.Author.Tests.{ltb-true, ltb-false, eq-eqb, eqb-true, lt-ltb}
use Rattle.laws.specs.Tests.{compared, decided, clash}
use Rattle.laws.specs.Words.{put, fold, count, Grid, origins}
use Rattle.laws.specs.Counting.{count-pos, count-one, other-passes}
use Rattle.laws.specs.GridLaws.{Laws}
use Rattle.laws.specs.Weights.{weightlike}
use Rattle.best.specs.CellTables.{CellTables, Period, TablesOk, c_at, w_at}
use Rattle.best.specs.Lex.{tied_count, optimal, lex_best, lex_of}
use Rattle.best.specs.declared.lex.LexMax.{LexMax}
use Rattle.best.specs.LexLaws.{cell_in, largest, best-optimal, optimal-count, second-inside, second-other, second-most}
use Rattle.grid.specs.BoardGrid.{grid}
use Rattle.grid.specs.RowMajorLaws.{major-le, major-is}
use Rattle.direct.specs.Direct.{pair_hits}
use Rattle.folding.specs.Transform.{best_origin, best_hits, pairs_tied, runner_up_within, separation_product_cap}
use Rattle.folding.specs.TransformLaws.{h-table, v-table}
use Rattle.folding.specs.declared.transform.Ranked.{Ranked}

-- what a summary says of the origins with the hits `hit`: the best hits, at the key `first`, and the runner-up's hits, which another origin has; where no two
-- pairs of cells have the largest counts, the runner-up is named by its own key
pub record Summed (none : ℕ) (hit : ℕ → ℕ) (best first : ℕ) (within : Ranked) (tie : Bool) : Type 0 where
  pub inside : first < none
  pub at : hit first ≡ best
  pub most : (k : ℕ) → hit k ≤ best
  pub others : (k : ℕ) → k < none → (k ≡ first → ⊥) → hit k ≤ within.hits
  pub had : (k : ℕ) × (k < none) × (k ≡ first → ⊥) × (hit k ≡ within.hits)
  pub key_in : within.key < none
  pub named : tie ≡ false → (within.key < none) × (within.key ≡ first → ⊥) × (hit within.key ≡ within.hits)
  pub tied : tie ≡ true → within.hits ≡ best

-- what a table of n cells with the counts f says: its best cell, of largest count, how many cells have that, and the best of the other cells
pub record Said (n : ℕ) (f : ℕ → ℕ) (a : LexMax) : Type 0 where
  pub cell_in : a.cell < n
  pub cell_has : f a.cell ≡ a.count
  pub most : (j : ℕ) → j < n → f j ≤ a.count
  pub number : a.tied ≡ count n (λ i. eqb (f i) a.count)
  pub second-in : a.second < n
  pub second-not : a.second ≡ a.cell → ⊥
  pub second_has : f a.second ≡ a.under
  pub second-most : (j : ℕ) → j < n → (j ≡ a.cell → ⊥) → f j ≤ a.under

-- `first` is the key of two of the cells of largest count
abbrev pub BestPair : Grid → ℕ → ℕ → (ℕ → ℕ) → (ℕ → ℕ) → LexMax → LexMax → ℕ → Type 0
BestPair G hn vn f g a b first = (h : ℕ) × (v : ℕ) × (h < hn) × (v < vn) × (f h ≡ a.count) × (g v ≡ b.count) × (first ≡ G.key h v)

-- ---- products of numbers of cells
ones : (x y : ℕ) → 0 < x → 0 < y → x * y ≤ 1 → (x ≡ 1) × (y ≡ 1)
ones x y p q l =
    let s : x * 1 ≤ x * y = mul-le-mul_left x q in
    let t : 1 * y ≤ x * y = mul-le-mul_right y p in
    (omega arith, omega arith)

more-than-one : (x y : ℕ) → 1 < x * y → (1 < x) ⊎ (1 < y)
more-than-one x y l = ⊎_elim (λ p. inl p) (λ p. inr (omega (arith, mul-le-mul_right y p))) (compared 1 x)

-- what passes one test and so another is no more
count-implies : (f g : ℕ → Bool) (n : ℕ) → ((i : ℕ) → i < n → f i ≡ true → g i ≡ true) → count n f ≤ count n g
unfolding fold
count-implies f g zero h = omega arith
count-implies f g (suc n) h = go (f n) (g n) refl refl (count-implies f g n (λ i l. h i (omega arith)))
  where
    go : (s t : Bool) → f n ≡ s → g n ≡ t → count n f ≤ count n g → put ◌+◌ s (count n f) 1 ≤ put ◌+◌ t (count n g) 1
    go true true e d l = omega arith
    go true false e d l = clash (h n (omega arith) e) d
    go false true e d l = omega arith
    go false false e d l = l

-- ---- one table
module _ (n : ℕ) (f : ℕ → ℕ) (a : LexMax) (S : Said n f a) where
  abbrev is_top : ℕ → Bool
  is_top i = eqb (f i) a.count

  best-top : is_top a.cell ≡ true
  best-top = eq-eqb (f a.cell) a.count S.cell_has

  some-tied : 0 < a.tied
  some-tied = omega (arith, S.number, count-pos is_top n a.cell S.cell_in best-top)

  -- where one cell has the largest count, it is the best cell
  only-tied : a.tied ≡ 1 → (i : ℕ) → i < n → f i ≡ a.count → i ≡ a.cell
  only-tied one i l e = count-one is_top n i a.cell (sym S.number ∙ one) l S.cell_in (eq-eqb (f i) a.count e) best-top

  -- where more than one has it, one that is not h has
  other-tied : 1 < a.tied → (h : ℕ) → (i : ℕ) × (i < n) × (f i ≡ a.count) × (i ≡ h → ⊥)
  other-tied m h = let u = other-passes is_top n h (omega (arith, S.number, m)) in (u.0, u.1, eqb-true (f u.0) a.count u.2, u.3)

-- ---- both tables, of hn horizontal and vn vertical cells with the counts f and g
module _ (L M hn vn : ℕ) (E : Laws (origins L M) hn vn) (f g : ℕ → ℕ) (a b : LexMax) (A : Said hn f a) (B : Said vn g b) (first : ℕ) (pair : BestPair (origins L M) hn vn f g a b first) where
  abbrev G : Grid
  G = origins L M

  abbrev hit : ℕ → ℕ
  hit k = f (G.h_of k) + g (G.v_of k)

  abbrev top : ℕ
  top = best_hits a b

  under : first < G.none
  under = omega (arith, pair.6, E.under pair.0 pair.1 pair.2 pair.3)

  hit-pair : (h v : ℕ) → h < hn → v < vn → hit (G.key h v) ≡ f h + g v
  hit-pair h v i j = ap₂ (λ (x y : ℕ). f x + g y) (E.h_key h v i j) (E.v_key h v i j)

  at_first : hit first ≡ top
  at_first = ap hit pair.6 ∙ hit-pair pair.0 pair.1 pair.2 pair.3 ∙ ap₂ ◌+◌ pair.4 pair.5

  at_most : (k : ℕ) → hit k ≤ top
  at_most k = omega (arith, A.most (G.h_of k) (E.h-in k), B.most (G.v_of k) (E.v-in k))

  -- two pairs of cells are two origins
  apart : (h v h' v' : ℕ) → h < hn → v < vn → h' < hn → v' < vn → G.key h v ≡ G.key h' v' → (h ≡ h') × (v ≡ v')
  apart h v h' v' i j i' j' e = (sym (E.h_key h v i j) ∙ ap G.h_of e ∙ E.h_key h' v' i' j', sym (E.v_key h v i j) ∙ ap G.v_of e ∙ E.v_key h' v' i' j')

  -- more than one pair of cells with the largest counts: another origin has the best hits
  tied-other : 1 < a.tied * b.tied → (k : ℕ) × (k < G.none) × (k ≡ first → ⊥) × (hit k ≡ top)
  tied-other l = ⊎_elim by-h by-v (more-than-one a.tied b.tied l)
    where
      by-h : 1 < a.tied → (k : ℕ) × (k < G.none) × (k ≡ first → ⊥) × (hit k ≡ top)
      by-h m =
          let w = pair in
          let u = other-tied hn f a A m w.0 in
          (G.key u.0 w.1, E.under u.0 w.1 u.1 w.3, (λ e. u.3 (apart u.0 w.1 w.0 w.1 u.1 w.3 w.2 w.3 (e ∙ w.6)).0), hit-pair u.0 w.1 u.1 w.3 ∙ ap₂ ◌+◌ u.2 w.5)

      by-v : 1 < b.tied → (k : ℕ) × (k < G.none) × (k ≡ first → ⊥) × (hit k ≡ top)
      by-v m =
          let w = pair in
          let u = other-tied vn g b B m w.1 in
          (G.key w.0 u.0, E.under w.0 u.0 w.2 u.1, (λ e. u.3 (apart w.0 u.0 w.0 w.1 w.2 u.1 w.2 w.3 (e ∙ w.6)).1), hit-pair w.0 u.0 w.2 u.1 ∙ ap₂ ◌+◌ w.4 u.2)

  -- ---- one pair alone
  abbrev across : ℕ
  across = a.under + b.count

  abbrev down : ℕ
  down = a.count + b.under

  module _ (one-h : a.tied ≡ 1) (one-v : b.tied ≡ 1) where
    single-pair : first ≡ G.key a.cell b.cell
    single-pair = pair.6 ∙ ap₂ G.key (only-tied hn f a A one-h pair.0 pair.2 pair.4) (only-tied vn g b B one-v pair.1 pair.3 pair.5)

    -- another origin has at most one of the two next sums
    rest : (k : ℕ) → k < G.none → (k ≡ first → ⊥) → (hit k ≤ across) ⊎ (hit k ≤ down)
    rest k l ne = go (decided (G.h_of k) a.cell)
      where
        other : G.h_of k ≡ a.cell → G.v_of k ≡ b.cell → ⊥
        other h v = ne (sym (E.back k l) ∙ ap₂ G.key h v ∙ sym single-pair)

        go : (G.h_of k ≡ a.cell) ⊎ (G.h_of k ≡ a.cell → ⊥) → (hit k ≤ across) ⊎ (hit k ≤ down)
        go (inl e) = inr (omega (arith, A.most (G.h_of k) (E.h-in k), B.second-most (G.v_of k) (E.v-in k) (other e)))
        go (inr n) = inl (omega (arith, A.second-most (G.h_of k) (E.h-in k) n, B.most (G.v_of k) (E.v-in k)))

    -- both are had by another origin
    across-had : (G.key a.second b.cell < G.none) × (G.key a.second b.cell ≡ first → ⊥) × (hit (G.key a.second b.cell) ≡ across)
    across-had = (
      E.under a.second b.cell A.second-in B.cell_in,
      (λ e. A.second-not (apart a.second b.cell a.cell b.cell A.second-in B.cell_in A.cell_in B.cell_in (e ∙ single-pair)).0),
      hit-pair a.second b.cell A.second-in B.cell_in ∙ ap₂ ◌+◌ A.second_has B.cell_has,
    )

    down-had : (G.key a.cell b.second < G.none) × (G.key a.cell b.second ≡ first → ⊥) × (hit (G.key a.cell b.second) ≡ down)
    down-had = (
      E.under a.cell b.second A.cell_in B.second-in,
      (λ e. B.second-not (apart a.cell b.second a.cell b.cell A.cell_in B.second-in A.cell_in B.cell_in (e ∙ single-pair)).1),
      hit-pair a.cell b.second A.cell_in B.second-in ∙ ap₂ ◌+◌ A.cell_has B.second_has,
    )

  alone : pairs_tied a b ≡ false → (a.tied ≡ 1) × (b.tied ≡ 1)
  alone e = ones a.tied b.tied (some-tied hn f a A) (some-tied vn g b B) (ltb-false 1 (a.tied * b.tied) e)

  -- what document 01's rule says of two tables is right
  pub summed_by : Summed G.none hit (best_hits a b) first (runner_up_within L M a b first) (pairs_tied a b)
  unfolding runner_up_within
  summed_by = go (pairs_tied a b) (ltb across down) refl refl
    where
      with-within : (r : Ranked) (t : Bool) → t ≡ false → ((k : ℕ) → k < G.none → (k ≡ first → ⊥) → hit k ≤ r.hits)
          → (r.key < G.none) × (r.key ≡ first → ⊥) × (hit r.key ≡ r.hits) → Summed G.none hit top first r t
      with-within r t e most h = record {
        inside = under;
        at = at_first;
        most = at_most;
        others = most;
        had = (r.key, h.0, h.1, h.2);
        key_in = h.0;
        named = λ d. h;
        tied = λ d. clash d e;
      }

      go : (t c : Bool) → pairs_tied a b ≡ t → ltb across down ≡ c
          → Summed G.none hit top first (cond t (record { hits = top; key = first }) (cond c (record { hits = down; key = G.key a.cell b.second }) (record { hits = across; key = G.key a.second b.cell }))) t
      go true c e d = record {
        inside = under;
        at = at_first;
        most = at_most;
        others = λ k l ne. at_most k;
        had = tied-other (ltb-true 1 (a.tied * b.tied) e);
        key_in = under;
        named = λ z. clash refl z;
        tied = λ z. refl;
      }
      go false true e d =
          let o = alone e in
          with-within (record { hits = down; key = G.key a.cell b.second }) false refl
          (λ k l ne. ⊎_elim (λ z. omega (arith, ltb-true across down d)) (λ z. z) (rest o.0 o.1 k l ne)) (down-had o.0 o.1)
      go false false e d =
          let o = alone e in
          with-within (record { hits = across; key = G.key a.second b.cell }) false refl
          (λ k l ne. ⊎_elim (λ z. z) (λ z. omega (arith, ltb-false across down d)) (rest o.0 o.1 k l ne)) (across-had o.0 o.1)

-- ---- tables of counts and weights
module _ (cs : List ℕ) (ws : List Float) (two : 1 < length cs) (ok : (i : ℕ) → i < length cs → T (weightlike (w_at ws i))) where
  abbrev best : ℕ
  best = lex_best cs ws

  -- what such a table says, by counts
  said : Said (length cs) (c_at cs) (lex_of cs ws)
  unfolding lex_of
  said = record {
    cell_in = cell_in cs ws two;
    cell_has = refl;
    most = λ j l. (largest cs ws two ok j l).0;
    number = refl;
    second-in = second-inside cs best two;
    second-not = second-other cs best two;
    second_has = refl;
    second-most = second-most cs best two;
  }

  -- at most as many cells are optimal as have the largest count
  optimal-fewer : (lex_of cs ws).optimal ≤ (lex_of cs ws).tied
  unfolding lex_of
  optimal-fewer = count-implies (optimal cs ws (c_at cs best) (w_at ws best)) (tied_count cs (c_at cs best)) (length cs) (λ i l e. eq-eqb (c_at cs i) (c_at cs best) (optimal-count cs ws (c_at cs best) (w_at ws best) i e))

module _ (L M : ℕ) (p : Period L) (q : Period M) (edges : ℕ) (X : CellTables) (ok : TablesOk L M edges X) where
  abbrev hc : List ℕ
  hc = X.hc

  abbrev vc : List ℕ
  vc = X.vc

  abbrev ha : LexMax
  ha = lex_of X.hc X.hw

  abbrev va : LexMax
  va = lex_of X.vc X.vw

  htwo : 1 < length hc
  htwo = (h-table L M p q edges X ok).two

  vtwo : 1 < length vc
  vtwo = (v-table L M p q edges X ok).two

  hok : (i : ℕ) → i < length hc → T (weightlike (w_at X.hw i))
  hok i l = ok.hweights i (omega (arith, ok.hcs))

  vok : (i : ℕ) → i < length vc → T (weightlike (w_at X.vw i))
  vok i l = ok.vweights i (omega (arith, ok.vcs))

  grid-of : Laws (origins L M) (length hc) (length vc)
  grid-of = rw (ok.hcs, ok.vcs) (grid L M p q)

  -- the pair that the best origin is
  best-pair : BestPair (origins L M) (length hc) (length vc) (c_at hc) (c_at vc) ha va (best_origin (origins L M) X)
  unfolding best_origin lex_of
  best-pair =
      let a = lex_best hc X.hw in
      let b = lex_best vc X.vw in
      let f = optimal hc X.hw (c_at hc a) (w_at X.hw a) in
      let g = optimal vc X.vw (c_at vc b) (w_at X.vw b) in
      let i = cell_in hc X.hw htwo in
      let j = cell_in vc X.vw vtwo in
      let low = major-le (origins L M) (length vc) f g (length hc) a b i j (best-optimal hc X.hw htwo hok) (best-optimal vc X.vw vtwo vok) in
      ⊎_elim (λ e. absurd (omega (arith, e, low, grid-of.under a b i j)))
      (λ w. (w.0, w.1, w.2, w.3, optimal-count hc X.hw (c_at hc a) (w_at X.hw a) w.0 w.4, optimal-count vc X.vw (c_at vc b) (w_at X.vw b) w.1 w.5, w.6))
      (major-is (origins L M) (length vc) f g (length hc))

  -- the summary of this transform
  pub summed : Summed (origins L M).none (pair_hits (origins L M) X) (best_hits ha va) (best_origin (origins L M) X) (runner_up_within L M ha va (best_origin (origins L M) X)) (pairs_tied ha va)
  summed = summed_by L M (length hc) (length vc) grid-of (c_at hc) (c_at vc) ha va (said hc X.hw htwo hok) (said vc X.vw vtwo vok) (best_origin (origins L M) X) best-pair

  -- more optimal pairs than the cap: more than one pair has the largest counts
  pub many-tied : separation_product_cap < ha.optimal * va.optimal → pairs_tied ha va ≡ true
  many-tied l = lt-ltb 1 (ha.tied * va.tied) (omega (arith, mul-le-mul (optimal-fewer hc X.hw htwo hok) (optimal-fewer vc X.vw vtwo vok)))
