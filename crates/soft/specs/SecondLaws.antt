-- A transform's winner and second, found from the two tables one by one, are what their whole sums say: the best origin, and the best of the others.
use Rattle.std.specs.Prelude.{◌≡◌, Bool, cond, List, ◌⊎◌, ℕ, ◌+◌, ◌*◌, ◌^◌, ◌≤◌, ◌<◌, ℤ, nat_abs, ◌+ℤ◌, length}
use Rattle.std.proofs.Math.Path.{refl, ap}
use Rattle.std.proofs.Common.{ap₂, sym, ◌∙◌, le_refl, mul-le-mul_left, mul-le-mul_right, arith}
use Rattle.std.proofs.Math.Bool.{true, false}
use Rattle.std.proofs.Math.Logic.{inl, inr, ⊎_elim}
use Rattle.std.proofs.Math.Dec.{ltb}
use Rattle.std.specs.Int.Signed.{lt_z}
use borrow.Author.Tests.{ltb-true, ltb-false, lt-ltb, le-ltb}
use Rattle.laws.specs.Tests.{clash, compared, apart, decided}
use Rattle.laws.specs.Counting.{count-one, other-passes}
use Rattle.laws.specs.Whole.{lt-raised}
use Rattle.laws.specs.Words.{Grid}
use Rattle.laws.specs.GridLaws.{Laws}
use Rattle.level.specs.Level.{s_at, level_best, level_of, level_second}
use Rattle.level.specs.LevelLaws.{cell_in, best-tied, some-tied, second-inside, second-other, second-early}
use Rattle.level.specs.Sums.{sum_at}
use Rattle.pair.specs.Pair.{is_top, other_pair, second_pair, winner_of, second_of}
use Rattle.pair.specs.OtherLaws.{Out, missing, found, pair-law}
use Rattle.soft.specs.SeparationLaws.{OnGrid, rank, whole, top-rank, is-top, second-rank, small-h, small-v, sum-order, whole-key, whole_pair, whole-most, whole_cells, winner-under, winner-pair, whole-winner, winner-largest, winner-first}
use Rattle.soft.specs.BestPlacing.{OwnBest, NotAfter, OwnSecond}

-- ---- one table with one cell of largest sum
module _ (xs : List ℤ) (two : 1 < length xs) (small : (i : ℕ) → nat_abs (s_at xs i) ≤ 2 ^ 53) (one : (level_of xs).tied ≡ 1) where
  only : (i : ℕ) → i < length xs → is_top xs i ≡ true → i ≡ level_best xs
  unfolding level_of
  only i l e = count-one (is_top xs) (length xs) i (level_best xs) one l (cell_in xs two) e (best-tied xs two)

  abbrev second : ℕ
  second = level_second xs (level_best xs)

  second-in : second < length xs
  second-in = second-inside xs two (level_best xs)

  second_below : rank xs second < rank xs (level_best xs)
  second_below = ⊎_elim (λ l. l) (λ l. absurd (reached l)) (compared (rank xs second) (rank xs (level_best xs)))
    where
      reached : rank xs (level_best xs) ≤ rank xs second → ⊥
      reached l =
          let m = top-rank xs two small second second-in in
          second-other xs two (level_best xs) (only second second-in (is-top xs two small second (omega arith)))

  second-before : (i : ℕ) → i < second → (i ≡ level_best xs → ⊥) → rank xs i < rank xs second
  second-before i l ne = lt-raised (2 ^ 53) (s_at xs i) (s_at xs second) (small i) (small second) (second-early xs two (level_best xs) i l ne)

-- ---- numbers of tied cells
ones : (x y : ℕ) → 0 < x → 0 < y → x * y ≤ 1 → (x ≡ 1) × (y ≡ 1)
ones x y p q l =
    let s : x * 1 ≤ x * y = mul-le-mul_left x q in
    let u : 1 * y ≤ x * y = mul-le-mul_right y p in
    (omega arith, omega arith)

more-than-one : (x y : ℕ) → 1 < x * y → (1 < x) ⊎ (1 < y)
more-than-one x y l = ⊎_elim (λ p. inl p) (λ p. inr (omega (arith, mul-le-mul_right y p))) (compared 1 x)

module _ {G : Grid} {hs vs : List ℤ} (t : OnGrid G hs vs) where
  abbrev E : Laws G (length hs) (length vs)
  E = t.laws

  -- the whole sum, its rank, and the winner
  abbrev s : ℕ → ℤ
  s = sum_at G hs vs

  abbrev W : ℕ → ℕ
  W = whole G hs vs

  abbrev w : ℕ
  w = winner_of G hs vs

  no_more : (i j : ℕ) → W j ≤ W i → lt_z (s i) (s j) ≡ false
  no_more i j l = sum-order t i j ∙ le-ltb (W i) (W j) l

  fewer : (i j : ℕ) → W i < W j → lt_z (s i) (s j) ≡ true
  fewer i j l = sum-order t i j ∙ lt-ltb (W i) (W j) l

  -- ---- the winner is its transform's own best origin
  pub winner-own : OwnBest G s w
  winner-own = record { key = winner-under t; largest = λ i l. winner-largest t i; first = λ i l. winner-first t i l }

  -- ---- several pairs tie
  -- two pairs of cells are two origins
  key_apart : (h v h' v' : ℕ) → h < length hs → v < length vs → h' < length hs → v' < length vs → G.key h v ≡ G.key h' v' → (h ≡ h') × (v ≡ v')
  key_apart h v h' v' p q p' q' e = (sym (E.h_key h v p q) ∙ ap G.h_of e ∙ E.h_key h' v' p' q', sym (E.v_key h v p q) ∙ ap G.v_of e ∙ E.v_key h' v' p' q')

  by-position : (r : ℕ) → 1 < (level_of hs).tied * (level_of vs).tied → Out G (length vs) (is_top hs) (is_top vs) w (length hs) r → OwnSecond G s w r
  unfolding level_of
  by-position r l (found h v p q a b ne z before here) = rw z (record {
    key = E.under h v p q;
    other = ne;
    largest = λ i m n. no_more (G.key h v) i (omega (arith, whole_pair t h v p q a b, whole-most t i));
    tied = λ e i m n d. position i m n (whole_cells t i (omega (arith, whole-winner t, whole-most t i, ltb-false (W i) (W w) (sym (sum-order t i w) ∙ d))));
    alone = λ e. clash e (no_more (G.key h v) w (omega (arith, whole_pair t h v p q a b, whole-winner t)));
  })
    where
      position : (i : ℕ) → i < G.none → (i ≡ w → ⊥) → (is_top hs (G.h_of i) ≡ true) × (is_top vs (G.v_of i) ≡ true) → NotAfter G (G.key h v) i
      position i m n c = rw (E.h_key h v p q, E.v_key h v p q) (⊎_elim same (⊎_elim inl (λ g. absurd (n (sym (E.back i m) ∙ before (G.h_of i) (G.v_of i) g (E.v-in i) c.0 c.1)))) (apart h (G.h_of i)))
        where
          same : h ≡ G.h_of i → (h < G.h_of i) ⊎ ((h ≡ G.h_of i) × (v ≤ G.v_of i))
          same x = ⊎_elim (λ u. absurd (n (sym (E.back i m) ∙ ap (λ (y : ℕ). G.key y (G.v_of i)) (sym x) ∙ here (G.v_of i) u c.1))) (λ u. inr (x, u)) (compared (G.v_of i) v)
  by-position r l (missing z all) = absurd (⊎_elim by-h by-v (more-than-one (level_of hs).tied (level_of vs).tied l))
    where
      by-h : 1 < (level_of hs).tied → ⊥
      by-h m =
          let o = winner-pair t in
          let u = other-passes (is_top hs) (length hs) o.0 m in
          u.3 (key_apart u.0 o.1 o.0 o.1 u.1 o.3 o.2 o.3 (all u.0 o.1 u.1 o.3 u.2 o.5 ∙ o.6)).0

      by-v : 1 < (level_of vs).tied → ⊥
      by-v m =
          let o = winner-pair t in
          let u = other-passes (is_top vs) (length vs) o.1 m in
          u.3 (key_apart o.0 u.0 o.0 o.1 o.2 u.1 o.2 o.3 (all o.0 u.0 o.2 u.1 o.4 u.2 ∙ o.6)).1

  -- ---- one pair alone has the largest sum
  module _ (one-h : (level_of hs).tied ≡ 1) (one-v : (level_of vs).tied ≡ 1) where
    abbrev bh : ℕ
    bh = level_best hs

    abbrev bv : ℕ
    bv = level_best vs

    abbrev nh : ℕ
    nh = level_second hs bh

    abbrev nv : ℕ
    nv = level_second vs bv

    bh-in : bh < length hs
    bh-in = cell_in hs t.two-h

    bv-in : bv < length vs
    bv-in = cell_in vs t.two-v

    nh-in : nh < length hs
    nh-in = second-inside hs t.two-h bh

    nv-in : nv < length vs
    nv-in = second-inside vs t.two-v bv

    -- the winner is the pair of the two best cells
    is-best : w ≡ G.key bh bv
    is-best =
        let o = winner-pair t in
        o.6 ∙ ap₂ G.key (only hs t.two-h (small-h t) one-h o.0 o.2 o.4) (only vs t.two-v (small-v t) one-v o.1 o.3 o.5)

    w-h : G.h_of w ≡ bh
    w-h = ap G.h_of is-best ∙ E.h_key bh bv bh-in bv-in

    w-v : G.v_of w ≡ bv
    w-v = ap G.v_of is-best ∙ E.v_key bh bv bh-in bv-in

    -- another origin has another cell
    not-both : (i : ℕ) → i < G.none → (i ≡ w → ⊥) → G.h_of i ≡ bh → G.v_of i ≡ bv → ⊥
    not-both i l ne h v = ne (sym (E.back i l) ∙ ap₂ G.key h v ∙ sym is-best)

    -- the two pairs with one second-best cell
    across : W (G.key nh bv) ≡ rank hs nh + rank vs bv
    across = whole-key t nh bv nh-in bv-in

    down : W (G.key bh nv) ≡ rank hs bh + rank vs nv
    down = whole-key t bh nv bh-in nv-in

    -- another origin has at most the sum of one of them
    at-v : (i : ℕ) → i < G.none → (i ≡ w → ⊥) → (G.h_of i ≡ bh → ⊥) → W i ≤ W (G.key nh bv)
    at-v i l ne n = omega (arith, across, second-rank hs t.two-h (small-h t) (G.h_of i) (E.h-in i) n, top-rank vs t.two-v (small-v t) (G.v_of i) (E.v-in i))

    at-h : (i : ℕ) → i < G.none → (i ≡ w → ⊥) → G.h_of i ≡ bh → W i ≤ W (G.key bh nv)
    at-h i l ne e = omega (arith, down, top-rank hs t.two-h (small-h t) (G.h_of i) (E.h-in i), second-rank vs t.two-v (small-v t) (G.v_of i) (E.v-in i) (not-both i l ne e))

    rest : (i : ℕ) → i < G.none → (i ≡ w → ⊥) → (W i ≤ W (G.key nh bv)) ⊎ (W i ≤ W (G.key bh nv))
    rest i l ne = ⊎_elim (λ e. inr (at-h i l ne e)) (λ n. inl (at-v i l ne n)) (decided (G.h_of i) bh)

    -- they are compared as the definition compares them
    pair-sum : (h v : ℕ) → h < length hs → v < length vs → s (G.key h v) ≡ s_at hs h +ℤ s_at vs v
    pair-sum h v p q = ap₂ (λ (x y : ℕ). s_at hs x +ℤ s_at vs y) (E.h_key h v p q) (E.v_key h v p q)

    told : lt_z (s_at hs nh +ℤ s_at vs bv) (s_at hs bh +ℤ s_at vs nv) ≡ ltb (W (G.key nh bv)) (W (G.key bh nv))
    told = sym (ap₂ lt_z (pair-sum nh bv nh-in bv-in) (pair-sum bh nv bh-in nv-in)) ∙ sum-order t (G.key nh bv) (G.key bh nv)

    vertical : W (G.key nh bv) < W (G.key bh nv) → OwnSecond G s w (G.key bh nv)
    vertical l = record {
      key = E.under bh nv bh-in nv-in;
      other = λ x. second-other vs t.two-v bv (key_apart bh nv bh bv bh-in nv-in bh-in bv-in (x ∙ is-best)).1;
      largest = λ i m n. no_more (G.key bh nv) i (⊎_elim (λ z. omega arith) (λ z. z) (rest i m n));
      tied = λ e. clash (fewer (G.key bh nv) w (omega (arith, down, whole-winner t, second_below vs t.two-v (small-v t) one-v))) e;
      alone = λ e. inr (record {
        shared = E.h_key bh nv bh-in nv-in ∙ sym w-h;
        first = λ i m n x y.
            let c : G.v_of i < nv = rw (E.v_key bh nv bh-in nv-in) at y in
            fewer i (G.key bh nv) (omega (arith, down, top-rank hs t.two-h (small-h t) (G.h_of i) (E.h-in i), second-before vs t.two-v (small-v t) one-v (G.v_of i) c (not-both i m n (x ∙ w-h))));
        greater = λ i m n x. fewer i (G.key bh nv) (omega (arith, at-v i m n (λ z. not-both i m n z (x ∙ w-v))));
      });
    }

    horizontal : W (G.key bh nv) ≤ W (G.key nh bv) → OwnSecond G s w (G.key nh bv)
    horizontal l = record {
      key = E.under nh bv nh-in bv-in;
      other = λ x. second-other hs t.two-h bh (key_apart nh bv bh bv nh-in bv-in bh-in bv-in (x ∙ is-best)).0;
      largest = λ i m n. no_more (G.key nh bv) i (⊎_elim (λ z. z) (λ z. omega arith) (rest i m n));
      tied = λ e. clash (fewer (G.key nh bv) w (omega (arith, across, whole-winner t, second_below hs t.two-h (small-h t) one-h))) e;
      alone = λ e. inl (record {
        shared = E.v_key nh bv nh-in bv-in ∙ sym w-v;
        first = λ i m n x y.
            let c : G.h_of i < nh = rw (E.h_key nh bv nh-in bv-in) at y in
            fewer i (G.key nh bv) (omega (arith, across, top-rank vs t.two-v (small-v t) (G.v_of i) (E.v-in i), second-before hs t.two-h (small-h t) one-h (G.h_of i) c (λ z. not-both i m n z (x ∙ w-v))));
      });
    }

    by-sums : OwnSecond G s w (second_pair G (level_of hs) (level_of vs))
    unfolding second_pair level_of
    by-sums = go (lt_z (s_at hs nh +ℤ s_at vs bv) (s_at hs bh +ℤ s_at vs nv)) refl
      where
        go : (c : Bool) → lt_z (s_at hs nh +ℤ s_at vs bv) (s_at hs bh +ℤ s_at vs nv) ≡ c → OwnSecond G s w (cond c (G.key bh nv) (G.key nh bv))
        go true e = vertical (ltb-true (W (G.key nh bv)) (W (G.key bh nv)) (sym told ∙ e))
        go false e = horizontal (ltb-false (W (G.key nh bv)) (W (G.key bh nv)) (sym told ∙ e))

  -- ---- the second is the best of the other origins
  pub second-own : OwnSecond G s w (second_of G hs vs)
  unfolding second_of
  second-own = go (ltb 1 ((level_of hs).tied * (level_of vs).tied)) refl
    where
      go : (c : Bool) → ltb 1 ((level_of hs).tied * (level_of vs).tied) ≡ c
          → OwnSecond G s w (cond c (other_pair G (length vs) (is_top hs) (is_top vs) w (length hs)) (second_pair G (level_of hs) (level_of vs)))
      go true e = by-position (other_pair G (length vs) (is_top hs) (is_top vs) w (length hs)) (ltb-true 1 ((level_of hs).tied * (level_of vs).tied) e) (pair-law G (length hs) (length vs) E (is_top hs) (is_top vs) w (length hs) (le_refl (length hs)))
      go false e =
          let o = ones (level_of hs).tied (level_of vs).tied (some-tied hs t.two-h) (some-tied vs t.two-v) (ltb-false 1 ((level_of hs).tied * (level_of vs).tied) e) in
          by-sums o.0 o.1
