-- Separation on sums: a transform's winner, which is found from the two tables one by one, is the row-major first of all origins with the largest whole sum.
use Rattle.std.specs.Prelude.{◌≡◌, true, false, List, ℕ, ◌+◌, ◌^◌, ◌≤◌, ◌<◌, ltb, ℤ, nat_abs, length}
use Rattle.std.proofs.Common.{ap, ap₂, ◌∙◌}
use Rattle.std.proofs.Math.Logic.{⊎_elim}
use native.Mathlib.Omega.{arith}
use Rattle.std.specs.Int.Signed.{lt_z}
use borrow.Author.Tests.{lt-ltb, le-ltb}
use Rattle.laws.specs.Tests.{compared}
use Rattle.laws.specs.Whole.{raised, raised-order, raised-add, raised-same, eq_z-true, eq-eq_z, le-raised}
use Rattle.laws.specs.Words.{Grid, origins}
use Rattle.laws.specs.GridLaws.{Laws}
use Rattle.best.specs.CellTables.{Period}
use Rattle.grid.specs.RowMajorLaws.{major-le, major-is}
use Rattle.level.specs.Level.{s_at, level_best, level_second}
use Rattle.level.specs.LevelLaws.{cell_in, largest, second-largest, best-tied}
use Rattle.level.specs.Sums.{SumsOk, sum_at}
use Rattle.level.specs.SumsLaws.{sum-small, all-bounded, h-two, v-two}
use Rattle.pair.specs.Pair.{is_top, winner_of}
use Rattle.pair.specs.PairLaws.{board-grid}

-- ---- one table, its sums raised into the naturals
abbrev pub rank : List ℤ → ℕ → ℕ
rank xs i = raised (2 ^ 53) (s_at xs i)

module _ (xs : List ℤ) (two : 1 < length xs) (small : (i : ℕ) → nat_abs (s_at xs i) ≤ 2 ^ 53) where
  pub top-rank : (i : ℕ) → i < length xs → rank xs i ≤ rank xs (level_best xs)
  top-rank i h = le-raised (2 ^ 53) (s_at xs (level_best xs)) (s_at xs i) (small (level_best xs)) (small i) (largest xs two i h)

  at_top : (i : ℕ) → is_top xs i ≡ true → rank xs i ≡ rank xs (level_best xs)
  at_top i e = ap (raised (2 ^ 53)) (eq_z-true (s_at xs i) (s_at xs (level_best xs)) e)

  pub is-top : (i : ℕ) → rank xs i ≡ rank xs (level_best xs) → is_top xs i ≡ true
  is-top i e = eq-eq_z (s_at xs i) (s_at xs (level_best xs)) (raised-same (2 ^ 53) (s_at xs i) (s_at xs (level_best xs)) (small i) (small (level_best xs)) e)

  pub second-rank : (i : ℕ) → i < length xs → (i ≡ level_best xs → ⊥) → rank xs i ≤ rank xs (level_second xs (level_best xs))
  second-rank i h ne =
      le-raised (2 ^ 53) (s_at xs (level_second xs (level_best xs))) (s_at xs i) (small (level_second xs (level_best xs))) (small i) (second-largest xs two (level_best xs) i h ne)

-- ---- two tables on a grid of keys
pub record OnGrid (G : Grid) (hs vs : List ℤ) : Type 0 where
  pub two-h : 1 < length hs
  pub two-v : 1 < length vs
  pub bounded : (i j : ℕ) → nat_abs (s_at hs i) + nat_abs (s_at vs j) ≤ 2 ^ 53
  pub laws : Laws G (length hs) (length vs)

-- the board's are
pub on-grid : (L M : ℕ) → Period L → Period M → (hs vs : List ℤ) → SumsOk L M hs vs → OnGrid (origins L M) hs vs
on-grid L M p q hs vs ok = record {
  two-h = h-two L M hs vs ok p.more q.more;
  two-v = v-two L M hs vs ok p.more q.more;
  bounded = all-bounded L M hs vs ok p.more q.more;
  laws = board-grid L M p q hs vs ok;
}

-- the rank of an origin's whole sum, and the largest there is
abbrev pub whole : Grid → List ℤ → List ℤ → ℕ → ℕ
whole G hs vs k = rank hs (G.h_of k) + rank vs (G.v_of k)

abbrev pub most : List ℤ → List ℤ → ℕ
most hs vs = rank hs (level_best hs) + rank vs (level_best vs)

module _ {G : Grid} {hs vs : List ℤ} (t : OnGrid G hs vs) where
  pub small-h : (i : ℕ) → nat_abs (s_at hs i) ≤ 2 ^ 53
  small-h i = omega (arith, t.bounded i 0)

  pub small-v : (i : ℕ) → nat_abs (s_at vs i) ≤ 2 ^ 53
  small-v i = omega (arith, t.bounded 0 i)

  -- a whole sum is at most 2^53 in size
  pub sum-under : (k : ℕ) → nat_abs (sum_at G hs vs k) ≤ 2 ^ 53
  sum-under k = sum-small (s_at hs (G.h_of k)) (s_at vs (G.v_of k)) (t.bounded (G.h_of k) (G.v_of k))

  sum-rank : (k : ℕ) → raised (2 ^ 54) (sum_at G hs vs k) ≡ whole G hs vs k
  sum-rank k = raised-add (2 ^ 53) (2 ^ 53) (s_at hs (G.h_of k)) (s_at vs (G.v_of k)) (small-h (G.h_of k)) (small-v (G.v_of k))

  -- the order of whole sums is the order of their ranks
  pub sum-order : (k j : ℕ) → lt_z (sum_at G hs vs k) (sum_at G hs vs j) ≡ ltb (whole G hs vs k) (whole G hs vs j)
  sum-order k j =
      raised-order (2 ^ 54) (sum_at G hs vs k) (sum_at G hs vs j) (omega (arith, sum-under k)) (omega (arith, sum-under j))
      ∙ ap₂ ltb (sum-rank k) (sum-rank j)

  -- ---- pairs of cells
  pub whole-key : (h v : ℕ) → h < length hs → v < length vs → whole G hs vs (G.key h v) ≡ rank hs h + rank vs v
  whole-key h v p q = rw (t.laws.h_key h v p q, t.laws.v_key h v p q)

  pub whole_pair : (h v : ℕ) → h < length hs → v < length vs → is_top hs h ≡ true → is_top vs v ≡ true → whole G hs vs (G.key h v) ≡ most hs vs
  whole_pair h v p q e d = whole-key h v p q ∙ ap₂ ◌+◌ (at_top hs t.two-h small-h h e) (at_top vs t.two-v small-v v d)

  pub whole-most : (k : ℕ) → whole G hs vs k ≤ most hs vs
  whole-most k = omega (arith, top-rank hs t.two-h small-h (G.h_of k) (t.laws.h-in k), top-rank vs t.two-v small-v (G.v_of k) (t.laws.v-in k))

  -- an origin of the largest sum is a pair of cells of largest sum
  pub whole_cells : (k : ℕ) → whole G hs vs k ≡ most hs vs → (is_top hs (G.h_of k) ≡ true) × (is_top vs (G.v_of k) ≡ true)
  whole_cells k e =
      let p = top-rank hs t.two-h small-h (G.h_of k) (t.laws.h-in k) in
      let q = top-rank vs t.two-v small-v (G.v_of k) (t.laws.v-in k) in
      (is-top hs t.two-h small-h (G.h_of k) (omega arith), is-top vs t.two-v small-v (G.v_of k) (omega arith))

  -- ---- the winner
  -- it is an origin
  pub winner-under : winner_of G hs vs < G.none
  unfolding winner_of
  winner-under =
      omega (
        arith,
        major-le G (length vs) (is_top hs) (is_top vs) (length hs) (level_best hs) (level_best vs) (cell_in hs t.two-h) (cell_in vs t.two-v) (best-tied hs t.two-h) (best-tied vs t.two-v),
        t.laws.under (level_best hs) (level_best vs) (cell_in hs t.two-h) (cell_in vs t.two-v),
      )

  -- and a pair of cells of largest sum
  pub winner-pair : (h : ℕ) × (v : ℕ) × (h < length hs) × (v < length vs) × (is_top hs h ≡ true) × (is_top vs v ≡ true) × (winner_of G hs vs ≡ G.key h v)
  unfolding winner_of
  winner-pair = ⊎_elim (λ e. absurd (omega (arith, winner-under))) (λ w. w) (major-is G (length vs) (is_top hs) (is_top vs) (length hs))

  pub whole-winner : whole G hs vs (winner_of G hs vs) ≡ most hs vs
  whole-winner = let w = winner-pair in ap (whole G hs vs) w.6 ∙ whole_pair w.0 w.1 w.2 w.3 w.4 w.5

  -- no origin has a greater sum
  pub winner-largest : (k : ℕ) → lt_z (sum_at G hs vs (winner_of G hs vs)) (sum_at G hs vs k) ≡ false
  winner-largest k = sum-order (winner_of G hs vs) k ∙ le-ltb (whole G hs vs (winner_of G hs vs)) (whole G hs vs k) (omega (arith, whole-winner, whole-most k))

  -- and each before it, row by row, has a smaller one
  pub winner-first : (k : ℕ) → k < winner_of G hs vs → lt_z (sum_at G hs vs k) (sum_at G hs vs (winner_of G hs vs)) ≡ true
  unfolding winner_of
  winner-first k l =
      sum-order k (winner_of G hs vs)
      ∙ lt-ltb (whole G hs vs k) (whole G hs vs (winner_of G hs vs)) (⊎_elim (λ m. m) (λ m. absurd (reached m)) (compared (whole G hs vs k) (whole G hs vs (winner_of G hs vs))))
    where
      reached : whole G hs vs (winner_of G hs vs) ≤ whole G hs vs k → ⊥
      reached m =
          let w = whole_cells k (omega (arith, whole-winner, whole-most k)) in
          omega (arith, major-le G (length vs) (is_top hs) (is_top vs) (length hs) (G.h_of k) (G.v_of k) (t.laws.h-in k) (t.laws.v-in k) w.0 w.1, t.laws.back k (omega (arith, winner-under)))
