-- The winner and the second put together from what the two tables say, and one cell more in the search for another pair.
use Rattle.std.specs.Prelude.{◌≡◌, Bool, true, false, not, ◌&&◌, cond, List, ℕ, zero, suc, ◌+◌, ◌*◌, ◌^◌, ◌≤◌, ◌<◌, ltb, eqb, ℤ, nat_abs, ◌+ℤ◌, length}
use Rattle.std.proofs.Math.Path.{refl}
use Rattle.std.proofs.Common.{sym, ◌∙◌, ⊎_elim, mul-le-mul, mul_comm, add-one, arith}
use Rattle.std.specs.Int.Signed.{lt_z}
use Rattle.std.specs.Int.{w64}
use borrow.Author.Tests.{lt-ltb, le-ltb, ne_eqb}
use Rattle.laws.specs.Tests.{compared}
use Rattle.laws.specs.Words.{Grid, origins}
use Rattle.laws.specs.GridLaws.{Laws}
use Rattle.laws.specs.Signed.{read}
use Rattle.best.specs.CellTables.{Period}
use Rattle.grid.specs.RowMajor.{row_major}
use Rattle.grid.specs.RowMajorLaws.{major-none, major-only}
use Rattle.grid.specs.BoardGrid.{grid, none-small}
use Rattle.level.specs.Level.{s_at, tied_sum, level_best, level_of}
use Rattle.level.specs.LevelLaws.{cell_in, best-tied, some-tied, second-inside, few-tied}
use Rattle.level.specs.Sums.{SumsOk}
use Rattle.level.specs.SumsLaws.{small-read, all-bounded, h-two, v-two}
use Rattle.pair.specs.OtherLaws.{other-small}
use Rattle.pair.specs.Pair.{LevelsOk, is_top, filled, other_in, other_pair, second_pair, winner_of, second_of, two_of}
use Rattle.level.specs.declared.LevelMax.{LevelMax}
use Rattle.pair.specs.declared.pair.TwoBest.{TwoBest}

-- ---- one cell more
pub other_step : (G : Grid) (q : ℕ → Bool) (h w a v x : ℕ) → x ≡ other_in G q h w a v
    → filled G.none x (q v && not (eqb (G.key h v) w)) (G.key h v) ≡ other_in G q h w a (v + 1)
unfolding other_in
other_step G q h w a v x e = rw (add-one v, ← e)

-- a pair that was found stays
pub other-kept : (G : Grid) (q : ℕ → Bool) (h w a v : ℕ) → (a ≡ G.none → ⊥) → a ≡ other_in G q h w a v
unfolding other_in
other-kept G q h w a zero n = refl
other-kept G q h w a (suc v) n = rw (← other-kept G q h w a v n, ne_eqb a G.none n)

pub pair-no : (G : Grid) (m : ℕ) (p q : ℕ → Bool) (w i x : ℕ) → x ≡ other_pair G m p q w i → p i ≡ false → x ≡ other_pair G m p q w (i + 1)
unfolding other_pair
pair-no G m p q w i x e t = rw (add-one i, t) e

pub pair-yes : (G : Grid) (m : ℕ) (p q : ℕ → Bool) (w i x : ℕ) → x ≡ other_pair G m p q w i → p i ≡ true → other_in G q i w x m ≡ other_pair G m p q w (i + 1)
unfolding other_pair
pair-yes G m p q w i x e t = rw (add-one i, t, ← e)

-- ---- the pair with a second-best cell
module _ (G : Grid) (a b : LevelMax) (k : ℕ) where
  pub second-down : lt_z (a.under +ℤ b.top) (a.top +ℤ b.under) ≡ true → k ≡ G.key a.cell b.second → k ≡ second_pair G a b
  unfolding second_pair
  second-down t e = rw t e

  pub second-across : lt_z (a.under +ℤ b.top) (a.top +ℤ b.under) ≡ false → k ≡ G.key a.second b.cell → k ≡ second_pair G a b
  unfolding second_pair
  second-across t e = rw t e

-- ---- two numbers above 0 with a product of at most 1: the first is 1
sole-factor : (m n : ℕ) → 0 < m → 0 < n → m * n ≤ 1 → m ≡ 1
sole-factor m n a b h = ⊎_elim (λ l. absurd (omega (arith, mul-le-mul {n₁ = 2} {m₁ = 1} {n₂ = m} {m₂ = n} l b))) (λ l. omega arith) (compared 1 m)

-- ---- the two tables
module _ (L M : ℕ) (p : Period L) (q : Period M) (hs vs : List ℤ) (ok : SumsOk L M hs vs) (a b : LevelMax) (ea : a ≡ level_of hs) (eb : b ≡ level_of vs) where
  bound : (i j : ℕ) → nat_abs (s_at hs i) + nat_abs (s_at vs j) ≤ 2 ^ 53
  bound = all-bounded L M hs vs ok p.more q.more

  two-h : 1 < length hs
  two-h = h-two L M hs vs ok p.more q.more

  two-v : 1 < length vs
  two-v = v-two L M hs vs ok p.more q.more

  pub pairs-few : a.tied * b.tied ≤ 2250000
  pairs-few = rw (ea, eb) (mul-le-mul {n₁ = (level_of hs).tied} {m₁ = (level_of vs).tied} {n₂ = 1500} {m₂ = 1500} (omega (arith, few-tied hs two-h, ok.hlen, p.few)) (omega (arith, few-tied vs two-v, ok.vlen, q.few)))

  pub levels-ok : LevelsOk L M a b
  unfolding level_of
  levels-ok = rw (ea, eb) (record {
    h-cell = omega (arith, cell_in hs two-h, ok.hlen);
    h_second = omega (arith, second-inside hs two-h (level_best hs), ok.hlen);
    v-cell = omega (arith, cell_in vs two-v, ok.vlen);
    v_second = omega (arith, second-inside vs two-v (level_best vs), ok.vlen);
    across = bound (level_of hs).second (level_best vs);
    down = bound (level_best hs) (level_of vs).second;
  })

  -- the largest sums are read back as they are
  pub h-read : read w64 a.top ≡ a.top
  unfolding level_of
  h-read = small-read a.top (rw ea (omega (arith, bound (level_best hs) 0)))

  pub v-read : read w64 b.top ≡ b.top
  unfolding level_of
  v-read = small-read b.top (rw eb (omega (arith, bound 0 (level_best vs))))

  -- ---- the two, where several pairs tie and where one pair is alone
  module _ (G : Grid) (t u : ℤ) (et : t ≡ a.top) (eu : u ≡ b.top) (w r : ℕ) (ew : w ≡ row_major G (length vs) (tied_sum hs t) (tied_sum vs u) (length hs)) where
    winner-is : w ≡ winner_of G hs vs
    unfolding winner_of level_of
    winner-is = ew ∙ rw (et, eu, ea, eb)

    pub two-tied : 1 < a.tied * b.tied → r ≡ other_pair G (length vs) (tied_sum hs t) (tied_sum vs u) w (length hs)
        → ◌≡◌ {A = TwoBest} (record { winner = w; second = r }) (two_of G hs vs)
    unfolding two_of second_of level_of
    two-tied h er =
        let g : 1 < (level_of hs).tied * (level_of vs).tied = rw (ea, eb) at h in
        let e : r ≡ other_pair G (length vs) (tied_sum hs (level_of hs).top) (tied_sum vs (level_of vs).top) (winner_of G hs vs) (length hs) = er ∙ rw (winner-is, et, eu, ea, eb) in
        rw (winner-is, e, lt-ltb 1 ((level_of hs).tied * (level_of vs).tied) g)

  -- where one pair is alone, it is the pair of the best cells
  sole-winner : a.tied * b.tied ≤ 1 → (origins L M).key a.cell b.cell ≡ winner_of (origins L M) hs vs
  unfolding winner_of level_of
  sole-winner h =
      let m = (level_of hs).tied in
      let n = (level_of vs).tied in
      let g : m * n ≤ 1 = rw (ea, eb) at h in
      let one = sole-factor m n (some-tied hs two-h) (some-tied vs two-v) g in
      let sole = sole-factor n m (some-tied vs two-v) (some-tied hs two-h) (rw (mul_comm n m) g) in
      rw (ea, eb) (sym (major-only (origins L M) (length vs) (is_top hs) (is_top vs) (length hs) (level_best hs) (level_best vs) (cell_in hs two-h) (cell_in vs two-v) (best-tied hs two-h) (best-tied vs two-v) one sole ((grid L M p q).under (level_best hs) (level_best vs) (omega (arith, cell_in hs two-h, ok.hlen)) (omega (arith, cell_in vs two-v, ok.vlen)))))

  pub two-single : (w r : ℕ) → w ≡ (origins L M).key a.cell b.cell → a.tied * b.tied ≤ 1 → r ≡ second_pair (origins L M) a b
      → ◌≡◌ {A = TwoBest} (record { winner = w; second = r }) (two_of (origins L M) hs vs)
  unfolding two_of second_of
  two-single w r ew h er =
      let g : (level_of hs).tied * (level_of vs).tied ≤ 1 = rw (ea, eb) at h in
      let e : r ≡ second_pair (origins L M) (level_of hs) (level_of vs) = er ∙ rw (ea, eb) in
      rw (ew ∙ sole-winner h, e, le-ltb 1 ((level_of hs).tied * (level_of vs).tied) g)

-- ---- both keys are small
module _ (L M : ℕ) (p : Period L) (q : Period M) (hs vs : List ℤ) (ok : SumsOk L M hs vs) where
  -- the board's grid, as large as the tables
  pub board-grid : Laws (origins L M) (length hs) (length vs)
  board-grid = rw (ok.hlen, ok.vlen) (grid L M p q)

  pub two-small : (two : TwoBest) → two ≡ two_of (origins L M) hs vs → (two.winner ≤ 2250000) × (two.second ≤ 2250000)
  unfolding two_of winner_of second_of second_pair
  two-small two e = rw e (first, go (ltb 1 ((level_of hs).tied * (level_of vs).tied)) (lt_z ((level_of hs).under +ℤ (level_of vs).top) ((level_of hs).top +ℤ (level_of vs).under)))
    where
      l : LevelsOk L M (level_of hs) (level_of vs)
      l = levels-ok L M p q hs vs ok (level_of hs) (level_of vs) refl refl

      first : winner_of (origins L M) hs vs ≤ 2250000
      first = omega (arith, none-small L M p q, major-none (origins L M) (length vs) (is_top hs) (is_top vs) (length hs))

      under : (h v : ℕ) → h < 3 * L → v < 3 * M → (origins L M).key h v ≤ 2250000
      under h v i j = omega (arith, (grid L M p q).under h v i j, none-small L M p q)

      other : ℕ
      other = other_pair (origins L M) (length vs) (is_top hs) (is_top vs) (winner_of (origins L M) hs vs) (length hs)

      go : (s t : Bool) → cond s other (cond t ((origins L M).key (level_of hs).cell (level_of vs).second) ((origins L M).key (level_of hs).second (level_of vs).cell)) ≤ 2250000
      go true t = omega (arith, none-small L M p q, other-small (origins L M) (length hs) (length vs) board-grid (is_top hs) (is_top vs) (winner_of (origins L M) hs vs))
      go false true = under (level_of hs).cell (level_of vs).second l.h-cell l.v_second
      go false false = under (level_of hs).second (level_of vs).cell l.h_second l.v-cell
