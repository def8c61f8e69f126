-- Document 01, 'Soft selection': "Per transform the winner is the row-major first over the cells of largest sum. If several pairs tie, its runner-up is the
-- first, by horizontal then vertical cell position, that isn't the winner; else from the second-best cells as above, by sums, horizontal on a tie." An origin
-- is its key on the grid G, and the grid's `none` is no origin.
use Rattle.std.specs.Prelude.{Bool, not, ◌&&◌, List, ℕ, zero, suc, ◌+◌, ◌*◌, ◌^◌, ◌≤◌, ◌<◌, ltb, eqb, ℤ, nat_abs, ◌+ℤ◌, length}
use Rattle.std.proofs.Math.Bool.{cond}
use Rattle.std.specs.Int.Signed.{lt_z}
use Rattle.laws.specs.Words.{Grid}
use Rattle.grid.specs.RowMajor.{row_major}
use Rattle.level.specs.Level.{s_at, tied_sum, level_best, level_of}
use Rattle.level.specs.declared.LevelMax.{LevelMax}
use Rattle.pair.specs.declared.pair.TwoBest.{TwoBest}

-- what two tables of 3 L and 3 M cells say: cells inside, and sums that stay small
pub record LevelsOk (L M : ℕ) (a b : LevelMax) : Type 0 where
  pub h-cell : a.cell < 3 * L
  pub h_second : a.second < 3 * L
  pub v-cell : b.cell < 3 * M
  pub v_second : b.second < 3 * M
  pub across : nat_abs a.under + nat_abs b.top ≤ 2 ^ 53
  pub down : nat_abs a.top + nat_abs b.under ≤ 2 ^ 53

-- cell i is one of "the cells of largest sum"
abbrev pub is_top : List ℤ → ℕ → Bool
is_top xs = tied_sum xs (s_at xs (level_best xs))

-- a pair that passes is taken where none was found before it
abbrev pub filled : ℕ → ℕ → Bool → ℕ → ℕ
filled none found passes key = cond (eqb found none) (cond passes key found) found

module _ (G : Grid) where
  -- the first pair of the horizontal cell h with one of the first n vertical cells that pass, but not the pair w; where none was found before it
  unfoldable pub other_in : (ℕ → Bool) → ℕ → ℕ → ℕ → ℕ → ℕ
  other_in q h w found zero = found
  other_in q h w found (suc v) = filled G.none (other_in q h w found v) (q v && not (eqb (G.key h v) w)) (G.key h v)

  -- "the first, by horizontal then vertical cell position, that isn't the winner", over the first n horizontal and m vertical cells that pass
  unfoldable pub other_pair : ℕ → (ℕ → Bool) → (ℕ → Bool) → ℕ → ℕ → ℕ
  other_pair m p q w zero = G.none
  other_pair m p q w (suc h) = cond (p h) (other_in q h w (other_pair m p q w h) m) (other_pair m p q w h)

  -- "else from the second-best cells .., by sums, horizontal on a tie"
  unfoldable pub second_pair : LevelMax → LevelMax → ℕ
  second_pair a b = cond (lt_z (a.under +ℤ b.top) (a.top +ℤ b.under)) (G.key a.cell b.second) (G.key a.second b.cell)

  -- "the winner is the row-major first over the cells of largest sum"
  unfoldable pub winner_of : List ℤ → List ℤ → ℕ
  winner_of hs vs = row_major G (length vs) (is_top hs) (is_top vs) (length hs)

  -- "If several pairs tie, its runner-up is .."
  unfoldable pub second_of : List ℤ → List ℤ → ℕ
  unfolding level_of winner_of second_pair
  second_of hs vs =
      cond (ltb 1 ((level_of hs).tied * (level_of vs).tied))
      (other_pair (length vs) (is_top hs) (is_top vs) (winner_of hs vs) (length hs))
      (second_pair (level_of hs) (level_of vs))

  -- both
  unfoldable pub two_of : List ℤ → List ℤ → TwoBest
  unfolding winner_of second_of
  two_of hs vs = record { winner = winner_of hs vs; second = second_of hs vs }
