-- The numbers of the placings of one list position: which are in a part's rows and columns, and the value of each, from two cells.
use Rattle.std.specs.Prelude.{◌≡◌, Bool, ◌&&◌, List, ℕ, ◌+◌, ◌*◌, ◌/◌, ◌%◌, ◌<◌, length}
use Rattle.laws.specs.Words.{origins}
use Rattle.values.specs.Values.{v_at, pair_value}
use Rattle.part.specs.declared.Runs.{Runs}
use Rattle.part.specs.Part.{in_runs}

-- the number of the first origin of a row at a list position
unfoldable pub first_number : ℕ → ℕ → ℕ
first_number listed row = (listed * 501 + row) * 501

-- the row and the column of a number
abbrev pub row_at : ℕ → ℕ
row_at m = m % 251001 / 501

abbrev pub col_at : ℕ → ℕ
col_at m = m % 251001 % 501

-- the value of the origin with a number, by one transform's tables of a flat board
unfoldable pub number_value : List ℕ → List ℕ → ℕ → ℕ
number_value hs vs m = pair_value (origins 167 167) hs vs (m % 251001)

-- its column is in the runs
unfoldable pub in_cols : Runs → ℕ → Bool
in_cols cols m = in_runs cols (col_at m)

-- its row and its column are
unfoldable pub in_both : Runs → Runs → ℕ → Bool
in_both rows cols m = in_runs rows (row_at m) && in_runs cols (col_at m)

-- two tables of a flat board, whose values add up below 2^64
pub record TablesReady (hs vs : List ℕ) : Type 0 where
  pub hcells : length hs ≡ 501
  pub vcells : length vs ≡ 501
  pub small : (i j : ℕ) → i < 501 → j < 501 → v_at hs i + v_at vs j < 18446744073709551616
