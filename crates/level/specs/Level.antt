-- Document 01, 'Soft selection': "the cells of largest sum" of one table, and its second-best cells. 'First' is by cell position.
use Rattle.std.specs.Prelude.{Bool, List, ℕ, ℤ, pos, get_or, length}
use Rattle.std.specs.Int.Signed.{lt_z}
use Rattle.laws.specs.Words.{count, first_best, second, eq_z}
use Rattle.level.specs.declared.LevelMax.{LevelMax}

-- the sum of cell i
abbrev pub s_at : List ℤ → ℕ → ℤ
s_at xs i = get_or xs i (pos 0)

-- cell i has a greater sum than cell j
abbrev pub larger : (ℕ → ℤ) → ℕ → ℕ → Bool
larger f i j = lt_z (f j) (f i)

-- the first cell of largest sum
abbrev pub level_best : List ℤ → ℕ
level_best xs = first_best (larger (s_at xs)) (length xs)

-- cell i has the given sum
abbrev pub tied_sum : List ℤ → ℤ → ℕ → Bool
tied_sum xs top i = eq_z (s_at xs i) top

-- the first second-best cell: the first cell of largest sum, of all but cell k
abbrev pub level_second : List ℤ → ℕ → ℕ
level_second xs k = second (larger (s_at xs)) k (length xs)

-- all that the selection asks of one table, around cell k
abbrev pub level_around : List ℤ → ℕ → LevelMax
level_around xs k =
    record {
      cell = k;
      top = s_at xs k;
      tied = count (length xs) (tied_sum xs (s_at xs k));
      second = level_second xs k;
      under = s_at xs (level_second xs k);
    }

-- the same, around its best cell
unfoldable pub level_of : List ℤ → LevelMax
level_of xs = level_around xs (level_best xs)
