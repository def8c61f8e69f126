-- Document 01, 'Hard selection': "In each table take the largest count, then the largest weight; the classes with both are optimal." One table, by cell.
use Rattle.std.specs.Prelude.{◌≡◌, Bool, ◌&&◌, ◌||◌, List, ℕ, ◌<◌, ltb, eqb, length, Float}
use Rattle.std.specs.Float.Ieee.{lt, eq}
use Rattle.laws.specs.Words.{count, first_best, above, lex_beats, second, heavier}
use Rattle.best.specs.CellTables.{c_at, w_at}
use Rattle.best.specs.declared.lex.LexMax.{LexMax}

-- a table of at least two cells, each with a count and a weight
pub record TableOk (cs : List ℕ) (ws : List Float) : Type 0 where
  pub two : 1 < length cs
  pub same : length ws ≡ length cs

-- (c, w) beats (d, v): a larger count, or the same count and a larger weight
abbrev pub wins : ℕ → Float → ℕ → Float → Bool
wins c w d v = ltb d c || (eqb c d && lt v w)

-- cell i beats cell j
abbrev pub order : List ℕ → List Float → ℕ → ℕ → Bool
order cs ws = lex_beats (c_at cs) (heavier (w_at ws))

-- the first cell of "the largest count, then the largest weight"
abbrev pub lex_best : List ℕ → List Float → ℕ
lex_best cs ws = first_best (order cs ws) (length cs)

-- cell i has the count
abbrev pub tied_count : List ℕ → ℕ → ℕ → Bool
tied_count cs top i = eqb (c_at cs i) top

-- "the classes with both are optimal"
abbrev pub is_optimal : ℕ → Float → ℕ → Float → Bool
is_optimal c w top heavy = eqb c top && eq w heavy

abbrev pub optimal : List ℕ → List Float → ℕ → Float → ℕ → Bool
optimal cs ws top heavy i = is_optimal (c_at cs i) (w_at ws i) top heavy

-- "first second-best .. 'First' is by cell position": the first cell of largest count, of all but cell k
abbrev pub lex_second : List ℕ → ℕ → ℕ
lex_second cs k = second (above (c_at cs)) k (length cs)

-- all that the selection asks of one table, around cell k
abbrev pub lex_around : List ℕ → List Float → ℕ → LexMax
lex_around cs ws k =
    record {
      cell = k;
      count = c_at cs k;
      weight = w_at ws k;
      tied = count (length cs) (tied_count cs (c_at cs k));
      optimal = count (length cs) (optimal cs ws (c_at cs k) (w_at ws k));
      second = lex_second cs k;
      under = c_at cs (lex_second cs k);
    }

-- the same, around its best cell
unfoldable pub lex_of : List ℕ → List Float → LexMax
lex_of cs ws = lex_around cs ws (lex_best cs ws)
