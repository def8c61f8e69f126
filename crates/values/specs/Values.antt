-- C-15, tables of values: "The winner has most hits, then most weight". A value is hits · 2^38 + weight, and no weight reaches 2^38, so the greater value has more hits, or as many and more weight.
use Rattle.std.specs.Prelude.{Bool, List, ℕ, ◌+◌, ◌/◌, ◌%◌, eqb, get_or, length}
use Rattle.laws.specs.Words.{count, first_best, above, second, Grid, origins, zero_f}
use Rattle.unit_terms.specs.Values.{one_hit}
use Rattle.grid.specs.RowMajor.{row_major}
use Rattle.best.specs.declared.lex.LexMax.{LexMax}
use Rattle.values.specs.declared.table.ValueMax.{ValueMax}

-- the hits of a value, and its weight
abbrev pub hits_of : ℕ → ℕ
hits_of x = x / one_hit

abbrev pub weight_of : ℕ → ℕ
weight_of x = x % one_hit

-- the value of cell i, and its hits
abbrev pub v_at : List ℕ → ℕ → ℕ
v_at xs i = get_or xs i 0

abbrev pub n_at : List ℕ → ℕ → ℕ
n_at xs i = hits_of (v_at xs i)

-- the first cell of greatest value
abbrev pub value_best : List ℕ → ℕ
value_best xs = first_best (above (v_at xs)) (length xs)

-- cell i has the given value, or so many hits
abbrev pub tied_value : List ℕ → ℕ → ℕ → Bool
tied_value xs top i = eqb (v_at xs i) top

abbrev pub held_hits : List ℕ → ℕ → ℕ → Bool
held_hits xs most i = eqb (n_at xs i) most

-- document 01's "first second-best", by hits: the first cell of most hits, of all but cell k
abbrev pub value_second : List ℕ → ℕ → ℕ
value_second xs k = second (above (n_at xs)) k (length xs)

-- all that the selection asks of one table, around cell k
abbrev pub value_around : List ℕ → ℕ → ValueMax
value_around xs k =
    record {
      cell = k;
      top = v_at xs k;
      tied = count (length xs) (tied_value xs (v_at xs k));
      held = count (length xs) (held_hits xs (n_at xs k));
      second = value_second xs k;
      under = n_at xs (value_second xs k);
    }

-- the same, around its best cell
unfoldable pub value_of : List ℕ → ValueMax
value_of xs = value_around xs (value_best xs)

-- the row-major first origin over the pairs of cells of greatest value, as its key
abbrev pub first_origin : ℕ → ℕ → List ℕ → List ℕ → ValueMax → ValueMax → ℕ
first_origin L M hs vs a b = row_major (origins L M) (length vs) (tied_value hs a.top) (tied_value vs b.top) (length hs)

-- the value of the origin with the key k, on the grid G: the values of its two cells, added; and that of two best cells
abbrev pub pair_value : Grid → List ℕ → List ℕ → ℕ → ℕ
pair_value G hs vs k = v_at hs (G.h_of k) + v_at vs (G.v_of k)

abbrev pub best_value : ValueMax → ValueMax → ℕ
best_value a b = a.top + b.top

-- what a table says by hits alone, as document 01's runner-up asks it: a weight is no part of that
abbrev pub by_hits : ValueMax → LexMax
by_hits a = record { cell = a.cell; count = hits_of a.top; weight = zero_f; tied = a.held; optimal = a.tied; second = a.second; under = a.under }
