-- The first origin, row by row, with a given number of hits, counted edge by edge.
use Rattle.std.specs.Prelude.{Bool, true, false, cond, ℕ, ◌*◌, ◌/◌, ◌%◌, eqb}
use Rattle.laws.specs.Words.{first}
use Rattle.board.specs.Hits.{EdgeList, Board, hits}
use Rattle.board.specs.Sides.{period_of}
use Rattle.classes.specs.declared.Three.{Three}
use Rattle.tops.specs.Tops.{larger}

-- the origin (row, col) has the wanted hits
abbrev pub has : Board → EdgeList → ℕ → ℕ → ℕ → ℕ → Bool
has B E t wanted row col = eqb (hits B E t row col) wanted

-- the first column of a row that has them, else the number of columns
unfoldable pub first_col : Board → EdgeList → ℕ → ℕ → ℕ → ℕ
first_col B E t wanted row = first (has B E t wanted row) (3 * period_of B false)

-- the origin with the key k has them: k is row · columns + column
abbrev pub key_has : Board → EdgeList → ℕ → ℕ → ℕ → Bool
key_has B E t wanted k = has B E t wanted (k / (3 * period_of B false)) (k % (3 * period_of B false))

-- the first key that has them, else the number of origins
unfoldable pub first_key : Board → EdgeList → ℕ → ℕ → ℕ
first_key B E t wanted = first (key_has B E t wanted) (3 * period_of B true * (3 * period_of B false))

-- ---- three numbers
abbrev pub pick_of : Three → ℕ → ℕ
pick_of x i = cond (eqb i 0) x.a (cond (eqb i 1) x.b x.c)

unfoldable pub most_of : Three → ℕ
most_of x = larger (larger x.a x.b) x.c
