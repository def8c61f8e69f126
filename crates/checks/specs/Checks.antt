-- Document 01, 'Numbers that bound the domain': what of a list is out of range, and where it first is.
use Rattle.std.specs.Prelude.{Bool, not, ◌||◌, ◌&&◌, List, ℕ, ◌*◌, ltb, eqb, get_or, length, ℤ, pos, negsuc, Float}
use Rattle.std.specs.Int.Signed.{lt_z}
use Rattle.std.specs.Float.{nan}
use Rattle.laws.specs.Words.{first}
use Rattle.board.specs.Hits.{EdgeList, size}
use Rattle.likelihood.specs.Likelihood.{acceptable}

-- "Row and column are from -1,000,000 to 1,000,000" (-1,000,000 is `negsuc 999999`)
unfoldable pub far : ℤ → Bool
far z = lt_z z (negsuc 999999) || lt_z (pos 1000000) z

-- coordinate i of a list, which is none past its end
abbrev pub far_at : List ℤ → ℕ → Bool
far_at xs i = far (get_or xs i (pos 0))

-- edge i has a row or a column out of range
abbrev pub bad_coordinate : List ℤ → List ℤ → ℕ → Bool
bad_coordinate rows cols i = far_at rows i || far_at cols i

-- the first such edge, or the length where there is none
unfoldable pub first_bad_coordinate : List ℤ → List ℤ → ℕ
first_bad_coordinate rows cols = first (bad_coordinate rows cols) (length rows)

-- "Each log likelihood is a finite f32 from -65,536 to 65,536": past the end there is none
abbrev pub unlikely_at : List Float → ℕ → Bool
unlikely_at xs i = not (acceptable (get_or xs i nan))

-- edge i has a likelihood out of range, of a match or of a mismatch
abbrev pub bad_likelihood : List Float → List Float → ℕ → Bool
bad_likelihood ms us i = unlikely_at ms i || unlikely_at us i

-- the first such edge, or the length where there is none
unfoldable pub first_bad_likelihood : List Float → List Float → ℕ
first_bad_likelihood ms us = first (bad_likelihood ms us) (length ms)

-- ---- the tests behind the numbers
-- "one list's slices differ in length"
unfoldable pub lengths_differ : EdgeList → Bool
lengths_differ E =
    not (eqb (size E) (length E.cols) && (eqb (size E) (length E.orientations) && (eqb (size E) (length E.bits) && eqb (size E) (length E.confidences))))

-- "a list empty (not for match statistics) or over 8,192": least is 1, and 0 for match statistics
unfoldable pub size_bad : ℕ → ℕ → Bool
size_bad least n = ltb n least || ltb 8192 n

-- the likelihood slices of a list of n edges differ from it in length
unfoldable pub likelihoods_differ : ℕ → List Float → List Float → Bool
likelihoods_differ n ms us = not (eqb n (length ms) && eqb n (length us))

-- "An origin given to match statistics: 0 to 500 each way", and C-13's "one row below 3L, the bound for a given origin's row too; columns stay 501"
unfoldable pub origin_bad : ℕ → ℕ → ℕ → Bool
origin_bad L row col = not (ltb row (3 * L)) || ltb 500 col
