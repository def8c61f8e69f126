-- Document 01, 'Transforms and lookup', first two paragraphs: the eight transforms, and where an edge is looked up. The quotes are the document's.
use Rattle.std.specs.Prelude.{ℕ, List, [], ◌∷◌, cond, get_or, eqb, ℤ, pos, negsuc, ◌+ℤ◌, ◌-ℤ◌, ◌*ℤ◌}
use Rattle.std.specs.Int.Signed.{lt_z}
use Rattle.laws.specs.Words.{eq_z}
use Rattle.board.specs.declared.edge.EdgeLookup.{EdgeLookup}

-- "The numbering is ours: 0 [[1,0],[0,1]]; 1 [[0,-1],[1,0]]; .." (-1 is `negsuc 0`)
unfoldable pub matrices : List (List (List ℤ))
matrices =
    ((pos 1 ∷ pos 0 ∷ []) ∷ (pos 0 ∷ pos 1 ∷ []) ∷ []) ∷ ((pos 0 ∷ negsuc 0 ∷ []) ∷ (pos 1 ∷ pos 0 ∷ []) ∷ [])
    ∷ ((negsuc 0 ∷ pos 0 ∷ []) ∷ (pos 0 ∷ negsuc 0 ∷ []) ∷ []) ∷ ((pos 0 ∷ pos 1 ∷ []) ∷ (negsuc 0 ∷ pos 0 ∷ []) ∷ [])
    ∷ ((negsuc 0 ∷ pos 0 ∷ []) ∷ (pos 0 ∷ pos 1 ∷ []) ∷ []) ∷ ((pos 0 ∷ pos 1 ∷ []) ∷ (pos 1 ∷ pos 0 ∷ []) ∷ [])
    ∷ ((pos 1 ∷ pos 0 ∷ []) ∷ (pos 0 ∷ negsuc 0 ∷ []) ∷ []) ∷ ((pos 0 ∷ negsuc 0 ∷ []) ∷ (negsuc 0 ∷ pos 0 ∷ []) ∷ [])
    ∷ []

-- the matrix of transform t
abbrev pub matrix_of : ℕ → List (List ℤ)
matrix_of t = get_or matrices t []

-- entry (i, j) of the matrix of transform t
unfoldable pub mat : ℕ → ℕ → ℕ → ℤ
unfolding matrices
mat t i j = get_or (get_or (matrix_of t) i []) j (pos 0)

-- "A transform maps (column, row) by a matrix, translation zero": row i of the matrix times (col, row), so 0 gives the column and 1 the row
unfoldable pub mapped : ℕ → ℕ → ℤ → ℤ → ℤ
mapped t i col row = mat t i 0 *ℤ col +ℤ mat t i 1 *ℤ row

-- the ends are mapped to (c, r) and (d, s). "Equal rows: the result is horizontal, its anchor the end of smaller column, lookup (anchor row - 1,
-- anchor column). Otherwise vertical, anchor the end of smaller row, lookup (anchor row, anchor column - 1)."
unfoldable pub lookup_of_ends : ℤ → ℤ → ℤ → ℤ → EdgeLookup
lookup_of_ends c r d s =
    cond (eq_z r s)
    (record { orientation = 0; row = r -ℤ pos 1; col = cond (lt_z c d) c d })
    (record { orientation = 1; row = cond (lt_z r s) r s; col = cond (lt_z r s) c d -ℤ pos 1 })

-- "Map both ends": the edge that joins (c, r) to (d, s), under the transform t
unfoldable pub joined : ℕ → ℤ → ℤ → ℤ → ℤ → EdgeLookup
unfolding mapped lookup_of_ends
joined t c r d s = lookup_of_ends (mapped t 0 c r) (mapped t 1 c r) (mapped t 0 d s) (mapped t 1 d s)

-- "A horizontal edge at (row, col) joins (col, row) to (col+1, row); a vertical one joins it to (col, row+1)": horizontal is orientation 0
unfoldable pub lookup_of : ℕ → ℤ → ℤ → ℕ → EdgeLookup
unfolding joined
lookup_of t row col orientation =
    cond (eqb orientation 0) (joined t col row (col +ℤ pos 1) row) (joined t col row col (row +ℤ pos 1))
