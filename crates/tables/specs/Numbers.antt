-- Numbers on the definitions: one edge's tables worked out.
use Rattle.std.specs.Prelude.{◌≡◌, refl, true, false, [], ◌∷◌, pos}
use Rattle.laws.specs.Words.{fold, emod}
use Rattle.board.specs.Transform.{mat, matrices, lookup_of}
use Rattle.board.specs.Hits.{EdgeList, Board, edges, tables, look, predicted, hit}
use Rattle.board.specs.Sides.{side_hits}
use Rattle.cells.specs.Listed.{listed}
use Rattle.cells.specs.Cells.{cell_count, counts_of}

-- tables of periods 4 and 5, and two edges, the first horizontal and the second vertical under transform 0
abbrev B : Board
B = tables (1 ∷ 2 ∷ 4 ∷ 7 ∷ []) (5 ∷ 2 ∷ 6 ∷ 0 ∷ 6 ∷ [])

abbrev E : EdgeList
E = edges (pos 1 ∷ pos 0 ∷ []) (pos 0 ∷ pos 0 ∷ []) (0 ∷ 1 ∷ []) (1 ∷ 1 ∷ []) []

-- the first looks up row 0, column 0: class (a, b) counts it where bit b of horizontal pattern a is 1
pub horizontal-counts : counts_of B E 0 true ≡ 1 ∷ 0 ∷ 0 ∷ 0 ∷ 1 ∷ 0 ∷ 0 ∷ 0 ∷ 1 ∷ 1 ∷ 1 ∷ 1 ∷ []
unfolding counts_of listed cell_count side_hits hit look predicted lookup_of mat matrices emod fold
horizontal-counts = refl

-- the second looks up row 0, column -1: class (a, b) counts it where bit a of vertical pattern b - 1 is 1
pub vertical-counts : counts_of B E 0 false ≡ 0 ∷ 1 ∷ 0 ∷ 0 ∷ 0 ∷ 1 ∷ 0 ∷ 1 ∷ 1 ∷ 0 ∷ 1 ∷ 1 ∷ 0 ∷ 1 ∷ 0 ∷ []
unfolding counts_of listed cell_count side_hits hit look predicted lookup_of mat matrices emod fold
vertical-counts = refl
