-- The case of Witness.antt: a small board, of periods 4 and 5, one list of five edges, and one placing.
use Rattle.std.specs.Prelude.{List, [], ◌∷◌, ℕ, replicate, pos}
use Rattle.laws.specs.Words.{one_f}
use Rattle.board.specs.declared.edge.Placing.{Placing}
use Rattle.board.specs.Hits.{EdgeList, Board, edges, tables}

-- four horizontal and five vertical patterns, so 12 rows of 15 columns
abbrev pub board : Board
board = tables (3 ∷ 5 ∷ 4 ∷ 5 ∷ []) (0 ∷ 7 ∷ 7 ∷ 7 ∷ 3 ∷ [])

-- the transforms 0 and 1
abbrev pub transforms : List ℕ
transforms = 0 ∷ 1 ∷ []

-- five edges of confidence 1, read without a miss where transform 1 stands at row 7, column 11
abbrev pub list : EdgeList
list =
    edges (pos 0 ∷ pos 0 ∷ pos 0 ∷ pos 1 ∷ pos 1 ∷ []) (pos 0 ∷ pos 0 ∷ pos 1 ∷ pos 1 ∷ pos 1 ∷ [])
    (0 ∷ 1 ∷ 1 ∷ 0 ∷ 1 ∷ []) (0 ∷ 0 ∷ 0 ∷ 0 ∷ 1 ∷ []) (replicate 5 one_f)

abbrev pub place : Placing
place = record { listed = 1; row = 7; col = 11 }
