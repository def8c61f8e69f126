-- Document 01, 'Numbers that bound the domain' (room): what lent room holds once the tables of one transform are built.
use Rattle.std.specs.Prelude.{List, ℕ, ◌≤◌, ◌<◌, length, Float}
use Rattle.std.specs.Float.{nan}
use Rattle.board.specs.Hits.{EdgeList, Board}
use Rattle.board.specs.Sides.{period_of}
use Rattle.board.specs.Domain.{ListOk, BoardOk}
use Rattle.room.specs.Room.{used, Laid}
use Rattle.groups.specs.Groups.{group_count, group_weight}
use Rattle.cells.specs.Cells.{cell_count, cell_weight}

-- the list, the pattern tables and the transform are accepted, and the room is long enough
pub record TablesReady (B : Board) (E : EdgeList) (t : ℕ) (c : List ℕ) (w : List Float) : Type 0 where
  pub list : ListOk E
  pub board : BoardOk B
  pub transform : t < 8
  pub room : (used (period_of B) 1 ≤ length c) × (used (period_of B) 1 ≤ length w)

-- each cell holds its count and its weight, each group too, and the surplus is as it was
pub record TablesBuilt (B : Board) (E : EdgeList) (t : ℕ) (c c' : List ℕ) (w w' : List Float) : Type 0 where
  pub counts : Laid 0 (period_of B) 1 (cell_count B E t) (λ i. group_count B E t) c c'
  pub weights : Laid nan (period_of B) 1 (cell_weight B E t) (λ i. group_weight B E t) w w'
