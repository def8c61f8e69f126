-- Request C-15: "each confidence becomes a whole number of 2^-24 units, halves away from zero, and weights are whole sums." Hits and weight of a cell stand in one number:
-- its value, the sum of its hits' values, is hits · 2^38 + weight (`value-splits`).
use Rattle.std.specs.Prelude.{Bool, ◌&&◌, List, ℕ, ◌+◌, ◌*◌, ◌/◌, ◌%◌, ◌≤◌, ◌<◌, length}
use Rattle.laws.specs.Words.{fold}
use Rattle.board.specs.Hits.{EdgeList, Board, size, hit}
use Rattle.board.specs.Sides.{on_side, period_of}
use Rattle.board.specs.Domain.{ListOk, BoardOk}
use Rattle.room.specs.Room.{tables_room, Laid}
use Rattle.groups.specs.Groups.{confidence_at, group_sum}
use Rattle.unit_terms.specs.Values.{unit_of, value_of}
use Rattle.cells.specs.Listed.{listed}
use Rattle.cells.specs.Cells.{width}

-- the units of edge i: its confidence as a whole number of 2^-24
abbrev pub unit_at : EdgeList → ℕ → ℕ
unit_at E i = unit_of (confidence_at E i)

-- the value of edge i: 2^38 for the hit, and its units
abbrev pub value_at : EdgeList → ℕ → ℕ
value_at E i = value_of (confidence_at E i)

-- x i added up over the edges i of one side that hit under the transform t at the origin (r, c)
unfoldable pub side_sum : (ℕ → ℕ) → Board → EdgeList → ℕ → Bool → ℕ → ℕ → ℕ
side_sum x B E t s r c = fold ◌+◌ 0 (size E) (λ i. on_side E t s i && hit B E t r c i) x

-- a cell's value: the values of its side's edges that hit at the origin that is its class
unfoldable pub cell_value : Board → EdgeList → ℕ → Bool → ℕ → ℕ
cell_value B E t s k = side_sum (value_at E) B E t s (k / width B s) (k % width B s)

-- its weight: their units
unfoldable pub cell_units : Board → EdgeList → ℕ → Bool → ℕ → ℕ
cell_units B E t s k = side_sum (unit_at E) B E t s (k / width B s) (k % width B s)

-- the table of transform t: the values of the side s, cell by cell
unfoldable pub values_of : Board → EdgeList → ℕ → Bool → List ℕ
values_of B E t s = listed (3 * period_of B s) (cell_value B E t s)

-- the values of a group's edges, added up
abbrev pub group_value : Board → EdgeList → ℕ → Bool → ℕ → ℕ
group_value B E = group_sum ◌+◌ 0 (value_at E) B E

-- the list, the pattern tables and the transform are accepted, and the room is long enough: as long as that of the counts
pub record UnitsReady (B : Board) (E : EdgeList) (t : ℕ) (a : List ℕ) : Type 0 where
  pub list : ListOk E
  pub board : BoardOk B
  pub transform : t < 8
  pub room : tables_room B ≤ length a

-- each cell holds its value, each group too, and the surplus is as it was
abbrev pub UnitsBuilt : Board → EdgeList → ℕ → List ℕ → List ℕ → Type 0
UnitsBuilt B E t a a' = Laid 0 (period_of B) 1 (cell_value B E t) (λ i. group_value B E t) a a'
