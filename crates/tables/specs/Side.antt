-- What building the cells of one side, d by value, asks and gives.
use Rattle.std.specs.Prelude.{◌≡◌, false, List, ℕ, ◌+◌, ◌*◌, ◌≤◌, ◌<◌, length, Float}
use Rattle.std.specs.Float.{nan, binary32}
use Rattle.std.specs.Float.Ieee.{add}
use Rattle.laws.specs.Words.{fold, all, zero_f, Weight}
use Rattle.laws.specs.Zone.{Zone}
use Rattle.board.specs.Hits.{Board}
use Rattle.board.specs.Sides.{table_of, period_of}
use Rattle.board.specs.Domain.{BoardOk}
use Rattle.terms.specs.Terms.{places_n, places_f}
use Rattle.cells.specs.Cells.{long_class, short_class, cell_sum, family_c, family_w}
use Rattle.room.specs.declared.Side.{Side}
use Rattle.room.specs.Room.{is_horizontal, stride_of, across_of}

-- how many edges the first n families have, whose groups have g k each
unfoldable pub total : (ℕ → ℕ) → ℕ → ℕ
total g n = fold ◌+◌ 0 (n * 6) all g

-- the tables are accepted, the steps are the side's, cells and groups are in the room and apart, the groups have at most 8,192 edges together and a
-- weight of at most 1 an edge, and the cells are clear
pub record SideReady (B : Board) (d : Side) (c : List ℕ) (w : List Float) : Type 0 where
  pub board : BoardOk B
  pub steps : (d.stride ≡ stride_of (is_horizontal d)) × (d.across ≡ across_of (period_of B false) (is_horizontal d))
  pub apart : d.cells + 3 * period_of B (is_horizontal d) ≤ d.groups
  pub room : (d.groups + period_of B (is_horizontal d) * 6 ≤ length c) × (d.groups + period_of B (is_horizontal d) * 6 ≤ length w)
  pub few : total (places_n d.groups c) (period_of B (is_horizontal d)) ≤ 8192
  pub light : (k : ℕ) → k < period_of B (is_horizontal d) * 6 → Weight (places_f d.groups w k) (places_n d.groups c k)
  pub clear_c : (k : ℕ) → k < 3 * period_of B (is_horizontal d) → places_n d.cells c k ≡ 0
  pub clear_w : (k : ℕ) → k < 3 * period_of B (is_horizontal d) → places_f d.cells w k ≡ zero_f

-- cell k with the first n families in: its count, and its weight
abbrev pub cell_c : Board → Side → List ℕ → ℕ → ℕ → ℕ
cell_c B d c n k = cell_sum ◌+◌ 0 (family_c (places_n d.groups c)) (table_of B (is_horizontal d)) n (long_class B (is_horizontal d) k) (short_class B (is_horizontal d) k)

abbrev pub cell_w : Board → Side → List ℕ → List Float → ℕ → ℕ → Float
cell_w B d c w n k = cell_sum (add binary32) zero_f (family_w (places_n d.groups c) (places_f d.groups w)) (table_of B (is_horizontal d)) n (long_class B (is_horizontal d) k) (short_class B (is_horizontal d) k)

-- the first n families are in the cells, and nothing else changed
pub record SideCells (B : Board) (d : Side) (n : ℕ) (c c' : List ℕ) (w w' : List Float) : Type 0 where
  pub counts : Zone 0 (cell_c B d c n) d.cells (3 * period_of B (is_horizontal d)) c c'
  pub weights : Zone nan (cell_w B d c w n) d.cells (3 * period_of B (is_horizontal d)) w w'

-- all families
abbrev pub SideBuilt : Board → Side → List ℕ → List ℕ → List Float → List Float → Type 0
SideBuilt B d c c' w w' = SideCells B d (period_of B (is_horizontal d)) c c' w w'
