-- What the parts of `build_units` ask and give: groups of values, runs, families and sides. Values are counted as counts are (`cell_c`, `gain_c`), each edge for its value.
use Rattle.std.specs.Prelude.{◌≡◌, false, List, ℕ, ◌+◌, ◌*◌, ◌^◌, ◌≤◌, ◌<◌, length}
use Rattle.laws.specs.Zone.{Zone}
use Rattle.board.specs.Hits.{EdgeList, Board}
use Rattle.board.specs.Sides.{period_of}
use Rattle.board.specs.Domain.{ListOk, BoardOk}
use Rattle.room.specs.declared.Side.{Side}
use Rattle.room.specs.Room.{PeriodsOk, row_length, is_horizontal, stride_of, across_of}
use Rattle.groups.specs.Fill.{row_sum}
use Rattle.terms.specs.Terms.{places_n}
use Rattle.unit_terms.specs.UnitTerms.{SixValues}
use Rattle.cells.specs.Credit.{gain_c, FamilyPlaces}
use Rattle.tables.specs.Side.{total, cell_c}
use Rattle.tables.specs.Runs.{RunReadyOf, RunCellsOf}
use Rattle.units.specs.Units.{value_at}

-- ---- groups: what they can be filled from
pub record UnitsFillReady (L M : ℕ) (E : EdgeList) (t base : ℕ) (a : List ℕ) : Type 0 where
  pub list : ListOk E
  pub transform : t < 8
  pub periods : PeriodsOk (record { h = L; v = M })
  pub room : base + row_length L M ≤ length a
  pub clear : (k : ℕ) → k < row_length L M → places_n base a k ≡ 0

-- the first n edges are in, and nothing else changed
abbrev pub UnitsFilled : ℕ → ℕ → EdgeList → ℕ → ℕ → ℕ → List ℕ → List ℕ → Type 0
UnitsFilled L M E t base n a a' = Zone 0 (row_sum ◌+◌ 0 (value_at E) L M E t n) base (row_length L M) a a'

-- ---- a run of classes
-- a cell takes what keeps it below 2^64
abbrev pub takes_u : ℕ → ℕ → Type 0
takes_u x y = x + y < 2 ^ 64

-- the places of n classes are there, and each cell has room for its term
abbrev pub RunReadyU : List (List ℕ) → List ℕ → ℕ → ℕ → ℕ → ℕ → List ℕ → Type 0
RunReadyU = RunReadyOf 0 takes_u

-- the first q cells have their term added, and nothing else changed
abbrev pub RunCellsU : List (List ℕ) → List ℕ → ℕ → ℕ → ℕ → ℕ → List ℕ → List ℕ → Type 0
RunCellsU = RunCellsOf 0 ◌+◌

-- a run of n classes credited, three cells each
abbrev pub RunCreditedU : List (List ℕ) → List ℕ → ℕ → ℕ → ℕ → ℕ → List ℕ → List ℕ → Type 0
RunCreditedU terms part n at stride across a a' = RunCellsU terms part at stride across (n * 3) a a'

-- ---- a family: what it can be credited from
pub record FamilyReadyU (B : Board) (d : Side) (f : ℕ) (a : List ℕ) : Type 0 where
  pub places : FamilyPlaces B d f
  pub six : SixValues (d.groups + f * 6) a
  pub room : d.cells + 3 * period_of B (is_horizontal d) ≤ length a
  pub fits : (k : ℕ) → k < 3 * period_of B (is_horizontal d) → takes_u (places_n d.cells a k) (gain_c B (is_horizontal d) f (d.groups + f * 6) a k)

-- every cell of the side has the family's term added, and nothing else changed
abbrev pub FamilyCreditedU : Board → Side → ℕ → List ℕ → List ℕ → Type 0
FamilyCreditedU B d f a a' = Zone 0 (λ k. places_n d.cells a k + gain_c B (is_horizontal d) f (d.groups + f * 6) a k) d.cells (3 * period_of B (is_horizontal d)) a a'

-- ---- a side: accepted tables, the steps between its cells, groups that lie beyond them and are below 2^52 together, and cells that are clear
pub record SideReadyU (B : Board) (d : Side) (a : List ℕ) : Type 0 where
  pub board : BoardOk B
  pub steps : (d.stride ≡ stride_of (is_horizontal d)) × (d.across ≡ across_of (period_of B false) (is_horizontal d))
  pub apart : d.cells + 3 * period_of B (is_horizontal d) ≤ d.groups
  pub room : d.groups + period_of B (is_horizontal d) * 6 ≤ length a
  pub few : total (places_n d.groups a) (period_of B (is_horizontal d)) < 2 ^ 52
  pub clear : (k : ℕ) → k < 3 * period_of B (is_horizontal d) → places_n d.cells a k ≡ 0

-- the first n families are in the cells, and nothing else changed
abbrev pub SideCellsU : Board → Side → ℕ → List ℕ → List ℕ → Type 0
SideCellsU B d n a a' = Zone 0 (cell_c B d a n) d.cells (3 * period_of B (is_horizontal d)) a a'

-- all families of one side credited
abbrev pub SideBuiltU : Board → Side → List ℕ → List ℕ → Type 0
SideBuiltU B d a a' = SideCellsU B d (period_of B (is_horizontal d)) a a'
