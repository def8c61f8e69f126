-- What crediting asks and gives: a run of classes, and a whole family.
use Rattle.std.specs.Prelude.{◌≡◌, ◌⊎◌, Bool, false, List, [], ℕ, ◌+◌, ◌*◌, ◌/◌, ◌%◌, ◌^◌, ◌≤◌, ◌<◌, get_or, length, Float}
use Rattle.std.specs.Float.{nan, binary32}
use Rattle.std.specs.Float.Ieee.{add}
use Rattle.laws.specs.Weights.{Unsigned}
use Rattle.laws.specs.Zone.{Zone}
use Rattle.board.specs.Hits.{Board}
use Rattle.board.specs.Sides.{table_of, period_of}
use Rattle.board.specs.Domain.{BoardOk}
use Rattle.room.specs.declared.Side.{Side}
use Rattle.room.specs.Room.{is_horizontal, stride_of, across_of}
use Rattle.terms.specs.declared.FamilyTerm.{FamilyTerm}
use Rattle.cells.specs.Spread.{Fits, Spread}
use Rattle.terms.specs.Terms.{term_c, term_w, no_term, places_n, places_f, Six}
use Rattle.cells.specs.Cells.{long_class, short_class, pattern_at}

-- ---- terms added at some places
-- a count takes what keeps it below 2^32; a weight takes everything
abbrev pub CountsFit : (ℕ → ℕ) → (ℕ → FamilyTerm) → ℕ → List ℕ → Type 0
CountsFit e T n c = Fits 0 ◌+◌ (λ x y. x + y < 2 ^ 32) e (λ j. (T j).count) n c

abbrev pub WeightsFit : (ℕ → ℕ) → (ℕ → FamilyTerm) → ℕ → List Float → Type 0
WeightsFit e T n w = Fits nan (add binary32) (λ x y. Unit {0}) e (λ j. (T j).weight) n w

-- the j-th place has the j-th term's count added, or its weight
abbrev pub CountsAdded : (ℕ → ℕ) → (ℕ → FamilyTerm) → ℕ → List ℕ → List ℕ → Type 0
CountsAdded e T n c c' = Spread 0 ◌+◌ e (λ j. (T j).count) n c c'

abbrev pub WeightsAdded : (ℕ → ℕ) → (ℕ → FamilyTerm) → ℕ → List Float → List Float → Type 0
WeightsAdded e T n w w' = Spread nan (add binary32) e (λ j. (T j).weight) n w w'

-- places one step apart, and the j-th term of a row
abbrev pub stepped : ℕ → ℕ → ℕ → ℕ
stepped k step j = k + j * step

abbrev pub term_in : List FamilyTerm → ℕ → FamilyTerm
term_in row j = get_or row j no_term

-- ---- a run of classes: the j-th cell is short class j mod 3 of class j / 3
unfoldable pub run_place : ℕ → ℕ → ℕ → ℕ → ℕ
run_place at stride across j = at + (j / 3 * stride + j % 3 * across)

-- class i reads pattern i of the part: the term of the j-th cell, from a table with a row for each pattern (d past its end)
abbrev pub entry : {X : Type 0} → X → List (List X) → ℕ → ℕ → X
entry d terms p s = get_or (get_or terms p []) s d

unfoldable pub run_term : {X : Type 0} → X → List (List X) → List ℕ → ℕ → X
run_term d terms part j = entry d terms (get_or part (j / 3) 0) (j % 3)

-- the patterns of n classes are there, and each cell stands at another place
pub record RunPlaces (part : List ℕ) (n at stride across : ℕ) : Type 0 where
  pub patterns : n ≤ length part
  pub small : (i : ℕ) → i < n → get_or part i 0 < 8
  pub apart : (i j : ℕ) → i < n * 3 → j < n * 3 → run_place at stride across i ≡ run_place at stride across j → i ≡ j

-- how a side's cells stand: the three cells of a class side by side (horizontal), or the cells of neighbouring classes (vertical)
abbrev pub Standing : ℕ → ℕ → Type 0
Standing stride across = ((stride ≡ 3) × (across ≡ 1)) ⊎ (stride ≡ 1)

-- the places are in the room, and each count has room for its term
pub record RunReady (terms : List (List FamilyTerm)) (part : List ℕ) (n at stride across : ℕ) (c : List ℕ) (w : List Float) : Type 0 where
  pub standing : Standing stride across
  pub places : RunPlaces part n at stride across
  pub inside : (j : ℕ) → j < n * 3 → (run_place at stride across j < length c) × (run_place at stride across j < length w)
  pub fits : (j : ℕ) → j < n * 3 → get_or c (run_place at stride across j) 0 + (run_term no_term terms part j).count < 2 ^ 32

-- the first q cells of the run have their count added, their weight added, and nothing else changed
abbrev pub CountsIn : List (List FamilyTerm) → List ℕ → ℕ → ℕ → ℕ → ℕ → List ℕ → List ℕ → Type 0
CountsIn terms part at stride across q c c' = Spread 0 ◌+◌ (run_place at stride across) (λ j. (run_term no_term terms part j).count) q c c'

abbrev pub WeightsIn : List (List FamilyTerm) → List ℕ → ℕ → ℕ → ℕ → ℕ → List Float → List Float → Type 0
WeightsIn terms part at stride across q w w' = Spread nan (add binary32) (run_place at stride across) (λ j. (run_term no_term terms part j).weight) q w w'

-- both
pub record RunCells (terms : List (List FamilyTerm)) (part : List ℕ) (at stride across q : ℕ) (c c' : List ℕ) (w w' : List Float) : Type 0 where
  pub counts : CountsIn terms part at stride across q c c'
  pub weights : WeightsIn terms part at stride across q w w'

-- all cells of n classes
abbrev pub RunCredited : List (List FamilyTerm) → List ℕ → ℕ → ℕ → ℕ → ℕ → List ℕ → List ℕ → List Float → List Float → Type 0
RunCredited terms part n at stride across c c' w w' = RunCells terms part at stride across (n * 3) c c' w w'

-- four neighbouring classes, short class by short class: the j-th cell is short class j / 4 of the class j mod 4
unfoldable pub four_place : ℕ → ℕ → ℕ → ℕ
four_place k across j = k + (j % 4 + j / 4 * across)

unfoldable pub four_term : List (List FamilyTerm) → ℕ → FamilyTerm
four_term rows j = entry no_term rows (j % 4) (j / 4)

-- ---- a family
-- the pattern that cell k reads for the family f
abbrev pub cell_pattern : Board → Bool → ℕ → ℕ → ℕ
cell_pattern B s f k = pattern_at (table_of B s) (long_class B s k) f

-- what the family whose six groups stand from `from` on adds to cell k: to its count and to its weight
abbrev pub gain_c : Board → Bool → ℕ → ℕ → List ℕ → ℕ → ℕ
gain_c B s f from c k = term_c 6 (places_n from c) (cell_pattern B s f k) (short_class B s k)

abbrev pub gain_w : Board → Bool → ℕ → ℕ → List ℕ → List Float → ℕ → Float
gain_w B s f from c w k = term_w 6 (places_n from c) (places_f from w) (cell_pattern B s f k) (short_class B s k)

-- the steps are the side's, and the family is one of it
pub record FamilyPlaces (B : Board) (d : Side) (f : ℕ) : Type 0 where
  pub board : BoardOk B
  pub steps : (d.stride ≡ stride_of (is_horizontal d)) × (d.across ≡ across_of (period_of B false) (is_horizontal d))
  pub in_table : f < period_of B (is_horizontal d)

-- a family of the side d: its six groups and the side's cells are in the room, each count has room for its term, and no weight of the cells has a minus sign (so that adding +0
-- changes no bit of it)
pub record FamilyReady (B : Board) (d : Side) (f : ℕ) (c : List ℕ) (w : List Float) : Type 0 where
  pub places : FamilyPlaces B d f
  pub six : Six (d.groups + f * 6) c w
  pub room : (d.cells + 3 * period_of B (is_horizontal d) ≤ length c) × (d.cells + 3 * period_of B (is_horizontal d) ≤ length w)
  pub fits : (k : ℕ) → k < 3 * period_of B (is_horizontal d) → places_n d.cells c k + gain_c B (is_horizontal d) f (d.groups + f * 6) c k < 2 ^ 32
  pub plain : (k : ℕ) → k < 3 * period_of B (is_horizontal d) → Unsigned (places_f d.cells w k)

-- every cell of the side has the family's term added, and nothing else changed
pub record FamilyCredited (B : Board) (d : Side) (f : ℕ) (c c' : List ℕ) (w w' : List Float) : Type 0 where
  pub counts : Zone 0 (λ k. places_n d.cells c k + gain_c B (is_horizontal d) f (d.groups + f * 6) c k) d.cells (3 * period_of B (is_horizontal d)) c c'
  pub weights : Zone nan (λ k. add binary32 (places_f d.cells w k) (gain_w B (is_horizontal d) f (d.groups + f * 6) c w k)) d.cells (3 * period_of B (is_horizontal d)) w w'
