-- What the tables of one transform are good for. All of it holds for every list, transform, pair of accepted pattern tables and origin.
use Rattle.std.specs.Prelude.{◌≡◌, refl, Bool, ◌&&◌, List, T, get_or, length, Float}
use Rattle.std.proofs.Math.Path.{sym, ap₂}
use Rattle.std.proofs.Common.{◌∙◌, mod-lt, div-lt_iff_lt-mul, lit<}
use Rattle.std.proofs.Math.Bool.{true, false}
use Prim.Native.Nat.{ℕ, ◌+◌, ◌*◌, ◌/◌, ◌%◌, ◌≤◌, ◌<◌}
use native.Mathlib.Omega.{arith}
use Rattle.std.proofs.Math.Arith.{digits_div, digits_mod}
use Rattle.std.specs.Float.Ieee.{nan}
use Rattle.laws.specs.Words.{row_of, col_of, origins, zero_f, Weight, cleared}
use Rattle.laws.specs.GridLaws.{h-below, v_below}
use Rattle.laws.specs.Part.{view}
use Rattle.laws.specs.Weights.{Upto, weightlike}
use Rattle.laws.specs.WeightLaws.{Bounds, by-counts, upto-weightlike}
use Rattle.board.specs.Hits.{EdgeList, Board, size, look, horizontal, hit, hits}
use Rattle.board.specs.Sides.{is, table_of, period_of, side_hits}
use Rattle.board.specs.Domain.{ListOk, BoardOk}
use Rattle.board.proofs.HitsLaws.{side-some, hits-by-class, pair-hits}
use Rattle.likelihood.specs.SumLaws.{counts-apart}
use Rattle.cells.specs.Listed.{length-listed, get_d-listed, view-listed}
use Rattle.groups.specs.Groups.{group_count, group_weight, confidence_at}
use Rattle.cells.specs.Cells.{width, long_class, short_class, cell_count, cell_weight, counts_of, weights_of}
use Rattle.tables.specs.CellsLaws.{cell-count, cell-bounded, total-edges, group-bounded}
use Rattle.room.specs.Room.{cells_at, used}
use Rattle.tables.specs.Built.{TablesReady, TablesBuilt}
use Rattle.room.specs.RoomLaws.{cells_in, laid-again, laid-cleared, laid-used, laid_same}

-- the horizontal and the vertical cell of the origin (r, c)
abbrev pub h_cell : Board → ℕ → ℕ → ℕ
h_cell B r c = r % period_of B true * 3 + c % 3

abbrev pub v_cell : Board → ℕ → ℕ → ℕ
v_cell B r c = r % 3 * period_of B false + c % period_of B false

-- ---- the tables, cell by cell
module _ (B : Board) (E : EdgeList) (t : ℕ) (s : Bool) where
  pub length-counts : length (counts_of B E t s) ≡ 3 * period_of B s
  unfolding counts_of
  length-counts = length-listed _ _

  pub length-weights : length (weights_of B E t s) ≡ 3 * period_of B s
  unfolding weights_of
  length-weights = length-listed _ _

  pub count_at : (k : ℕ) → k < 3 * period_of B s → get_or (counts_of B E t s) k 0 ≡ cell_count B E t s k
  unfolding counts_of
  count_at k h = get_d-listed 0 _ _ k h

  pub weight-at : (k : ℕ) → k < 3 * period_of B s → get_or (weights_of B E t s) k nan ≡ cell_weight B E t s k
  unfolding weights_of
  weight-at k h = get_d-listed nan _ _ k h

-- ---- counts
module _ (B : Board) (E : EdgeList) (t : ℕ) (ok : BoardOk B) where
  -- a cell's count is the hits of its side at its class
  class-count : (s : Bool) (a b : ℕ) → b < width B s → a * width B s + b < 3 * period_of B s → get_or (counts_of B E t s) (a * width B s + b) 0 ≡ side_hits B E t s a b
  unfolding cell_count
  class-count s a b h l = count_at B E t s (a * width B s + b) l ∙ ap₂ (side_hits B E t s) (digits_div a h) (digits_mod a h)

  -- and of any pair of cells, at the origin that it names
  pub pair-origin-hits : (h v : ℕ) → h < 3 * period_of B true → v < 3 * period_of B false → let L = period_of B true in let M = period_of B false in
      hits B E t (row_of L M h v) (col_of M h v) ≡ get_or (counts_of B E t true) h 0 + get_or (counts_of B E t false) v 0
  unfolding cell_count
  pair-origin-hits h v lh lv =
      pair-hits B E t ok (h / 3) (h % 3) (v / period_of B false) (v % period_of B false) (third h lh) (mod-lt h (lit< tt)) ((div-lt_iff_lt-mul (side-some B ok false)).1 lv) (mod-lt v (side-some B ok false))
      ∙ sym (ap₂ ◌+◌ (count_at B E t true h lh) (count_at B E t false v lv))
    where
      third : (h : ℕ) → h < 3 * period_of B true → h / 3 < period_of B true
      third h l = omega arith

-- THE HITS OF A PLACING ARE ITS TWO CELLS, ADDED: for every pair of accepted tables, every list, transform and origin
pub cell-pair-hits : (B : Board) (E : EdgeList) (t : ℕ) → BoardOk B → (r c : ℕ) → hits B E t r c ≡ get_or (counts_of B E t true) (h_cell B r c) 0 + get_or (counts_of B E t false) (v_cell B r c) 0
cell-pair-hits B E t ok r c =
    hits-by-class B E t (side-some B ok) r c
    ∙ sym (ap₂ ◌+◌
    (class-count B E t ok true (r % period_of B true) (c % 3) (mod-lt c (lit< tt)) (h-below (period_of B true) (side-some B ok true) r c))
    (class-count B E t ok false (r % 3) (c % period_of B false) (mod-lt c (side-some B ok false)) (v_below (period_of B false) (side-some B ok false) r c)))

-- the same by an origin's key
pub key-hits : (B : Board) (E : EdgeList) (t : ℕ) → BoardOk B → (k : ℕ) → let L = period_of B true in let M = period_of B false in
    hits B E t (k / (3 * M)) (k % (3 * M)) ≡ get_or (counts_of B E t true) ((origins L M).h_of k) 0 + get_or (counts_of B E t false) ((origins L M).v_of k) 0
key-hits B E t ok k = cell-pair-hits B E t ok (k / (3 * period_of B false)) (k % (3 * period_of B false))

-- a horizontal count and a vertical one are together at most the list's length
module _ (B : Board) (E : EdgeList) (t : ℕ) where
  -- no edge lies on both sides
  apart : (b x y : Bool) → ((is true b && x) && (is false b && y)) ≡ false
  apart true true y = refl
  apart true false y = refl
  apart false x y = refl

  pub counts-few : (h v : ℕ) → h < 3 * period_of B true → v < 3 * period_of B false → get_or (counts_of B E t true) h 0 + get_or (counts_of B E t false) v 0 ≤ size E
  unfolding cell_count side_hits
  counts-few h v lh lv =
      rw (count_at B E t true h lh, count_at B E t false v lv)
      (counts-apart _ _ (size E) (λ i l. apart (horizontal (look E t i)) (hit B E t (h / 3) (h % 3) i) (hit B E t (v / period_of B false) (v % period_of B false) i)))

-- ---- weights
module _ (B : Board) (E : EdgeList) (t : ℕ) (board : BoardOk B) (list : ListOk E) (s : Bool) (k : ℕ) (h : k < 3 * period_of B s) where
  -- every weight is bounded as the confidences are, in as many as its count
  pub weights-bounded : (U W : Float → ℕ → Type 0) → Bounds U W → ((i : ℕ) → i < size E → W (confidence_at E i) 1) → U (get_or (weights_of B E t s) k nan) (get_or (counts_of B E t s) k 0)
  unfolding cell_weight
  weights-bounded U W K each =
      rw (weight-at B E t s k h, count_at B E t s k h, ← (cell-count B E t (side-some B board) list.bit s k))
      (cell-bounded U W K (group_count B E t s) (group_weight B E t s) (period_of B s)
      (λ j l. K.again (group_weight B E t s j) (group_count B E t s j) (group-bounded U W K B E t (omega (arith, list.few)) each s j))
      (omega (arith, total-edges B E t s (period_of B s), list.few))
      (table_of B s) (long_class B s k) (short_class B s k))

  -- so it is finite, has no minus sign and is at most its count
  pub weights-upto : Upto (get_or (weights_of B E t s) k nan) (get_or (counts_of B E t s) k 0)
  weights-upto = weights-bounded Upto Weight by-counts list.confidence

  pub weights-weightlike : T (weightlike (get_or (weights_of B E t s) k nan))
  weights-weightlike = upto-weightlike (get_or (weights_of B E t s) k nan) (get_or (counts_of B E t s) k 0) weights-upto

-- ---- the room after `build_tables`
module _ (B : Board) (E : EdgeList) (t : ℕ) (c c' : List ℕ) (w w' : List Float) (R : TablesReady B E t c w) (D : TablesBuilt B E t c c' w w') where
  -- the part of each side is its table
  pub read-counts : (s : Bool) → view (cells_at (period_of B) s) (3 * period_of B s) c' ≡ counts_of B E t s
  unfolding counts_of
  read-counts s = view-listed 0 (cells_at (period_of B) s) (3 * period_of B s) c' (cell_count B E t s) (omega (arith, cells_in (period_of B) s, R.room.0, D.counts.len)) (D.counts.cells s)

  pub read-weights : (s : Bool) → view (cells_at (period_of B) s) (3 * period_of B s) w' ≡ weights_of B E t s
  unfolding weights_of
  read-weights s = view-listed nan (cells_at (period_of B) s) (3 * period_of B s) w' (cell_weight B E t s) (omega (arith, cells_in (period_of B) s, R.room.1, D.weights.len)) (D.weights.cells s)

-- two rooms that meet the promise are equal
pub rooms-equal : (B : Board) (E : EdgeList) (t : ℕ) (c d d' : List ℕ) (w x x' : List Float) → TablesBuilt B E t c d w x → TablesBuilt B E t c d' w x' → (d ≡ d') × (x ≡ x')
rooms-equal B E t c d d' w x x' p q =
    (laid_same _ _ _ _ _ c c d d' p.counts q.counts refl (λ k h. refl), laid_same _ _ _ _ _ w w x x' p.weights q.weights refl (λ k h. refl))

-- and the used part is the same whatever the room held
pub room-forgets : (B : Board) (E : EdgeList) (t : ℕ) (c c' d d' : List ℕ) (w w' x x' : List Float) → TablesBuilt B E t c d w x → TablesBuilt B E t c' d' w' x' → (k : ℕ) → k < used (period_of B) 1
    → (get_or d k 0 ≡ get_or d' k 0) × (get_or x k nan ≡ get_or x' k nan)
room-forgets B E t c c' d d' w w' x x' p q k h = (laid-used _ _ _ _ _ c c' d d' p.counts q.counts k h, laid-used _ _ _ _ _ w w' x x' p.weights q.weights k h)

-- ---- from transform to transform
-- built over what an earlier transform left, the tables are those of the later one, and only the surplus is older
pub tables-again : (B : Board) (E F : EdgeList) (t u : ℕ) (c₀ c₁ c₂ : List ℕ) (w₀ w₁ w₂ : List Float) → TablesBuilt B E t c₀ c₁ w₀ w₁ → TablesBuilt B F u c₁ c₂ w₁ w₂ → TablesBuilt B F u c₀ c₂ w₀ w₂
tables-again B E F t u c₀ c₁ c₂ w₀ w₁ w₂ p q = record {
  counts = laid-again _ _ _ _ _ _ _ c₀ c₁ c₂ p.counts q.counts;
  weights = laid-again _ _ _ _ _ _ _ w₀ w₁ w₂ p.weights q.weights;
}

-- and once the used part is cleared, nothing is left of them
pub tables-cleared : (B : Board) (E : EdgeList) (t : ℕ) (c c' : List ℕ) (w w' : List Float) → TablesReady B E t c w → TablesBuilt B E t c c' w w'
    → (cleared 0 (used (period_of B) 1) c' ≡ cleared 0 (used (period_of B) 1) c) × (cleared zero_f (used (period_of B) 1) w' ≡ cleared zero_f (used (period_of B) 1) w)
tables-cleared B E t c c' w w' R D = (laid-cleared _ _ _ _ _ 0 c c' R.room.0 D.counts, laid-cleared _ _ _ _ _ zero_f w w' R.room.1 D.weights)
