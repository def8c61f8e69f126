-- What the values of one transform are good for. All of it holds for every list, transform, pair of pattern tables and origin.
use Rattle.std.specs.Prelude.{◌≡◌, refl, Bool, ◌&&◌, ◌||◌, List, ◌⊎◌, ltb, eqb, get_or, length}
use Rattle.std.proofs.Math.Path.{sym, ap₂}
use Rattle.std.proofs.Common.{◌∙◌, inl, inr, le_refl, mod-lt, div-lt_iff_lt-mul, arith, lit<, lt-ltb, le-ltb, eq-eqb, ne_eqb}
use Rattle.std.proofs.Math.Bool.{true, false}
use Prim.Native.Nat.{ℕ, ◌+◌, ◌*◌, ◌/◌, ◌%◌, ◌^◌, ◌≤◌, ◌<◌}
use Rattle.std.proofs.Math.Arith.{digits_div, digits_mod}
use Rattle.laws.specs.Tests.{compared, apart}
use Rattle.laws.specs.Words.{fold, above, lex_beats, row_of, col_of, origins, cleared}
use Rattle.laws.specs.GridLaws.{h-below, v_below}
use Rattle.laws.specs.Part.{view}
use Rattle.laws.specs.Residues.{joint-long, joint-short}
use Rattle.board.specs.Hits.{EdgeList, Board, size, hit, hits}
use Rattle.board.specs.Sides.{period_of, side_hits}
use Rattle.board.specs.Domain.{ListOk, BoardOk}
use Rattle.board.proofs.HitsLaws.{side-some}
use Rattle.cells.specs.Listed.{length-listed, get_d-listed, view-listed}
use Rattle.cells.specs.Cells.{width, cell_count}
use Rattle.unit_terms.specs.Values.{one_hit}
use Rattle.room.specs.Room.{cells_at, used}
use Rattle.room.specs.RoomLaws.{cells_in, laid-again, laid-cleared, laid-used, laid_same}
use Rattle.tables.specs.TablesTheorems.{h_cell, v_cell}
use Rattle.units.specs.Units.{unit_at, value_at, side_sum, cell_value, cell_units, values_of, UnitsReady, UnitsBuilt}
use Rattle.units.specs.UnitsLaws.{values-split, value-at, units-few, values-few, sum-by-class}

-- ---- hits and weight in one number, where the weight is less than one hit counts for
-- they are read off it
pub value-reads : (h w : ℕ) → w < one_hit → ((h * one_hit + w) / one_hit ≡ h) × ((h * one_hit + w) % one_hit ≡ w)
value-reads h w few = (digits_div h few, digits_mod h few)

-- THE ORDER OF VALUES IS THE ORDER BY HITS AND THEN BY WEIGHT
pub value-order : (h w : ℕ → ℕ) → ((k : ℕ) → w k < one_hit) → (i j : ℕ) → above (λ k. h k * one_hit + w k) i j ≡ lex_beats h (above w) i j
value-order h w few i j = go (apart (h j) (h i))
  where
    level : h j ≡ h i → (w j < w i) ⊎ (w i ≤ w j) → ltb (h j * one_hit + w j) (h i * one_hit + w i) ≡ (ltb (h j) (h i) || (eqb (h i) (h j) && ltb (w j) (w i)))
    level e (inl l) = lt-ltb (h j * one_hit + w j) (h i * one_hit + w i) (omega arith) ∙ sym (rw (le-ltb (h j) (h i) (omega arith), eq-eqb (h i) (h j) (sym e), lt-ltb (w j) (w i) l))
    level e (inr l) = le-ltb (h j * one_hit + w j) (h i * one_hit + w i) (omega arith) ∙ sym (rw (le-ltb (h j) (h i) (omega arith), eq-eqb (h i) (h j) (sym e), le-ltb (w j) (w i) l))

    go : (h j ≡ h i) ⊎ ((h j < h i) ⊎ (h i < h j)) → ltb (h j * one_hit + w j) (h i * one_hit + w i) ≡ (ltb (h j) (h i) || (eqb (h i) (h j) && ltb (w j) (w i)))
    go (inl e) = level e (compared (w j) (w i))
    go (inr (inl l)) = lt-ltb (h j * one_hit + w j) (h i * one_hit + w i) (omega (arith, few j)) ∙ sym (rw (lt-ltb (h j) (h i) l))
    go (inr (inr l)) = le-ltb (h j * one_hit + w j) (h i * one_hit + w i) (omega (arith, few i)) ∙ sym (rw (le-ltb (h j) (h i) (omega arith), ne_eqb (h i) (h j) (λ e. omega arith)))

-- ---- one cell
module _ (B : Board) (E : EdgeList) (t : ℕ) (s : Bool) (k : ℕ) where
  -- A VALUE IS HITS AND WEIGHT: the cell's count times 2^38, and its units
  pub value-splits : cell_value B E t s k ≡ cell_count B E t s k * one_hit + cell_units B E t s k
  unfolding cell_value cell_units cell_count side_sum side_hits
  value-splits = values-split (value_at E) (unit_at E) (one_hit) (value-at E) _ (size E)

  module _ (list : ListOk E) where
    -- and is below 2^52
    pub value-small : cell_value B E t s k < 2 ^ 52
    unfolding cell_value side_sum
    value-small = values-few E list (size E) _ (le_refl (size E))

    -- its weight is less than one hit counts for
    pub weight-small : cell_units B E t s k ≤ 2 ^ 37
    unfolding cell_units side_sum
    weight-small = units-few E list (size E) _ (le_refl (size E))

-- ---- the table, cell by cell
module _ (B : Board) (E : EdgeList) (t : ℕ) (s : Bool) where
  pub length-values : length (values_of B E t s) ≡ 3 * period_of B s
  unfolding values_of
  length-values = length-listed _ _

  pub value_in : (k : ℕ) → k < 3 * period_of B s → get_or (values_of B E t s) k 0 ≡ cell_value B E t s k
  unfolding values_of
  value_in k h = get_d-listed 0 _ _ k h

-- ---- a placing: its two cells, added, are its hits' values
module _ (B : Board) (E : EdgeList) (t : ℕ) (ok : BoardOk B) (r c : ℕ) where
  -- the value of a cell is that of its side at its class
  class-value : (s : Bool) (a b : ℕ) → b < width B s → cell_value B E t s (a * width B s + b) ≡ side_sum (value_at E) B E t s a b
  unfolding cell_value
  class-value s a b h = ap₂ (side_sum (value_at E) B E t s) (digits_div a h) (digits_mod a h)

  -- THE VALUE OF A PLACING IS ITS TWO CELLS, ADDED
  pub pair-value : cell_value B E t true (h_cell B r c) + cell_value B E t false (v_cell B r c) ≡ fold ◌+◌ 0 (size E) (hit B E t r c) (value_at E)
  pair-value =
      ap₂ ◌+◌
      (class-value true (r % period_of B true) (c % 3) (mod-lt c (lit< tt)))
      (class-value false (r % 3) (c % period_of B false) (mod-lt c (side-some B ok false)))
      ∙ sym (sum-by-class (value_at E) B E t (side-some B ok) r c)

  -- and so its hits and its weight
  pub pair-splits : cell_value B E t true (h_cell B r c) + cell_value B E t false (v_cell B r c) ≡ hits B E t r c * one_hit + fold ◌+◌ 0 (size E) (hit B E t r c) (unit_at E)
  unfolding hits
  pair-splits = pair-value ∙ values-split (value_at E) (unit_at E) (one_hit) (value-at E) (hit B E t r c) (size E)

-- ---- the same by the tables
module _ (B : Board) (E : EdgeList) (t : ℕ) (ok : BoardOk B) where
  -- of an origin's key
  pub key-value : (k : ℕ) → let L = period_of B true in let M = period_of B false in
      fold ◌+◌ 0 (size E) (hit B E t (k / (3 * M)) (k % (3 * M))) (value_at E) ≡ get_or (values_of B E t true) ((origins L M).h_of k) 0 + get_or (values_of B E t false) ((origins L M).v_of k) 0
  key-value k =
      let r = k / (3 * period_of B false) in
      let c = k % (3 * period_of B false) in
      sym (ap₂ ◌+◌ (value_in B E t true (h_cell B r c) (h-below (period_of B true) (side-some B ok true) r c)) (value_in B E t false (v_cell B r c) (v_below (period_of B false) (side-some B ok false) r c)) ∙ pair-value B E t ok r c)

  -- of any pair of cells, at the origin that it names
  module _ (h v : ℕ) (lh : h < 3 * period_of B true) (lv : v < 3 * period_of B false) where
    third : h / 3 < period_of B true
    third = omega arith

    pub pair-origin-value : let L = period_of B true in let M = period_of B false in
        fold ◌+◌ 0 (size E) (hit B E t (row_of L M h v) (col_of M h v)) (value_at E) ≡ get_or (values_of B E t true) h 0 + get_or (values_of B E t false) v 0
    unfolding cell_value
    pair-origin-value =
        let L = period_of B true in
        let M = period_of B false in
        let p = side-some B ok in
        sum-by-class (value_at E) B E t p (row_of L M h v) (col_of M h v)
        ∙ ap₂ ◌+◌
        (ap₂ (side_sum (value_at E) B E t true) (joint-long L (p true) ok.h.free (v / M) (h / 3) third) (joint-short M (p false) ok.v.free (h % 3) (v % M) (mod-lt h (lit< tt))))
        (ap₂ (side_sum (value_at E) B E t false) (joint-short L (p true) ok.h.free (v / M) (h / 3) ((div-lt_iff_lt-mul (p false)).1 lv)) (joint-long M (p false) ok.v.free (h % 3) (v % M) (mod-lt v (p false))))
        ∙ sym (ap₂ ◌+◌ (value_in B E t true h lh) (value_in B E t false v lv))

    -- together they are below 2^52
    pub pair_small : ListOk E → get_or (values_of B E t true) h 0 + get_or (values_of B E t false) v 0 < 2 ^ 52
    pair_small list = rw (← pair-origin-value) (values-few E list (size E) _ (le_refl (size E)))

-- ---- the room after `build_units`: the part of each side is its table
pub read-values : (B : Board) (E : EdgeList) (t : ℕ) (a a' : List ℕ) → UnitsReady B E t a → UnitsBuilt B E t a a' → (s : Bool) → view (cells_at (period_of B) s) (3 * period_of B s) a' ≡ values_of B E t s
unfolding values_of
read-values B E t a a' R D s = view-listed 0 (cells_at (period_of B) s) (3 * period_of B s) a' (cell_value B E t s) (omega (arith, cells_in (period_of B) s, R.room, D.len)) (D.cells s)

-- two rooms that meet the promise are equal
pub built-unique : (B : Board) (E : EdgeList) (t : ℕ) (a d d' : List ℕ) → UnitsBuilt B E t a d → UnitsBuilt B E t a d' → d ≡ d'
built-unique B E t a d d' p q = laid_same _ _ _ _ _ a a d d' p q refl (λ k h. refl)

-- and the used part is the same whatever the room held
pub unit-room-forgets : (B : Board) (E : EdgeList) (t : ℕ) (a a' d d' : List ℕ) → UnitsBuilt B E t a d → UnitsBuilt B E t a' d' → (k : ℕ) → k < used (period_of B) 1 → get_or d k 0 ≡ get_or d' k 0
unit-room-forgets B E t a a' d d' p q k h = laid-used _ _ _ _ _ a a' d d' p q k h

-- ---- from transform to transform: as `tables-again` and `tables-cleared`
pub units-again : (B : Board) (E F : EdgeList) (t u : ℕ) (a₀ a₁ a₂ : List ℕ) → UnitsBuilt B E t a₀ a₁ → UnitsBuilt B F u a₁ a₂ → UnitsBuilt B F u a₀ a₂
units-again B E F t u a₀ a₁ a₂ p q = laid-again _ _ _ _ _ _ _ a₀ a₁ a₂ p q

pub units-cleared : (B : Board) (E : EdgeList) (t : ℕ) (a a' : List ℕ) → UnitsReady B E t a → UnitsBuilt B E t a a' → cleared 0 (used (period_of B) 1) a' ≡ cleared 0 (used (period_of B) 1) a
units-cleared B E t a a' R D = laid-cleared _ _ _ _ _ 0 a a' R.room D
