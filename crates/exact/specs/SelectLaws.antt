-- Laws of the exact selection on one list: its values are as the fold asks, the room after each transform, and the scan one transform further.
use Rattle.std.specs.Prelude.{◌≡◌, Bool, Float, Err, Some}
use Rattle.std.proofs.Math.Path.{refl, sym, ap, ap₂, subst}
use Rattle.std.proofs.Common.{◌∙◌, le_refl}
use Rattle.std.proofs.Math.Bool.{true, false, cond}
use mathlib.Core.List.{List}
use Prim.Native.Nat.{ℕ, zero, suc, ◌+◌, ◌*◌, ◌/◌, ◌%◌, ◌^◌, ◌≤◌, ◌<◌}
use Rattle.std.proofs.Math.Numerals.{add-one}
use native.Mathlib.Omega.{arith}
use Rattle.std.proofs.Math.ListN.{get_or, length}
use Rattle.std.specs.Float.{nan}
use borrow.Author.Tests.{ne_eqb}
use Rattle.laws.specs.Words.{fold, all, Weight, origins}
use Rattle.laws.specs.Fold.{fold-zero, fold-hit}
use Rattle.laws.specs.Part.{view}
use Rattle.laws.specs.Cleared.{SameBeyond}
use Rattle.refusals.specs.Numbers.{numbered}
use Rattle.refusals.specs.Numbers as why
use Rattle.board.specs.Hits.{EdgeList, Board, size, hit, hits}
use Rattle.board.specs.Sides.{period_of}
use Rattle.board.specs.Domain.{ListOk, BoardOk}
use Rattle.board.proofs.HitsLaws.{hits-le}
use Rattle.room.specs.Room.{used}
use Rattle.cells.specs.Cells.{cell_count}
use Rattle.unit_terms.specs.Values.{unit_of, one_hit, value_of}
use Rattle.unit_terms.specs.ValuesLaws.{unit-small, value-is}
use Rattle.units.specs.Units.{unit_at, cell_units, values_of, UnitsReady, UnitsBuilt}
use Rattle.units.specs.UnitsLaws.{units-few}
use Rattle.units.specs.UnitsTheorems.{value-splits, weight-small, length-values, value_in, pair-splits, read-values, built-unique, units-again}
use Rattle.tables.specs.TablesTheorems.{count_at, key-hits, counts-few}
use Rattle.best.specs.CellTables.{Period}
use Rattle.grid.specs.BoardGrid.{period-h, period-v, grid}
use Rattle.values.specs.Values.{hits_of, weight_of, v_at, n_at}
use Rattle.exact_scan.specs.Exact.{ValueTables, value_tables, ValuesOk, empty_exact, fold_exact, exact_scanned, finished_one, finished_by, finished, SoundKept, SoundExact}
use Rattle.exact_scan.specs.FirstLaws.{exact-count, First, KeptFirst, kept-first, value-hits, hits_by, value_by, key_of}
use Rattle.exact_scan.specs.declared.kept.ExactCandidate.{ExactCandidate}
use Rattle.exact_scan.specs.Kinds.{ExactKept}
use Rattle.exact_scan.specs.declared.kept.ExactScan.{ExactScan}
use Rattle.exact_scan.specs.Kinds.{ExactSelection}
use Rattle.exact.specs.Select.{units_to, no_units, UnitsToReady, value_tables_of, built_at, exact_scan_of, exact_selection, ExactSelectReady, ValueRoom, values_to, ExactDone}

-- ---- the unit sum
-- the weight of an edge's value is its units
pub value-weight : (x : Float) → Weight x 1 → weight_of (value_of x) ≡ unit_of x
value-weight x w = omega (arith, value-is x, unit-small x w)

module _ (cs : List Float) where
  pub units-none : units_to cs 0 ≡ 0
  unfolding units_to
  units-none = fold-zero ◌+◌ 0 all (λ i. unit_of (get_or cs i nan))

  -- one confidence more, by the weight of its value
  pub units-more : (n s : ℕ) → Weight (get_or cs n nan) 1 → s ≡ units_to cs n → s + weight_of (value_of (get_or cs n nan)) ≡ units_to cs (n + 1)
  unfolding units_to
  units-more n s w e = ap₂ ◌+◌ e (value-weight (get_or cs n nan) w) ∙ sym (fold-hit ◌+◌ 0 all (λ i. unit_of (get_or cs i nan)) n refl)

  pub units_small : UnitsToReady cs → (n : ℕ) → n ≤ length cs → units_to cs n ≤ n * 2 ^ 24
  unfolding units_to fold
  units_small R zero l = omega arith
  units_small R (suc n) l = omega (arith, units_small R n (omega arith), unit-small (get_or cs n nan) (R.confidence n (omega arith)))

pub list-units : (E : EdgeList) → ListOk E → UnitsToReady E.confidences
list-units E list = record { few = omega (arith, list.few, list.confidences); confidence = λ i l. list.confidence i (omega (arith, list.confidences)) }

-- ---- the values of a transform, by cell and by placing
module _ (B : Board) (E : EdgeList) (t : ℕ) (board : BoardOk B) (list : ListOk E) where
  abbrev L : ℕ
  L = period_of B true

  abbrev M : ℕ
  M = period_of B false

  -- a cell's hits and its weight, off its value
  hits-in : (s : Bool) (k : ℕ) → k < 3 * period_of B s → n_at (values_of B E t s) k ≡ cell_count B E t s k
  hits-in s k h = omega (arith, value_in B E t s k h, value-splits B E t s k, weight-small B E t s k list)

  weight-in : (s : Bool) (k : ℕ) → k < 3 * period_of B s → weight_of (v_at (values_of B E t s) k) ≡ cell_units B E t s k
  weight-in s k h = omega (arith, value_in B E t s k h, value-splits B E t s k, weight-small B E t s k list)

  abbrev row : ℕ → ℕ
  row k = k / (3 * M)

  abbrev col : ℕ → ℕ
  col k = k % (3 * M)

  -- the weight of the origin with the key k, edge by edge
  abbrev weight : ℕ → ℕ
  weight k = fold ◌+◌ 0 (size E) (hit B E t (row k) (col k)) (unit_at E)

  h-cell : (k : ℕ) → (origins L M).h_of k < 3 * L
  h-cell k = (grid L M (period-h B board) (period-v B board)).h-in k

  v-cell : (k : ℕ) → (origins L M).v_of k < 3 * M
  v-cell k = (grid L M (period-h B board) (period-v B board)).v-in k

  -- the value of an origin is its hits and its weight
  pub origin-value : (k : ℕ) → value_by L M (value_tables_of B E t) k ≡ hits B E t (row k) (col k) * one_hit + weight k
  unfolding value_tables_of
  origin-value k = ap₂ ◌+◌ (value_in B E t true ((origins L M).h_of k) (h-cell k)) (value_in B E t false ((origins L M).v_of k) (v-cell k)) ∙ pair-splits B E t board (row k) (col k)

  pub weight-few : (k : ℕ) → weight k ≤ 2 ^ 37
  weight-few k = units-few E list (size E) (hit B E t (row k) (col k)) (le_refl (size E))

  -- its hits are those of its two cells
  pub origin-hits : (k : ℕ) → hits_by L M (value_tables_of B E t) k ≡ hits B E t (row k) (col k)
  unfolding value_tables_of
  origin-hits k =
      ap₂ ◌+◌ (hits-in true ((origins L M).h_of k) (h-cell k) ∙ sym (count_at B E t true ((origins L M).h_of k) (h-cell k))) (hits-in false ((origins L M).v_of k) (v-cell k) ∙ sym (count_at B E t false ((origins L M).v_of k) (v-cell k)))
      ∙ sym (key-hits B E t board k)

  -- so the weights of two cells are together less than a hit
  adds-at : (x y n w : ℕ) → x + y ≡ n * one_hit + w → hits_of x + hits_of y ≡ n → w ≤ 2 ^ 37 → weight_of x + weight_of y < one_hit
  adds-at x y n w e h l = omega arith

  -- the tables are as the fold asks
  pub tables-ok : ValuesOk L M (value_tables_of B E t)
  unfolding value_tables_of
  tables-ok = record {
    hcells = length-values B E t true;
    vcells = length-values B E t false;
    adds = λ i j li lj. adds-cells i j li lj;
    bounded = λ i j li lj. omega (arith, hits-in true i li, hits-in false j lj, count_at B E t true i li, count_at B E t false j lj, counts-few B E t i j li lj, list.few);
  }
    where
      adds-cells : (i j : ℕ) → i < 3 * L → j < 3 * M → weight_of (v_at (values_of B E t true) i) + weight_of (v_at (values_of B E t false) j) < one_hit
      adds-cells i j li lj =
          let g = grid L M (period-h B board) (period-v B board) in
          let k = (origins L M).key i j in
          let d = adds-at (v_at (values_of B E t true) ((origins L M).h_of k)) (v_at (values_of B E t false) ((origins L M).v_of k)) (hits B E t (row k) (col k)) (weight k) (origin-value k) (origin-hits k) (weight-few k) in
          subst (λ (x : ℕ). weight_of (v_at (values_of B E t true) x) + weight_of (v_at (values_of B E t false) j) < one_hit) (g.h_key i j li lj)
          (subst (λ (y : ℕ). weight_of (v_at (values_of B E t true) ((origins L M).h_of k)) + weight_of (v_at (values_of B E t false) y) < one_hit) (g.v_key i j li lj) d)

-- ---- the two tables in a room: horizontal cells, then vertical cells
unfoldable pub room_values : ℕ → ℕ → List ℕ → ValueTables
room_values L M a = value_tables (view 0 (3 * L) a) (view (3 * L) (3 * M) a)

-- a room whose cells can be folded into the scan: both periods in range, and all cells there
pub record ValueRoomReady (L M : ℕ) (a : List ℕ) : Type 0 where
  pub h : Period L
  pub v : Period M
  pub room : 3 * L + 3 * M ≤ length a
  pub tables : ValuesOk L M (room_values L M a)

-- the tables that were built are where they are read
module _ (B : Board) (E : EdgeList) (t : ℕ) (a a' : List ℕ) (ready : UnitsReady B E t a) (b : UnitsBuilt B E t a a') where
  pub built-values : room_values (period_of B true) (period_of B false) a' ≡ value_tables_of B E t
  unfolding room_values value_tables_of
  built-values = let h = read-values B E t a a' ready b true in let v = read-values B E t a a' ready b false in λ i. value_tables (h i) (v i)

  pub value-room-ready : ValueRoomReady (period_of B true) (period_of B false) a'
  value-room-ready = record {
    h = period-h B ready.board;
    v = period-v B ready.board;
    room = omega (arith, ready.room, b.len);
    tables = subst (λ (X : ValueTables). ValuesOk (period_of B true) (period_of B false) X) (sym built-values) (tables-ok B E t ready.board ready.list);
  }

module _ (B : Board) (E : EdgeList) (ts : List ℕ) (a : List ℕ) (R : ExactSelectReady B E ts a) where
  -- a room that was left by some transforms is as long as it was, and its surplus is what it was
  pub value-room-beyond : (n : ℕ) (a' : List ℕ) → ValueRoom B E ts n a a' → SameBeyond 0 (used (period_of B) 1) a a'
  unfolding ValueRoom
  value-room-beyond zero a' d = record { len = ap length d; same = λ k h. ap (λ (l : List ℕ). get_or l k 0) d }
  value-room-beyond (suc p) a' d = record { len = d.len; same = λ k h. d.surplus k h }

  -- what the next transform's values ask
  pub value-rooms-ready : (n : ℕ) (a' : List ℕ) → ValueRoom B E ts n a a' → n < length ts → UnitsReady B E (built_at ts n) a'
  value-rooms-ready n a' d h = record { list = R.list; board = R.board; transform = R.small n h; room = omega (arith, R.room, (value-room-beyond n a' d).len) }

  -- built once more, in the room that was lent
  pub value-rooms-more : (n : ℕ) (a' a'' : List ℕ) → ValueRoom B E ts n a a' → UnitsBuilt B E (built_at ts n) a' a'' → ValueRoom B E ts (n + 1) a a''
  unfolding ValueRoom
  value-rooms-more n a' a'' d b = rw add-one (go n d b)
    where
      go : (m : ℕ) → ValueRoom B E ts m a a' → UnitsBuilt B E (built_at ts n) a' a'' → UnitsBuilt B E (built_at ts n) a a''
      go zero e u = subst (λ (x : List ℕ). UnitsBuilt B E (built_at ts n) x a'') e u
      go (suc p) e u = units-again B E E (built_at ts p) (built_at ts n) a a' a'' e u

-- ---- the scan
-- what a scan of the first n transforms did: its record is the definition's, and the room holds the last one's values
pub record ExactScanDone (B : Board) (E : EdgeList) (ts : List ℕ) (n : ℕ) (a a' : List ℕ) (r : ExactScan) : Type 0 where
  pub answer : r ≡ exact_scan_of B E ts n
  pub room : ValueRoom B E ts n a a'

module _ (B : Board) (E : EdgeList) (ts : List ℕ) (a : List ℕ) where
  pub scan-none : ExactScanDone B E ts 0 a a empty_exact
  unfolding exact_scan_of exact_scanned ValueRoom
  scan-none = record { answer = refl; room = refl }

  pub scan-count : (n : ℕ) (a' : List ℕ) (r : ExactScan) → ExactScanDone B E ts n a a' r → r.positions.count ≡ n
  unfolding exact_scan_of
  scan-count n a' r d = ap (λ (s : ExactScan). s.positions.count) d.answer ∙ exact-count (period_of B true) (period_of B false) (λ p. get_or ts p 0) (λ p. value_tables_of B E (built_at ts p)) n

  further : (n : ℕ) → fold_exact (period_of B true) (period_of B false) (get_or ts n 0) (value_tables_of B E (built_at ts n)) (exact_scan_of B E ts n) ≡ exact_scan_of B E ts (n + 1)
  unfolding exact_scan_of exact_scanned
  further n = rw (add-one n)

  pub scan-more : (R : ExactSelectReady B E ts a) (n : ℕ) (a' a'' : List ℕ) (r r' : ExactScan) → n < length ts → ExactScanDone B E ts n a a' r → UnitsBuilt B E (built_at ts n) a' a''
      → r' ≡ fold_exact (period_of B true) (period_of B false) (get_or ts n 0) (room_values (period_of B true) (period_of B false) a'') r → ExactScanDone B E ts (n + 1) a a'' r'
  scan-more R n a' a'' r r' h d b e = record {
    answer =
        e
        ∙ ap₂ (λ (X : ValueTables) (x : ExactScan). fold_exact (period_of B true) (period_of B false) (get_or ts n 0) X x) (built-values B E (built_at ts n) a' a'' (value-rooms-ready B E ts a R n a' d.room h) b) d.answer
        ∙ further n;
    room = value-rooms-more B E ts a R n a' a'' d.room b;
  }

-- ---- the kept placing, of all list positions
module _ (B : Board) (E : EdgeList) (ts : List ℕ) (board : BoardOk B) (list : ListOk E) (some : 0 < length ts) where
  -- the tables of list position p
  abbrev pub tab : ℕ → ValueTables
  tab p = value_tables_of B E (built_at ts p)

  -- one is kept of all positions
  pub one_kept : KeptFirst (period_of B true) (period_of B false) (λ p. get_or ts p 0) tab (period-h B board) (period-v B board) (length ts)
  one_kept = go (length ts) some
    where
      go : (n : ℕ) → 0 < n → KeptFirst (period_of B true) (period_of B false) (λ p. get_or ts p 0) tab (period-h B board) (period-v B board) n
      go zero l = absurd (omega arith)
      go (suc n) l = kept-first (period_of B true) (period_of B false) (λ p. get_or ts p 0) tab (period-h B board) (period-v B board) n (λ i m. tables-ok B E (built_at ts i) board list)

  -- which it is
  abbrev pub kept : ExactCandidate
  kept = one_kept.one

  pub kept-is : (exact_scan_of B E ts (length ts)).best ≡ Some kept
  unfolding exact_scan_of
  kept-is = one_kept.kept

  pub scan-first : First (period_of B true) (period_of B false) (λ p. get_or ts p 0) tab (length ts) kept
  scan-first = one_kept.first

  -- its hits, by its value
  pub kept-hits : let k = key_of (period_of B false) kept in hits_of kept.value ≡ hits B E (built_at ts kept.placing.listed) (k / (3 * period_of B false)) (k % (3 * period_of B false))
  kept-hits =
      let t = built_at ts kept.placing.listed in
      let k = key_of (period_of B false) kept in
      sym (ap hits_of scan-first.own.at) ∙ value-hits (period_of B true) (period_of B false) (period-h B board) (period-v B board) (value_tables_of B E t) (tables-ok B E t board list) k ∙ origin-hits B E t board list k

  -- as many positions as were listed
  pub kept-count : (exact_scan_of B E ts (length ts)).positions.count ≡ length ts
  unfolding exact_scan_of
  kept-count = exact-count (period_of B true) (period_of B false) (λ p. get_or ts p 0) tab (length ts)

  -- what the selection comes to, by what is kept
  pub selection-is : (limit : Float) → exact_selection B E ts limit ≡ cond (no_units E) (Err (numbered why.no_confidence)) (finished_one (size E) limit (exact_scan_of B E ts (length ts)).positions kept)
  unfolding exact_selection finished
  selection-is limit = ap (λ (k : ExactKept). cond (no_units E) (Err (numbered why.no_confidence)) (finished_by (size E) limit (exact_scan_of B E ts (length ts)).positions k)) kept-is

-- ---- the two ends of a selection
module _ (B : Board) (E : EdgeList) (ts : List ℕ) (limit : Float) (a : List ℕ) where
  -- no confidence: refused, and the room is as it was
  pub exact-refused : units_to E.confidences (length E.confidences) ≡ 0 → ExactDone B E ts limit a a (Err (numbered why.no_confidence))
  unfolding exact_selection no_units values_to ValueRoom
  exact-refused h = record { answer = rw h; room = rw h refl }

  -- else what the scan comes to
  pub exact-finished : (a' : List ℕ) (s : ExactScan) (r : ExactSelection) → (units_to E.confidences (length E.confidences) ≡ 0 → ⊥) → ExactScanDone B E ts (length ts) a a' s → r ≡ finished (size E) limit s → ExactDone B E ts limit a a' r
  unfolding exact_selection no_units values_to
  exact-finished a' s r h d e =
      let n = ne_eqb (units_to E.confidences (length E.confidences)) 0 h in
      record { answer = rw n (e ∙ ap (finished (size E) limit) d.answer); room = rw n d.room }

  -- the scan may be finished
  pub scan-sound : ExactSelectReady B E ts a → (a' : List ℕ) (s : ExactScan) → ExactScanDone B E ts (length ts) a a' s → SoundExact (size E) s
  scan-sound R a' s d =
      subst (λ (x : ExactScan). SoundExact (size E) x) (sym d.answer)
      (subst (SoundKept (size E) (exact_scan_of B E ts (length ts)).positions) (sym (kept-is B E ts R.board R.list R.transforms.0))
      (record {
        few = omega (arith, kept-count B E ts R.board R.list R.transforms.0, R.transforms.1);
        listed = omega (arith, kept-count B E ts R.board R.list R.transforms.0, (scan-first B E ts R.board R.list R.transforms.0).in_list);
        hits =
            let c = kept B E ts R.board R.list R.transforms.0 in
            let k = key_of (period_of B false) c in
            omega (arith, kept-hits B E ts R.board R.list R.transforms.0, hits-le B E (built_at ts c.placing.listed) (k / (3 * period_of B false)) (k % (3 * period_of B false)));
        small = R.list.few;
      }))

  -- whatever it comes to, the surplus of the room is what it was
  pub exact-beyond : (R : ExactSelectReady B E ts a) (a' : List ℕ) (r : ExactSelection) → ExactDone B E ts limit a a' r → SameBeyond 0 (used (period_of B) 1) a a'
  exact-beyond R a' r d = value-room-beyond B E ts a R (values_to E ts) a' d.room

  -- any two results that it allows are equal, and so are the rooms
  pub exact-unique : (a' b' : List ℕ) (r s : ExactSelection) → ExactDone B E ts limit a a' r → ExactDone B E ts limit a b' s → (r ≡ s) × (a' ≡ b')
  unfolding ValueRoom
  exact-unique a' b' r s p q = (p.answer ∙ sym q.answer, rooms (values_to E ts) p.room q.room)
    where
      rooms : (n : ℕ) → ValueRoom B E ts n a a' → ValueRoom B E ts n a b' → a' ≡ b'
      rooms zero x y = x ∙ sym y
      rooms (suc n) x y = built-unique B E (built_at ts n) a a' b' x y
