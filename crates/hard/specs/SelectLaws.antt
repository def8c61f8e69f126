-- Laws of the selection on one list: the room after each transform, and the scan one transform further.
use Rattle.std.specs.Prelude.{◌≡◌, refl, Float, Err}
use Rattle.std.proofs.Math.Path.{sym, ap}
use Rattle.std.proofs.Common.{subst, ◌∙◌, arith}
use Rattle.std.proofs.Math.Bool.{true, false}
use mathlib.Core.List.{List}
use Prim.Native.Nat.{ℕ, zero, suc, ◌+◌, ◌*◌, ◌≤◌, ◌<◌}
use Rattle.std.proofs.Math.Numerals.{add-one}
use Rattle.std.proofs.Math.ListN.{get_or, length}
use Rattle.std.specs.Float.{nan}
use Rattle.std.specs.Float.Ieee.{eq}
use Rattle.laws.specs.Words.{zero_f}
use Rattle.laws.specs.Part.{view}
use Rattle.laws.specs.Cleared.{SameBeyond}
use Rattle.board.specs.Hits.{EdgeList, Board, size}
use Rattle.board.specs.Sides.{period_of}
use Rattle.board.specs.Domain.{ListOk, BoardOk}
use Rattle.room.specs.Room.{used}
use Rattle.tables.specs.Built.{TablesReady, TablesBuilt}
use Rattle.tables.specs.TablesTheorems.{length-counts, length-weights, counts-few, weights-weightlike, read-counts, read-weights, rooms-equal}
use Rattle.best.specs.CellTables.{Period, CellTables, cells, TablesOk}
use Rattle.grid.specs.BoardGrid.{period-h, period-v}
use Rattle.scan.specs.Scan.{SoundScan, empty_scan, chosen}
use Rattle.folding.specs.Transform.{fold_transform, selected}
use Rattle.folding.specs.TransformLaws.{selected-none, selected-more, selected-count}
use Rattle.scan.specs.declared.scan.HardScan.{HardScan}
use Rattle.scan.specs.Kinds.{Choice}
use Rattle.folding.proofs.KeptLaws.{selected-sound}
use Rattle.hard.specs.Kinds.{Selection}
use Rattle.refusals.specs.Numbers.{numbered}
use Rattle.refusals.specs.Numbers as why
use Rattle.figures.specs.Figures.{total_confidence, no_confidence}
use Rattle.hard.specs.Select.{tables_of, scan_of, of_choice, selection, SelectReady, Rooms, built_to, SelectDone}

-- ---- the four tables in a room: horizontal cells, then vertical cells
unfoldable pub room_cells : ℕ → ℕ → List ℕ → List Float → CellTables
room_cells L M c w = cells (view 0 (3 * L) c) (view 0 (3 * L) w) (view (3 * L) (3 * M) c) (view (3 * L) (3 * M) w)

-- a room whose cells can be folded into the scan: both periods in range, all cells there, and in range for a list of so many edges
pub record RoomReady (L M edges : ℕ) (c : List ℕ) (w : List Float) : Type 0 where
  pub h : Period L
  pub v : Period M
  pub room : (3 * L + 3 * M ≤ length c) × (3 * L + 3 * M ≤ length w)
  pub tables : TablesOk L M edges (room_cells L M c w)

-- the tables of a transform are as the fold asks
pub tables-ok : (B : Board) (E : EdgeList) (t : ℕ) → BoardOk B → ListOk E → TablesOk (period_of B true) (period_of B false) (size E) (tables_of B E t)
unfolding tables_of
tables-ok B E t board list = record {
  hcs = length-counts B E t true;
  hws = length-weights B E t true;
  vcs = length-counts B E t false;
  vws = length-weights B E t false;
  hweights = weights-weightlike B E t board list true;
  vweights = weights-weightlike B E t board list false;
  bounded = counts-few B E t;
  few = list.few;
}

-- the four tables that were built are where they are read
module _ (B : Board) (E : EdgeList) (t : ℕ) (c c' : List ℕ) (w w' : List Float) (ready : TablesReady B E t c w) (b : TablesBuilt B E t c c' w w') where
  pub built-cells : room_cells (period_of B true) (period_of B false) c' w' ≡ tables_of B E t
  unfolding room_cells tables_of
  built-cells =
      let hc = read-counts B E t c c' w w' ready b true in
      let vc = read-counts B E t c c' w w' ready b false in
      let hw = read-weights B E t c c' w w' ready b true in
      let vw = read-weights B E t c c' w w' ready b false in
      λ i. cells (hc i) (hw i) (vc i) (vw i)

  pub room-ready : RoomReady (period_of B true) (period_of B false) (size E) c' w'
  room-ready = record {
    h = period-h B ready.board;
    v = period-v B ready.board;
    room = (omega (arith, ready.room.0, b.counts.len), omega (arith, ready.room.1, b.weights.len));
    tables = subst (λ (X : CellTables). TablesOk (period_of B true) (period_of B false) (size E) X) (sym built-cells) (tables-ok B E t ready.board ready.list);
  }

module _ (B : Board) (E : EdgeList) (ts : List ℕ) (c : List ℕ) (w : List Float) (R : SelectReady B E ts c w) where
  -- a room that was left by some transforms is as long as it was
  pub rooms-length : (n : ℕ) (c' : List ℕ) (w' : List Float) → Rooms B E ts n c c' w w' → (length c' ≡ length c) × (length w' ≡ length w)
  unfolding Rooms
  rooms-length zero c' w' d = (ap length d.0, ap length d.1)
  rooms-length (suc p) c' w' d = (d.counts.len, d.weights.len)

  -- and its surplus is what it was
  pub rooms-surplus : (n : ℕ) (c' : List ℕ) (w' : List Float) → Rooms B E ts n c c' w w' → (k : ℕ) → used (period_of B) 1 ≤ k → (get_or c' k 0 ≡ get_or c k 0) × (get_or w' k nan ≡ get_or w k nan)
  unfolding Rooms
  rooms-surplus zero c' w' d k h = (ap (λ (l : List ℕ). get_or l k 0) d.0, ap (λ (l : List Float). get_or l k nan) d.1)
  rooms-surplus (suc p) c' w' d k h = (d.counts.surplus k h, d.weights.surplus k h)

  -- what the next transform's tables ask
  pub rooms-ready : (n : ℕ) (c' : List ℕ) (w' : List Float) → Rooms B E ts n c c' w w' → n < length ts → TablesReady B E (get_or ts n 0) c' w'
  rooms-ready n c' w' d h =
      let l = rooms-length n c' w' d in
      record { list = R.list; board = R.board; transform = R.small n h; room = (omega (arith, R.room.0, l.0), omega (arith, R.room.1, l.1)) }

  -- built once more, in the room that was lent
  pub rooms-more : (n : ℕ) (c' c'' : List ℕ) (w' w'' : List Float) → Rooms B E ts n c c' w w' → TablesBuilt B E (get_or ts n 0) c' c'' w' w'' → Rooms B E ts (n + 1) c c'' w w''
  unfolding Rooms
  rooms-more n c' c'' w' w'' d b =
      let l = rooms-length n c' w' d in
      let s = rooms-surplus n c' w' d in
      rw add-one (record {
        counts = record { len = b.counts.len ∙ l.0; cells = b.counts.cells; groups = b.counts.groups; surplus = λ k h. b.counts.surplus k h ∙ (s k h).0 };
        weights = record { len = b.weights.len ∙ l.1; cells = b.weights.cells; groups = b.weights.groups; surplus = λ k h. b.weights.surplus k h ∙ (s k h).1 };
      })

-- ---- the scan
-- after n transforms, with the total confidence conf
abbrev pub scan_by : Board → EdgeList → List ℕ → Float → Float → ℕ → HardScan
scan_by B E ts confidence limit n = selected (period_of B true) (period_of B false) (size E) confidence limit (λ p. get_or ts p 0) (λ p. tables_of B E (get_or ts p 0)) n

-- what a scan of the first n transforms did, given the list's total confidence: its record is the definition's, and the room holds the last one's tables
pub record ScanDone (B : Board) (E : EdgeList) (ts : List ℕ) (confidence limit : Float) (n : ℕ) (c c' : List ℕ) (w w' : List Float) (r : HardScan) : Type 0 where
  pub answer : r ≡ scan_by B E ts confidence limit n
  pub rooms : Rooms B E ts n c c' w w'

module _ (B : Board) (E : EdgeList) (ts : List ℕ) (confidence limit : Float) (c : List ℕ) (w : List Float) where
  pub scan-none : ScanDone B E ts confidence limit 0 c c w w empty_scan
  unfolding Rooms
  scan-none = record { answer = sym (selected-none (period_of B true) (period_of B false) (size E) confidence limit (λ p. get_or ts p 0) (λ p. tables_of B E (get_or ts p 0))); rooms = (refl, refl) }

  pub scan-count : (n : ℕ) (c' : List ℕ) (w' : List Float) (r : HardScan) → ScanDone B E ts confidence limit n c c' w w' r → r.count ≡ n
  scan-count n c' w' r d = ap (λ (s : HardScan). s.count) d.answer ∙ selected-count (period_of B true) (period_of B false) (size E) confidence limit (λ p. get_or ts p 0) (λ p. tables_of B E (get_or ts p 0)) n

  pub scan-more : (R : SelectReady B E ts c w) (n : ℕ) (c' c'' : List ℕ) (w' w'' : List Float) (r r' : HardScan) → n < length ts → ScanDone B E ts confidence limit n c c' w w' r → TablesBuilt B E (get_or ts n 0) c' c'' w' w''
      → r' ≡ fold_transform (period_of B true) (period_of B false) (size E) confidence limit (get_or ts n 0) (room_cells (period_of B true) (period_of B false) c'' w'') r → ScanDone B E ts confidence limit (n + 1) c c'' w w'' r'
  scan-more R n c' c'' w' w'' r r' h d b e = record {
    answer =
        e
        ∙ ap (λ (X : CellTables). fold_transform (period_of B true) (period_of B false) (size E) confidence limit (get_or ts n 0) X r) (built-cells B E (get_or ts n 0) c' c'' w' w'' (rooms-ready B E ts c w R n c' w' d.rooms h) b)
        ∙ selected-more (period_of B true) (period_of B false) (size E) confidence limit (λ p. get_or ts p 0) (λ p. tables_of B E (get_or ts p 0)) n r d.answer;
    rooms = rooms-more B E ts c w R n c' c'' w' w'' d.rooms b;
  }

-- ---- the two ends of a selection
module _ (B : Board) (E : EdgeList) (ts : List ℕ) (limit : Float) (c : List ℕ) (w : List Float) where
  -- no confidence: refused, and the room is as it was
  pub select-refused : eq (total_confidence E) zero_f ≡ true → SelectDone B E ts limit c c w w (Err (numbered why.no_confidence))
  unfolding selection no_confidence built_to Rooms
  select-refused h = record { answer = rw h; rooms = rw h (refl, refl) }

  -- else what the scan chose
  pub select_chosen : (c' : List ℕ) (w' : List Float) (s : HardScan) (x y : Choice) (confidence : Float) → confidence ≡ total_confidence E → eq (total_confidence E) zero_f ≡ false → ScanDone B E ts confidence limit (length ts) c c' w w' s
      → x ≡ chosen s → x ≡ y → SelectDone B E ts limit c c' w w' (of_choice y)
  unfolding selection no_confidence built_to scan_of
  select_chosen c' w' s x y confidence k h d e g = record {
    answer = rw h (ap of_choice (sym g ∙ e ∙ ap chosen (d.answer ∙ ap (λ (z : Float). scan_by B E ts z limit (length ts)) k)));
    rooms = rw h d.rooms;
  }

  -- the scan may be finished
  pub scan-sound : (R : SelectReady B E ts c w) (confidence : Float) (c' : List ℕ) (w' : List Float) (s : HardScan) → ScanDone B E ts confidence limit (length ts) c c' w w' s → SoundScan s
  scan-sound R confidence c' w' s d =
      subst (λ (x : HardScan). SoundScan x) (sym d.answer) (selected-sound (period_of B true) (period_of B false) (size E) confidence limit (λ p. get_or ts p 0) (λ p. tables_of B E (get_or ts p 0)) (length ts) R.transforms.1)

  -- whatever it comes to, the surplus of the room is what it was
  pub select-beyond : (R : SelectReady B E ts c w) (c' : List ℕ) (w' : List Float) (r : Selection) → SelectDone B E ts limit c c' w w' r → SameBeyond 0 (used (period_of B) 1) c c' × SameBeyond nan (used (period_of B) 1) w w'
  select-beyond R c' w' r d =
      let l = rooms-length B E ts c w R (built_to E ts) c' w' d.rooms in
      let s = rooms-surplus B E ts c w R (built_to E ts) c' w' d.rooms in
      (record { len = l.0; same = λ k h. (s k h).0 }, record { len = l.1; same = λ k h. (s k h).1 })

  -- any two results that it allows are equal, and so are the rooms
  pub select-unique : (c' d' : List ℕ) (w' x' : List Float) (r s : Selection) → SelectDone B E ts limit c c' w w' r → SelectDone B E ts limit c d' w x' s → (r ≡ s) × (c' ≡ d') × (w' ≡ x')
  unfolding Rooms
  select-unique c' d' w' x' r s p q = (p.answer ∙ sym q.answer, both.0, both.1)
    where
      rooms : (n : ℕ) → Rooms B E ts n c c' w w' → Rooms B E ts n c d' w x' → (c' ≡ d') × (w' ≡ x')
      rooms zero a b = (a.0 ∙ sym b.0, a.1 ∙ sym b.1)
      rooms (suc n) a b = rooms-equal B E (get_or ts n 0) c c' d' w w' x' a b

      both : (c' ≡ d') × (w' ≡ x')
      both = rooms (built_to E ts) p.rooms q.rooms
