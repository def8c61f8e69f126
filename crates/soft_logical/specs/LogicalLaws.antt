-- Laws of the soft winner against the logical list: the figures that are read off the room, what is asked and left, and that the promise determines the result.
use Rattle.std.specs.Prelude.{◌≡◌, refl, true, false, List, ℕ, ◌+◌, ◌*◌, ◌%◌, ◌≤◌, ◌<◌, get_or, length, drop, Float, Err, Ok}
use Rattle.std.proofs.Math.Path.{sym, ap}
use Rattle.std.proofs.Common.{subst, ◌∙◌, le_trans, le_of_eq, get_or-drop}
use native.Mathlib.Omega.{arith}
use Rattle.std.proofs.Math.Seq.{get_or-take}
use Rattle.std.specs.Float.Ieee.{nan, binary32, add}
use Rattle.laws.specs.Part.{view}
use Rattle.laws.specs.GridLaws.{h-below, v_below}
use Rattle.laws.specs.Cleared.{SameBeyond, beyond-trans}
use Rattle.board.specs.Hits.{EdgeList, Board, size}
use Rattle.board.specs.Sides.{period_of}
use Rattle.board.specs.Domain.{ListOk, BoardOk}
use Rattle.room.specs.Room.{tables_room}
use Rattle.tables.specs.Built.{TablesReady, TablesBuilt}
use Rattle.tables.specs.TablesTheorems.{rooms-equal}
use Rattle.refusals.specs.declared.Refusal.{Refusal}
use Rattle.refusals.specs.Admission.{Admission, accepted}
use Rattle.admission.specs.Calls.{HardCall}
use Rattle.admission.specs.Accepted.{HardAccepted}
use Rattle.scan.specs.declared.scan.Candidate.{Candidate}
use Rattle.scan.specs.declared.scan.RunnerUp.{RunnerUp}
use Rattle.hard.specs.Kinds.{Selection}
use Rattle.best.specs.CellTables.{Period, CellTables}
use Rattle.hard.specs.Select.{selection, SelectDone}
use Rattle.grid.specs.BoardGrid.{period-h, period-v}
use Rattle.hard.specs.SelectLaws.{RoomReady, room_cells, built-cells, tables-ok, select-unique}
use Rattle.figures.specs.declared.Fit.{Fit}
use Rattle.soft_verdict.specs.declared.SoftBest.{SoftBest}
use Rattle.answer.specs.declared.SoftDecoded.{SoftDecoded}
use Rattle.answer.specs.Answers.{SoftAnswer}
use Rattle.hard.proofs.Ready.{ready-logical, beyond}
use Rattle.verdict.specs.Verdict.{when_accepted}
use Rattle.soft_verdict.specs.SoftVerdict.{soft_verdict, soft_decoded_of}
use Rattle.soft_logical.specs.Logical.{cell_fit, fit_of, soft_judged, after_hard, FitDone, Figured, LogicalRooms, LogicalDone}

-- ---- the cells of an origin
pub positive : {n : ℕ} → Period n → 0 < n
positive p = omega (arith, p.more)

-- place k of a view is place a + k of the whole
pub view-at : {A : Type 0} (a n : ℕ) (l : List A) (k : ℕ) (d : A) → k < n → get_or (view a n l) k d ≡ get_or l (a + k) d
view-at a n l k d h = get_or-take n (drop a l) k d h ∙ get_or-drop a l k d

module _ (L M edges : ℕ) (c : List ℕ) (w : List Float) (R : RoomReady L M edges c w) (row col : ℕ) where
  pub cells-few : get_or c (row % L * 3 + col % 3) 0 + get_or c (3 * L + (row % 3 * M + col % M)) 0 ≤ 8192
  unfolding room_cells
  cells-few =
      let i = h-below L (positive R.h) row col in
      let j = v_below M (positive R.v) row col in
      let b = R.tables.bounded _ _ i j in
      let f = R.tables.few in
      let x = get_or-take (3 * L) c _ 0 i in
      let y = view-at (3 * L) (3 * M) c _ 0 j in
      omega arith

  pub fit-read : record { hits = get_or c (row % L * 3 + col % 3) 0 + get_or c (3 * L + (row % 3 * M + col % M)) 0; weight = add binary32 (get_or w (row % L * 3 + col % 3) nan) (get_or w (3 * L + (row % 3 * M + col % M)) nan) } ≡ cell_fit L M (room_cells L M c w) row col
  unfolding room_cells cell_fit
  fit-read =
      let i = h-below L (positive R.h) row col in
      let j = v_below M (positive R.v) row col in
      let x = get_or-take (3 * L) c _ 0 i in
      let y = view-at (3 * L) (3 * M) c _ 0 j in
      let z = get_or-take (3 * L) w _ nan i in
      let u = view-at (3 * L) (3 * M) w _ nan j in
      λ k. record { hits = sym x k + sym y k; weight = add binary32 (sym z k) (sym u k) }

-- ---- the figures of one placing
module _ (B : Board) (E : EdgeList) (t row col : ℕ) (c c' : List ℕ) (w w' : List Float) (ready : TablesReady B E t c w) (b : TablesBuilt B E t c c' w w') where
  pub fit-done : (r : Fit) → r ≡ cell_fit (period_of B true) (period_of B false) (room_cells (period_of B true) (period_of B false) c' w') row col → FitDone B E t row col c c' w w' r
  fit-done r e = record { answer = e ∙ ap (λ (X : CellTables). cell_fit (period_of B true) (period_of B false) X row col) (built-cells B E t c c' w w' ready b); rooms = b }

-- no more hits than edges
pub fit-few : (B : Board) (E : EdgeList) (t row col : ℕ) → BoardOk B → ListOk E → (fit_of B E t row col).hits ≤ size E
unfolding cell_fit
fit-few B E t row col board list = (tables-ok B E t board list).bounded _ _ (h-below (period_of B true) (positive (period-h B board)) row col) (v_below (period_of B false) (positive (period-v B board)) row col)

-- ---- the soft winner against the logical list
module _ (call : HardCall) (c : List ℕ) (w : List Float) (A : HardAccepted call (length c) (length w)) (best : SoftBest) (c' : List ℕ) (w' : List Float) (r : Selection) (D : SelectDone call.board call.logical call.transforms call.error_limit c c' w w' r) where
  pub logical-rooms : SameBeyond 0 (tables_room call.board) c c' × SameBeyond nan (tables_room call.board) w w'
  logical-rooms = beyond call c w A call.logical call.error_limit c c' w w' r (ready-logical call c w A) D

  pub logical-refused : (n : Refusal) → r ≡ Err n → LogicalDone call best c c' w w' (Err n)
  unfolding soft_judged Figured
  logical-refused n k = record { answer = ap (after_hard call best) (sym k ∙ D.answer); rooms = record { counts = c'; weights = w'; selected = D.rooms; figured = (refl, refl) }; counts = logical-rooms.0; weights = logical-rooms.1 }

  -- the tables of its transform can be built
  pub fit-ready : best.first.placing.listed < length call.transforms → TablesReady call.board call.physical (get_or call.transforms best.first.placing.listed 0) c' w'
  fit-ready h =
      record {
        list = A.physical;
        board = A.board;
        transform = A.transforms.small best.first.placing.listed h;
        room = (le_trans A.room.0 (le_of_eq (sym logical-rooms.0.len)), le_trans A.room.1 (le_of_eq (sym logical-rooms.1.len)));
      }

  module _ (x : Candidate) (runner : RunnerUp) (k : r ≡ Ok (x, runner)) (n : Admission) (v : n ≡ soft_verdict (get_or call.transforms best.first.placing.listed 0) best.first (get_or call.transforms x.placing.listed 0) x runner (size call.logical)) where
    -- the answer under a verdict
    abbrev under : Admission → SoftAnswer
    under y = let t = get_or call.transforms best.first.placing.listed 0 in when_accepted Err y (Ok (soft_decoded_of t (get_or call.transforms best.second.placing.listed 0) best (fit_of call.board call.physical t best.first.placing.row best.first.placing.col) (size call.physical) runner))

    logical-answer : under n ≡ after_hard call best (selection call.board call.logical call.transforms call.error_limit)
    unfolding soft_judged
    logical-answer = ap under v ∙ ap (after_hard call best) (sym k ∙ D.answer)

    pub verdict-refused : (z : Refusal) → n ≡ Err z → LogicalDone call best c c' w w' (Err z)
    unfolding Figured
    verdict-refused z o = record { answer = ap under (sym o) ∙ logical-answer; rooms = record { counts = c'; weights = w'; selected = D.rooms; figured = (refl, refl) }; counts = logical-rooms.0; weights = logical-rooms.1 }

    module _ (c'' : List ℕ) (w'' : List Float) (own : Fit) (F : FitDone call.board call.physical (get_or call.transforms best.first.placing.listed 0) best.first.placing.row best.first.placing.col c' c'' w' w'' own) where
      pub own-few : own.hits ≤ size call.physical
      own-few = subst (λ (z : Fit). z.hits ≤ size call.physical) (sym F.answer) (fit-few call.board call.physical (get_or call.transforms best.first.placing.listed 0) best.first.placing.row best.first.placing.col A.board A.physical)

      pub verdict-found : (a : SoftDecoded) → n ≡ accepted → a ≡ soft_decoded_of (get_or call.transforms best.first.placing.listed 0) (get_or call.transforms best.second.placing.listed 0) best own (size call.physical) runner → LogicalDone call best c c'' w w'' (Ok a)
      unfolding Figured
      verdict-found a o e =
          record {
            answer = ap Ok (e ∙ ap (λ (z : Fit). soft_decoded_of (get_or call.transforms best.first.placing.listed 0) (get_or call.transforms best.second.placing.listed 0) best z (size call.physical) runner) F.answer) ∙ ap under (sym o) ∙ logical-answer;
            rooms = record { counts = c'; weights = w'; selected = D.rooms; figured = F.rooms };
            counts = beyond-trans 0 (tables_room call.board) c c' c'' logical-rooms.0 (record { len = F.rooms.counts.len; same = F.rooms.counts.surplus });
            weights = beyond-trans nan (tables_room call.board) w w' w'' logical-rooms.1 (record { len = F.rooms.weights.len; same = F.rooms.weights.surplus });
          }

-- ---- any two results that the promise allows are equal, and so are the rooms
figured-same : (y : SoftAnswer) (B : Board) (E : EdgeList) (t : ℕ) (m c d : List ℕ) (v w x : List Float) → Figured y B E t m c v w → Figured y B E t m d v x → (c ≡ d) × (w ≡ x)
unfolding Figured
figured-same (Ok a) B E t m c d v w x f g = rooms-equal B E t m c d v w x f g
figured-same (Err n) B E t m c d v w x f g = (f.0 ∙ sym g.0, f.1 ∙ sym g.1)

figured-over : (y : SoftAnswer) (B : Board) (E : EdgeList) (t : ℕ) (m n c d : List ℕ) (v u w x : List Float) → m ≡ n → v ≡ u → Figured y B E t m c v w → Figured y B E t n d u x → (c ≡ d) × (w ≡ x)
figured-over y B E t m n c d v u w x e o f g =
    figured-same y B E t m c d v w x f (subst (λ (k : List ℕ). Figured y B E t k d v x) (sym e) (subst (λ (k : List Float). Figured y B E t n d k x) (sym o) g))

pub logical-same : (call : HardCall) (best : SoftBest) (r : SoftAnswer) (c c' d' : List ℕ) (w w' x' : List Float) → LogicalRooms call best r c c' w w' → LogicalRooms call best r c d' w x' → (c' ≡ d') × (w' ≡ x')
logical-same call best r c c' d' w w' x' p q =
    let s = selection call.board call.logical call.transforms call.error_limit in
    let e =
    select-unique call.board call.logical call.transforms call.error_limit c w p.counts q.counts p.weights q.weights s s (record { answer = refl; rooms = p.selected })
    (record { answer = refl; rooms = q.selected }) in
    figured-over r call.board call.physical (get_or call.transforms best.first.placing.listed 0) p.counts q.counts c' d' p.weights q.weights w' x' e.1 e.2 p.figured q.figured

pub logical-unique : (call : HardCall) (best : SoftBest) (c c' d' : List ℕ) (w w' x' : List Float) (r s : SoftAnswer) → LogicalDone call best c c' w w' r → LogicalDone call best c d' w x' s → (r ≡ s) × (c' ≡ d') × (w' ≡ x')
logical-unique call best c c' d' w w' x' r s p q =
    let e : r ≡ s = p.answer ∙ sym q.answer in
    let f = logical-same call best r c c' d' w w' x' p.rooms (subst (λ (y : SoftAnswer). LogicalRooms call best y c d' w x') (sym e) q.rooms) in
    (e, f.0, f.1)
