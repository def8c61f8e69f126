-- Document 01, 'Soft selection': "Then hard selection on the logical list must give the same origin and matrix and pass the gate", and the figures of the physical list.
use Rattle.std.specs.Prelude.{◌≡◌, true, false, List, ℕ, ◌+◌, ◌*◌, ◌%◌, Float, Err, Ok}
use Rattle.std.proofs.Math.ListN.{get_or}
use Rattle.std.specs.Float.{nan, binary32}
use Rattle.std.specs.Float.Ieee.{add}
use Rattle.laws.specs.Cleared.{SameBeyond}
use Rattle.board.specs.Hits.{EdgeList, Board, size}
use Rattle.board.specs.Sides.{period_of}
use Rattle.tables.specs.Built.{TablesBuilt}
use Rattle.room.specs.Room.{tables_room}
use Rattle.admission.specs.Calls.{HardCall}
use Rattle.scan.specs.declared.scan.Candidate.{Candidate}
use Rattle.scan.specs.declared.scan.RunnerUp.{RunnerUp}
use Rattle.hard.specs.Kinds.{Selection}
use Rattle.best.specs.CellTables.{CellTables, c_at, w_at}
use Rattle.hard.specs.Select.{tables_of, selection, Rooms, built_to}
use Rattle.figures.specs.declared.Fit.{Fit}
use Rattle.soft_verdict.specs.declared.SoftBest.{SoftBest}
use Rattle.answer.specs.Answers.{SoftAnswer}
use Rattle.verdict.specs.Verdict.{when_accepted}
use Rattle.soft_verdict.specs.SoftVerdict.{soft_verdict, soft_decoded_of}

-- ---- the physical list's figures
-- the two cells of an origin, added: counts, and weights rounded once
unfoldable pub cell_fit : ℕ → ℕ → CellTables → ℕ → ℕ → Fit
cell_fit L M X row col = record {
  hits = c_at X.hc (row % L * 3 + col % 3) + c_at X.vc (row % 3 * M + col % M);
  weight = add binary32 (w_at X.hw (row % L * 3 + col % 3)) (w_at X.vw (row % 3 * M + col % M));
}

-- of the origin (row, col) under the transform t
abbrev pub fit_of : Board → EdgeList → ℕ → ℕ → ℕ → Fit
fit_of B E t row col = cell_fit (period_of B true) (period_of B false) (tables_of B E t) row col

-- ---- the answer
module _ (call : HardCall) where
  -- the two best by likelihood, where the logical list gave w with its runner-up
  unfoldable pub soft_judged : SoftBest → Candidate → RunnerUp → SoftAnswer
  unfolding soft_decoded_of
  soft_judged best w runner =
      let t = get_or call.transforms best.first.placing.listed 0 in
      let u = get_or call.transforms best.second.placing.listed 0 in
      when_accepted Err (soft_verdict t best.first (get_or call.transforms w.placing.listed 0) w runner (size call.logical)) (Ok (soft_decoded_of t u best (fit_of call.board call.physical t best.first.placing.row best.first.placing.col) (size call.physical) runner))

  abbrev pub after_hard : SoftBest → Selection → SoftAnswer
  after_hard best (Err r) = Err r
  after_hard best (Ok (w, runner)) = soft_judged best w runner

-- ---- what the steps leave
pub record FitDone (B : Board) (E : EdgeList) (t row col : ℕ) (c c' : List ℕ) (w w' : List Float) (r : Fit) : Type 0 where
  pub answer : r ≡ fit_of B E t row col
  pub rooms : TablesBuilt B E t c c' w w'

-- the u32 and the f32 room after the answer: a found one has left the physical list's tables under its transform in them, a refusal nothing
unfoldable pub Figured : SoftAnswer → Board → EdgeList → ℕ → List ℕ → List ℕ → List Float → List Float → Type 0
Figured (Ok d) B E t c c' w w' = TablesBuilt B E t c c' w w'
Figured (Err r) B E t c c' w w' = (c' ≡ c) × (w' ≡ w)

-- the logical list's tables of the last transform, and over them the figures
pub record LogicalRooms (call : HardCall) (best : SoftBest) (r : SoftAnswer) (c c' : List ℕ) (w w' : List Float) : Type 0 where
  pub counts : List ℕ
  pub weights : List Float
  pub selected : Rooms call.board call.logical call.transforms (built_to call.logical call.transforms) c counts w weights
  pub figured : Figured r call.board call.physical (get_or call.transforms best.first.placing.listed 0) counts c' weights w'

-- the logical list and the figures: the u32 and the f32 room are used, and their surplus is as it was
pub record LogicalDone (call : HardCall) (best : SoftBest) (c c' : List ℕ) (w w' : List Float) (r : SoftAnswer) : Type 0 where
  pub answer : r ≡ after_hard call best (selection call.board call.logical call.transforms call.error_limit)
  pub rooms : LogicalRooms call best r c c' w w'
  pub counts : SameBeyond 0 (tables_room call.board) c c'
  pub weights : SameBeyond nan (tables_room call.board) w w'
