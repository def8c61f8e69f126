-- Document 01, 'Hard selection', last paragraph, and 'Refusal numbers': "Hard then: 10 logical, 11, 10 physical, 12, 13."
use Rattle.std.specs.Prelude.{◌≡◌, List, ℕ, get_or, Float, Err, Ok}
use Rattle.std.specs.Float.{nan}
use Rattle.laws.specs.Words.{one_f}
use Rattle.laws.specs.Cleared.{SameBeyond}
use Rattle.board.specs.Hits.{EdgeList, size}
use Rattle.room.specs.Room.{tables_room}
use Rattle.admission.specs.Calls.{HardCall}
use Rattle.scan.specs.declared.scan.Candidate.{Candidate}
use Rattle.scan.specs.declared.scan.RunnerUp.{RunnerUp}
use Rattle.hard.specs.Kinds.{Selection}
use Rattle.hard.specs.Select.{selection, Rooms, built_to}
use Rattle.answer.specs.Answers.{Answer}
use Rattle.verdict.specs.Verdict.{judged}

-- "select on the logical list with the limit, then on the physical list with limit 1; origin and matrix must agree; then the gate on the logical list"
abbrev pub after_physical : EdgeList → List ℕ → Candidate → RunnerUp → Selection → Answer
after_physical L ts w runner (Err r) = Err r
after_physical L ts w runner (Ok (p, other)) = judged (get_or ts w.placing.listed 0) w runner (get_or ts p.placing.listed 0) p (size L)

abbrev pub after_logical : HardCall → Selection → Answer
after_logical call (Err r) = Err r
after_logical call (Ok (w, runner)) = after_physical call.logical call.transforms w runner (selection call.board call.physical call.transforms one_f)

-- what an accepted hard call answers
unfoldable pub hard_core : HardCall → Answer
unfolding judged
hard_core call = after_logical call (selection call.board call.logical call.transforms call.error_limit)

-- ---- what the core leaves to be cleared
-- after the logical list's selection: where that was refused the room as it left it, else the physical list's tables of the last transform
unfoldable pub PhysicalRooms : Selection → HardCall → List ℕ → List ℕ → List Float → List Float → Type 0
PhysicalRooms (Err r) call c c' w w' = (c' ≡ c) × (w' ≡ w)
PhysicalRooms (Ok (x, runner)) call c c' w w' = Rooms call.board call.physical call.transforms (built_to call.physical call.transforms) c c' w w'

-- the logical list's tables of the last transform, and over them the physical list's
pub record CoreRooms (call : HardCall) (c c' : List ℕ) (w w' : List Float) : Type 0 where
  pub counts : List ℕ
  pub weights : List Float
  pub logical : Rooms call.board call.logical call.transforms (built_to call.logical call.transforms) c counts w weights
  pub physical : PhysicalRooms (selection call.board call.logical call.transforms call.error_limit) call counts c' weights w'

-- the answer, and both room slices: used, with their surplus as it was
pub record CoreDone (call : HardCall) (c c' : List ℕ) (w w' : List Float) (r : Answer) : Type 0 where
  pub answer : r ≡ hard_core call
  pub rooms : CoreRooms call c c' w w'
  pub counts : SameBeyond 0 (tables_room call.board) c c'
  pub weights : SameBeyond nan (tables_room call.board) w w'
