-- Request C-15, both lists: "then 10 logical, 11, 10 physical, 12, 13". The lists' winners are those of exact/specs/Winner.antt (`exact-winner`).
use Rattle.std.specs.Prelude.{◌≡◌, List, ℕ, get_or, length, Err, Ok}
use Rattle.laws.specs.Words.{one_f}
use Rattle.laws.specs.Cleared.{SameBeyond}
use Rattle.board.specs.Hits.{EdgeList, Board, size}
use Rattle.room.specs.Room.{tables_room}
use Rattle.admission.specs.Calls.{HardCall}
use Rattle.scan.specs.declared.scan.RunnerUp.{RunnerUp}
use Rattle.exact_scan.specs.declared.kept.ExactWinner.{ExactWinner}
use Rattle.exact_scan.specs.Kinds.{ExactSelection}
use Rattle.exact.specs.Select.{units_to, exact_selection, ValueRoom, values_to}
use Rattle.exact.specs.Winner.{weight_of_square}
use Rattle.exact_answer.specs.Answers.{ExactAnswer}
use Rattle.exact_verdict.specs.ExactVerdict.{exact_judged}

-- what all edges of a list weigh together, in units
abbrev pub total_units : EdgeList → ℕ
total_units E = units_to E.confidences (length E.confidences)

-- what the runner-up's hits weigh, edge by edge
abbrev pub runner_weight_of : Board → EdgeList → RunnerUp → ℕ
runner_weight_of B E r = weight_of_square B E r.transform r.row r.col

-- the logical list's winner w, with its runner-up, judged against the physical list's winner p
abbrev pub judged_winners : Board → EdgeList → List ℕ → ExactWinner → RunnerUp → ExactWinner → ExactAnswer
judged_winners B L ts w runner p = exact_judged (get_or ts w.placing.listed 0) w runner (get_or ts p.placing.listed 0) p (size L) (total_units L) (runner_weight_of B L runner)

-- "select on the logical list with the limit, then on the physical list with limit 1; origin and matrix must agree; then the gate on the logical list": after the logical list's winner w and its
-- runner-up, by what the physical list's selection came to
abbrev pub exact_after_physical : Board → EdgeList → List ℕ → ExactWinner → RunnerUp → ExactSelection → ExactAnswer
exact_after_physical B L ts w runner (Err r) = Err r
exact_after_physical B L ts w runner (Ok (p, other)) = judged_winners B L ts w runner p

-- by what the logical list's selection came to
abbrev pub exact_after_logical : HardCall → ExactSelection → ExactAnswer
exact_after_logical call (Err r) = Err r
exact_after_logical call (Ok (w, runner)) = exact_after_physical call.board call.logical call.transforms w runner (exact_selection call.board call.physical call.transforms one_f)

-- what an accepted exact call answers
unfoldable pub exact_core : HardCall → ExactAnswer
unfolding exact_judged
exact_core call = exact_after_logical call (exact_selection call.board call.logical call.transforms call.error_limit)

-- ---- what the core leaves to be cleared
-- after the logical list's selection: where that was refused the room as it left it, else the physical list's values of the last transform
unfoldable pub PhysicalValues : ExactSelection → HardCall → List ℕ → List ℕ → Type 0
PhysicalValues (Err r) call u u' = u' ≡ u
PhysicalValues (Ok (w, runner)) call u u' = ValueRoom call.board call.physical call.transforms (values_to call.physical call.transforms) u u'

-- the logical list's values of the last transform, and over them the physical list's
pub record ExactCoreRoom (call : HardCall) (u u' : List ℕ) : Type 0 where
  pub between : List ℕ
  pub logical : ValueRoom call.board call.logical call.transforms (values_to call.logical call.transforms) u between
  pub physical : PhysicalValues (exact_selection call.board call.logical call.transforms call.error_limit) call between u'

-- the answer, and the room: used, with its surplus as it was
pub record ExactCoreDone (call : HardCall) (u u' : List ℕ) (r : ExactAnswer) : Type 0 where
  pub answer : r ≡ exact_core call
  pub room : ExactCoreRoom call u u'
  pub units : SameBeyond 0 (tables_room call.board) u u'
