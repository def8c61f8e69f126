-- What hard decode answers for all inputs, the early refusals first, and what its room holds afterwards.
use Rattle.std.specs.Prelude.{◌≡◌, List, ℕ, length, Float, Err}
use Rattle.laws.specs.Words.{zero_f}
use Rattle.room.specs.Room.{tables_room}
use Rattle.admission.specs.Calls.{HardCall}
use Rattle.admission.specs.Refusals.{hard_admission}
use Rattle.answer.specs.Answers.{Answer}
use Rattle.verdict.specs.Verdict.{when_accepted}
use Rattle.demand.specs.Left.{left}
use Rattle.hard_core.specs.Hard.{hard_core}

-- the answer for all inputs: the early refusals come first
unfoldable pub hard_answer : HardCall → ℕ → ℕ → Answer
unfolding hard_core
hard_answer call m n = when_accepted Err (hard_admission call m n) (hard_core call)

-- what hard decode promises for all inputs: the answer, and both room slices at exit
pub record HardDone (call : HardCall) (c c' : List ℕ) (w w' : List Float) (r : Answer) : Type 0 where
  pub answer : r ≡ hard_answer call (length c) (length w)
  pub counts : c' ≡ left 0 (tables_room call.board) (hard_admission call (length c) (length w)) c
  pub weights : w' ≡ left zero_f (tables_room call.board) (hard_admission call (length c) (length w)) w
