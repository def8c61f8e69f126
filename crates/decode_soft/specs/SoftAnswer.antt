-- What soft decode answers for all inputs, the early refusals first, and what its room holds afterwards.
use Rattle.std.specs.Prelude.{◌≡◌, List, ℕ, length, ℤ, pos, Float, Err}
use Rattle.laws.specs.Words.{zero_f}
use Rattle.room.specs.Room.{tables_room, sums_room}
use Rattle.admission.specs.Calls.{SoftCall}
use Rattle.admission.specs.Refusals.{soft_admission}
use Rattle.answer.specs.Answers.{SoftAnswer}
use Rattle.demand.specs.Left.{left}
use Rattle.soft_core.specs.Soft.{soft_core}
use Rattle.verdict.specs.Verdict.{when_accepted}

-- the answer for all inputs: the early refusals come first
unfoldable pub soft_answer : SoftCall → ℕ → ℕ → ℕ → SoftAnswer
unfolding soft_core
soft_answer call m n k =
    when_accepted Err (soft_admission call m n k) (soft_core call)

-- what soft decode promises for all inputs: the answer, and the three room slices at exit
pub record SoftDone (call : SoftCall) (c c' : List ℕ) (w w' : List Float) (a a' : List ℤ) (r : SoftAnswer) : Type 0 where
  pub answer : r ≡ soft_answer call (length c) (length w) (length a)
  pub counts : c' ≡ left 0 (tables_room call.hard.board) (soft_admission call (length c) (length w) (length a)) c
  pub weights : w' ≡ left zero_f (tables_room call.hard.board) (soft_admission call (length c) (length w) (length a)) w
  pub sums : a' ≡ left (pos 0) (sums_room call.hard.board) (soft_admission call (length c) (length w) (length a)) a
