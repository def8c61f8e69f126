-- What exact decode answers for all inputs, the early refusals first, and what its room holds afterwards.
use Rattle.std.specs.Prelude.{◌≡◌, List, ℕ, length, Err}
use Rattle.room.specs.Room.{tables_room}
use Rattle.admission.specs.Calls.{HardCall}
use Rattle.admission.specs.Refusals.{hard_admission}
use Rattle.verdict.specs.Verdict.{when_accepted}
use Rattle.demand.specs.Left.{left}
use Rattle.exact_answer.specs.Answers.{ExactAnswer}
use Rattle.exact_core.specs.ExactCore.{exact_core}

-- the answer for all inputs, with m places of u32 room and n of u64 room: hard decode's early refusals come first
unfoldable pub exact_answer : HardCall → ℕ → ℕ → ExactAnswer
unfolding exact_core
exact_answer call m n = when_accepted Err (hard_admission call m n) (exact_core call)

-- what exact decode promises for all inputs: the answer, and both room slices at exit
pub record ExactCallDone (call : HardCall) (c c' : List ℕ) (u u' : List ℕ) (r : ExactAnswer) : Type 0 where
  pub answer : r ≡ exact_answer call (length c) (length u)
  pub counts : c' ≡ left 0 (tables_room call.board) (hard_admission call (length c) (length u)) c
  pub units : u' ≡ left 0 (tables_room call.board) (hard_admission call (length c) (length u)) u
