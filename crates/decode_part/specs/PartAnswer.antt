-- What decode over a part answers for all inputs, the early refusals first, and what its room holds afterwards.
use Rattle.std.specs.Prelude.{◌≡◌, List, ℕ, length, Err}
use Rattle.room.specs.Room.{tables_room}
use Rattle.admission.specs.Calls.{HardCall}
use Rattle.verdict.specs.Verdict.{when_accepted}
use Rattle.demand.specs.Left.{left}
use Rattle.part.specs.declared.Part.{Part}
use Rattle.part_answer.specs.Answers.{PartAnswer}
use Rattle.part_admission.specs.PartAdmission.{part_admission}
use Rattle.part_core.specs.PartCore.{part_core}

-- the answer for all inputs, with m places of u32 room and n of u64 room: the early refusals come first
unfoldable pub part_answer : HardCall → Part → ℕ → ℕ → PartAnswer
unfolding part_core
part_answer call part m n = when_accepted Err (part_admission call part m n) (part_core call part)

-- what decode over a part promises for all inputs: the answer, and both room slices at exit. An accepted call is of a flat board, whose tables use 3,006 places (`part_room`)
pub record PartCallDone (call : HardCall) (part : Part) (c c' : List ℕ) (u u' : List ℕ) (r : PartAnswer) : Type 0 where
  pub answer : r ≡ part_answer call part (length c) (length u)
  pub counts : c' ≡ left 0 (tables_room call.board) (part_admission call part (length c) (length u)) c
  pub units : u' ≡ left 0 (tables_room call.board) (part_admission call part (length c) (length u)) u
