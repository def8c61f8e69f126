-- Request C-20, both lists: "Placings, winner and gate all range over that rectangle", and after the early refusals C-15's order: "10 logical, 11, 10 physical, 12, 13". The lists' winners are those
-- of part_select/specs/PartWinner.antt (`part-winner`).
use Rattle.std.specs.Prelude.{◌≡◌, List, ℕ, get_or, Err, None, Ok, Some}
use Rattle.laws.specs.Words.{one_f}
use Rattle.laws.specs.Cleared.{SameBeyond}
use Rattle.board.specs.Hits.{EdgeList, size}
use Rattle.room.specs.Room.{tables_room}
use Rattle.admission.specs.Calls.{HardCall}
use Rattle.exact_scan.specs.declared.kept.ExactWinner.{ExactWinner}
use Rattle.exact.specs.Select.{ValueRoom, values_to}
use Rattle.exact_core.specs.ExactCore.{total_units}
use Rattle.part.specs.declared.Part.{Part}
use Rattle.part_select.specs.Kinds.{PartNext}
use Rattle.part_select.specs.Kinds.{PartSelection}
use Rattle.part_select.specs.Select.{part_selection}
use Rattle.part_answer.specs.Answers.{PartRunnerUp}
use Rattle.part_answer.specs.Answers.{PartAnswer}
use Rattle.part_verdict.specs.PartVerdict.{part_judged}

-- what the answer shows beside the winner: the runner-up's square, by the transform at its list position, with its hits and its weight, or that there is none
abbrev pub shown_beside : List ℕ → PartNext → PartRunnerUp
shown_beside ts None = None
shown_beside ts (Some r) = Some ((record { transform = get_or ts r.placing.listed 0; row = r.placing.row; col = r.placing.col }), r.hits, r.weight)

-- the logical list's winner w, with what is shown beside it, judged against the physical list's winner p, where the logical list has so many edges and weighs `total`
abbrev pub judged_part : ℕ → ℕ → List ℕ → ExactWinner → PartNext → ExactWinner → PartAnswer
judged_part edges total ts w next p = part_judged (get_or ts w.placing.listed 0) w (shown_beside ts next) (get_or ts p.placing.listed 0) p edges total

-- after the logical list's winner w and what is shown beside it, by what the physical list's selection came to
abbrev pub part_after_physical : EdgeList → List ℕ → ExactWinner → PartNext → PartSelection → PartAnswer
part_after_physical L ts w next (Err r) = Err r
part_after_physical L ts w next (Ok (p, other)) = judged_part (size L) (total_units L) ts w next p

-- by what the logical list's selection came to: the physical list is selected over the same part, with limit 1
abbrev pub part_after_logical : HardCall → Part → PartSelection → PartAnswer
part_after_logical call part (Err r) = Err r
part_after_logical call part (Ok (w, next)) = part_after_physical call.logical call.transforms w next (part_selection call.board call.physical call.transforms part one_f)

-- what an accepted call over a part answers
unfoldable pub part_core : HardCall → Part → PartAnswer
unfolding part_judged
part_core call part = part_after_logical call part (part_selection call.board call.logical call.transforms part call.error_limit)

-- ---- what the core leaves to be cleared
-- after the logical list's selection: where that was refused the room as it left it, else the physical list's values of the last transform
unfoldable pub PhysicalLeft : PartSelection → HardCall → List ℕ → List ℕ → Type 0
PhysicalLeft (Err r) call u u' = u' ≡ u
PhysicalLeft (Ok (w, next)) call u u' = ValueRoom call.board call.physical call.transforms (values_to call.physical call.transforms) u u'

-- the logical list's values of the last transform, and over them the physical list's
pub record PartCoreRoom (call : HardCall) (part : Part) (u u' : List ℕ) : Type 0 where
  pub between : List ℕ
  pub logical : ValueRoom call.board call.logical call.transforms (values_to call.logical call.transforms) u between
  pub physical : PhysicalLeft (part_selection call.board call.logical call.transforms part call.error_limit) call between u'

-- the answer, and the room: used, with its surplus as it was
pub record PartCoreDone (call : HardCall) (part : Part) (u u' : List ℕ) (r : PartAnswer) : Type 0 where
  pub answer : r ≡ part_core call part
  pub room : PartCoreRoom call part u u'
  pub units : SameBeyond 0 (tables_room call.board) u u'
