-- A call is refused early with its room untouched, or its core is run and the room is cleared.
use mathlib.Core.Path.{sym, ◌∙◌}
use native.Mathlib.Omega.{arith}
use lib.ListN.{length}
use Rattle.room.specs.RoomLaws.{board-periods}
use Rattle.admission.specs.Calls.{HardCall}
use Rattle.decode_exact.specs.ExactAnswerLaws.{core-accepted}
use Rattle.part_admission.specs.PartAdmission.{PartAccepted}
use Rattle.part_admission.proofs.PartAdmissionLaws.{part-accepted}
use Rattle.hard.proofs.Ready.{cleared-used}
use Rattle.decode_part.specs.PartAnswerLaws.{part-refused, part-done}
use Rattle.decode_part.proofs.decode_part.Goals as goal
use Rattle.admission.specs.CallsGiven.{hard_call_of}

pub part_core-answer-requires : goal.part_core-answer-requires
part_core-answer-requires c =
    let k : HardCall =
    let a = c.args in
    hard_call_of a.call in
    let accepted : PartAccepted k c.args.part (length c.args.counts.now) (length c.args.units.now) = part-accepted k _ _ _ (sym c.part_admission-admitted.ensures ∙ c.in-Ok.is) in
    record { hard_accepted = core-accepted _ _ _ accepted.hard; h_len = (accepted.flat, accepted.ok) }

pub used_by_tables-used-requires : goal.used_by_tables-used-requires
used_by_tables-used-requires c =
    let k : HardCall =
    let a = c.args in
    hard_call_of a.call in
    let accepted : PartAccepted k c.args.part (length c.args.counts.now) (length c.args.units.now) = part-accepted k _ _ _ (sym c.part_admission-admitted.ensures ∙ c.in-Ok.is) in
    board-periods _ accepted.hard.board

pub clear-requires : goal.clear-requires
clear-requires c =
    let k : HardCall =
    let a = c.args in
    hard_call_of a.call in
    let accepted : PartAccepted k c.args.part (length c.args.counts.now) (length c.args.units.now) = part-accepted k _ _ _ (sym c.part_admission-admitted.ensures ∙ c.in-Ok.is) in
    omega (arith, accepted.hard.room.0, c.used_by_tables-used.ensures)

pub clear-requires-in-Ok : goal.clear-requires-in-Ok
clear-requires-in-Ok c =
    let k : HardCall =
    let a = c.args in
    hard_call_of a.call in
    let accepted : PartAccepted k c.args.part (length c.args.counts.now) (length c.args.units.now) = part-accepted k _ _ _ (sym c.part_admission-admitted.ensures ∙ c.in-Ok.is) in
    omega (arith, accepted.hard.room.1, c.part_core-answer.ensures.units.len, c.used_by_tables-used.ensures)

pub returns-in-Err : goal.returns-in-Err
returns-in-Err c =
    let k : HardCall =
    let a = c.args in
    hard_call_of a.call in
    part-refused k c.args.part c.args.counts.now c.args.units.now c.part_admission-admitted.result c.part_admission-admitted.ensures _ c.in-Err.is

pub returns-in-Ok : goal.returns-in-Ok
returns-in-Ok c =
    let k : HardCall =
    let a = c.args in
    hard_call_of a.call in
    let accepted : PartAccepted k c.args.part (length c.args.counts.now) (length c.args.units.now) = part-accepted k _ _ _ (sym c.part_admission-admitted.ensures ∙ c.in-Ok.is) in
    part-done k c.args.part c.args.counts.now c.args.units.now c.part_admission-admitted.result c.part_admission-admitted.ensures _ _ _ _ c.in-Ok.is accepted c.part_core-answer.ensures
    (cleared-used _ _ _ _ _ c.used_by_tables-used.ensures c.clear.ensures)
    (cleared-used _ _ _ _ _ c.used_by_tables-used.ensures c.clear-in-Ok.ensures)
