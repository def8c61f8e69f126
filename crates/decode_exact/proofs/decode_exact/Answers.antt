-- A call is refused early with its room untouched, or its core is run and the room is cleared.
use mathlib.Core.Path.{sym, ◌∙◌}
use native.Mathlib.Omega.{arith}
use lib.ListN.{length}
use Rattle.room.specs.RoomLaws.{board-periods}
use Rattle.admission.specs.Calls.{HardCall}
use Rattle.admission.specs.Accepted.{HardAccepted, hard-accepted}
use Rattle.hard.proofs.Ready.{cleared-used}
use Rattle.decode_exact.specs.ExactAnswerLaws.{core-accepted, exact-refused, exact-done}
use Rattle.decode_exact.proofs.decode_exact.Goals as goal
use Rattle.admission.specs.CallsGiven.{hard_call_of}

pub exact_core-answer-requires : goal.exact_core-answer-requires
exact_core-answer-requires c =
    let k : HardCall =
    let a = c.args in
    hard_call_of a.call in
    let accepted : HardAccepted k (length c.args.counts.now) (length c.args.units.now) = hard-accepted k _ _ (sym c.hard_admission-admitted.ensures ∙ c.in-Ok.is) in
    core-accepted _ _ _ accepted

pub used_by_tables-used-requires : goal.used_by_tables-used-requires
used_by_tables-used-requires c =
    let k : HardCall =
    let a = c.args in
    hard_call_of a.call in
    let accepted : HardAccepted k (length c.args.counts.now) (length c.args.units.now) = hard-accepted k _ _ (sym c.hard_admission-admitted.ensures ∙ c.in-Ok.is) in
    board-periods _ accepted.board

pub clear-requires : goal.clear-requires
clear-requires c =
    let k : HardCall =
    let a = c.args in
    hard_call_of a.call in
    let accepted : HardAccepted k (length c.args.counts.now) (length c.args.units.now) = hard-accepted k _ _ (sym c.hard_admission-admitted.ensures ∙ c.in-Ok.is) in
    omega (arith, accepted.room.0, c.used_by_tables-used.ensures)

pub clear-requires-in-Ok : goal.clear-requires-in-Ok
clear-requires-in-Ok c =
    let k : HardCall =
    let a = c.args in
    hard_call_of a.call in
    let accepted : HardAccepted k (length c.args.counts.now) (length c.args.units.now) = hard-accepted k _ _ (sym c.hard_admission-admitted.ensures ∙ c.in-Ok.is) in
    omega (arith, accepted.room.1, c.exact_core-answer.ensures.units.len, c.used_by_tables-used.ensures)

pub returns-in-Err : goal.returns-in-Err
returns-in-Err c =
    let k : HardCall =
    let a = c.args in
    hard_call_of a.call in
    exact-refused k c.args.counts.now c.args.units.now c.hard_admission-admitted.result c.hard_admission-admitted.ensures _ c.in-Err.is

pub returns-in-Ok : goal.returns-in-Ok
returns-in-Ok c =
    let k : HardCall =
    let a = c.args in
    hard_call_of a.call in
    let accepted : HardAccepted k (length c.args.counts.now) (length c.args.units.now) = hard-accepted k _ _ (sym c.hard_admission-admitted.ensures ∙ c.in-Ok.is) in
    exact-done k c.args.counts.now c.args.units.now c.hard_admission-admitted.result c.hard_admission-admitted.ensures _ _ _ _ c.in-Ok.is accepted c.exact_core-answer.ensures
    (cleared-used _ _ _ _ _ c.used_by_tables-used.ensures c.clear.ensures)
    (cleared-used _ _ _ _ _ c.used_by_tables-used.ensures c.clear-in-Ok.ensures)
