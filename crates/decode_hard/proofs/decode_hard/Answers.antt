-- A call is refused early with its room untouched, or its core is run and what was used is cleared.
use mathlib.Core.Path.{sym, ◌∙◌}
use native.Mathlib.Omega.{arith}
use lib.ListN.{length}
use Rattle.room.specs.RoomLaws.{board-periods}
use Rattle.admission.specs.Accepted.{hard-accepted}
use Rattle.hard.proofs.Ready.{cleared-used}
use Rattle.decode_hard.specs.HardAnswerLaws.{hard-refused, hard-done}
use Rattle.decode_hard.proofs.decode_hard.Goals as goal
use Rattle.admission.specs.CallsGiven.{hard_call_of}

pub returns-in-Err : goal.returns-in-Err
returns-in-Err c =
    let a = c.args in
    let call = hard_call_of a.call in
    hard-refused call a.counts.now a.weights.now c.hard_admission-admitted.result c.hard_admission-admitted.ensures _ c.in-Err.is

pub hard_core-answer-requires : goal.hard_core-answer-requires
hard_core-answer-requires c =
    let a = c.args in
    let call = hard_call_of a.call in
    hard-accepted call (length a.counts.now) (length a.weights.now) (sym c.hard_admission-admitted.ensures ∙ c.in-Ok.is)

pub used_by_tables-used-requires : goal.used_by_tables-used-requires
used_by_tables-used-requires c =
    let a = c.args in
    let call = hard_call_of a.call in
    board-periods _ (hard-accepted call (length a.counts.now) (length a.weights.now) (sym c.hard_admission-admitted.ensures ∙ c.in-Ok.is)).board

pub clear-requires : goal.clear-requires
clear-requires c =
    let a = c.args in
    let call = hard_call_of a.call in
    omega (arith, (hard-accepted call (length a.counts.now) (length a.weights.now) (sym c.hard_admission-admitted.ensures ∙ c.in-Ok.is)).room.0, c.hard_core-answer.ensures.counts.len, c.used_by_tables-used.ensures)

pub clear-requires-in-Ok : goal.clear-requires-in-Ok
clear-requires-in-Ok c =
    let a = c.args in
    let call = hard_call_of a.call in
    omega (arith, (hard-accepted call (length a.counts.now) (length a.weights.now) (sym c.hard_admission-admitted.ensures ∙ c.in-Ok.is)).room.1, c.hard_core-answer.ensures.weights.len, c.used_by_tables-used.ensures)

pub returns-in-Ok : goal.returns-in-Ok
returns-in-Ok c =
    let a = c.args in
    let call = hard_call_of a.call in
    hard-done call a.counts.now a.weights.now c.hard_admission-admitted.result c.hard_admission-admitted.ensures _ _ _ _ _ c.in-Ok.is
    (hard-accepted call (length a.counts.now) (length a.weights.now) (sym c.hard_admission-admitted.ensures ∙ c.in-Ok.is)) c.hard_core-answer.ensures
    (cleared-used _ _ _ _ _ c.used_by_tables-used.ensures c.clear.ensures)
    (cleared-used _ _ _ _ _ c.used_by_tables-used.ensures c.clear-in-Ok.ensures)
