-- A call is refused early with its room untouched, or its core is run and what was used is cleared.
use mathlib.Core.Path.{sym, ◌∙◌}
use native.Mathlib.Omega.{arith}
use lib.ListN.{length}
use Rattle.room.specs.RoomLaws.{board-periods}
use Rattle.admission.specs.Accepted.{soft-accepted}
use Rattle.hard.proofs.Ready.{cleared-used}
use Rattle.decode_soft.specs.SoftAnswerLaws.{soft-refused, soft-done}
use Rattle.decode_soft.proofs.decode_soft.Goals as goal
use Rattle.admission.specs.CallsGiven.{soft_call_of}

pub returns-in-Err : goal.returns-in-Err
returns-in-Err c =
    let a = c.args in
    let k =
    soft_call_of a.call in
    soft-refused k a.counts.now a.weights.now a.sums.now c.soft_admission-admitted.result c.soft_admission-admitted.ensures _ c.in-Err.is

-- the call was accepted
pub soft_core-answer-requires : goal.soft_core-answer-requires
soft_core-answer-requires c =
    let a = c.args in
    let k =
    soft_call_of a.call in
    let ok = soft-accepted k (length a.counts.now) (length a.weights.now) (length a.sums.now) (sym c.soft_admission-admitted.ensures ∙ c.in-Ok.is) in
    ok

pub used_by_tables-used-requires : goal.used_by_tables-used-requires
used_by_tables-used-requires c =
    let a = c.args in
    let k =
    soft_call_of a.call in
    let ok = soft-accepted k (length a.counts.now) (length a.weights.now) (length a.sums.now) (sym c.soft_admission-admitted.ensures ∙ c.in-Ok.is) in
    board-periods _ ok.hard.board

pub clear-requires : goal.clear-requires
clear-requires c =
    let a = c.args in
    let k =
    soft_call_of a.call in
    let ok = soft-accepted k (length a.counts.now) (length a.weights.now) (length a.sums.now) (sym c.soft_admission-admitted.ensures ∙ c.in-Ok.is) in
    omega (arith, ok.hard.room.0, c.soft_core-answer.ensures.counts.len, c.used_by_tables-used.ensures)

pub clear-requires-in-Ok : goal.clear-requires-in-Ok
clear-requires-in-Ok c =
    let a = c.args in
    let k =
    soft_call_of a.call in
    let ok = soft-accepted k (length a.counts.now) (length a.weights.now) (length a.sums.now) (sym c.soft_admission-admitted.ensures ∙ c.in-Ok.is) in
    omega (arith, ok.hard.room.1, c.soft_core-answer.ensures.weights.len, c.used_by_tables-used.ensures)

pub used_by_sums-used_sums-requires : goal.used_by_sums-used_sums-requires
used_by_sums-used_sums-requires c =
    let a = c.args in
    let k =
    soft_call_of a.call in
    let ok = soft-accepted k (length a.counts.now) (length a.weights.now) (length a.sums.now) (sym c.soft_admission-admitted.ensures ∙ c.in-Ok.is) in
    board-periods _ ok.hard.board

pub clear-requires-in-Ok-2 : goal.clear-requires-in-Ok-2
clear-requires-in-Ok-2 c =
    let a = c.args in
    let k =
    soft_call_of a.call in
    let ok = soft-accepted k (length a.counts.now) (length a.weights.now) (length a.sums.now) (sym c.soft_admission-admitted.ensures ∙ c.in-Ok.is) in
    omega (arith, ok.room, c.soft_core-answer.ensures.sums.len, c.used_by_sums-used_sums.ensures)

pub returns-in-Ok : goal.returns-in-Ok
returns-in-Ok c =
    let a = c.args in
    let k =
    soft_call_of a.call in
    let ok = soft-accepted k (length a.counts.now) (length a.weights.now) (length a.sums.now) (sym c.soft_admission-admitted.ensures ∙ c.in-Ok.is) in
    soft-done k a.counts.now a.weights.now a.sums.now c.soft_admission-admitted.result c.soft_admission-admitted.ensures _ _ _ _ _ _ _ c.in-Ok.is ok
    c.soft_core-answer.ensures
    (cleared-used _ _ _ _ _ c.used_by_tables-used.ensures c.clear.ensures)
    (cleared-used _ _ _ _ _ c.used_by_tables-used.ensures c.clear-in-Ok.ensures)
    (cleared-used _ _ _ _ _ c.used_by_sums-used_sums.ensures c.clear-in-Ok-2.ensures)
