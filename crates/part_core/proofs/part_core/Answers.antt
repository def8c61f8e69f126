use Rattle.std.proofs.lemmas.Result.{err_from_is_err_and}
use mathlib.Core.Path.{sym, ◌∙◌}
use lib.Ieee.{of_bits}
use Rattle.part_core.specs.PartReady.{logical-asks, physical-asks, judge-asks}
use Rattle.part_core.proofs.PartCoreLaws.{still-room, core-refused, core-physical-refused, core-judged}
use Rattle.part_core.proofs.part_core.Goals as goal
use Rattle.admission.specs.CallsGiven.{hard_call_of}

-- the start, seen from the first selection; the first selection, seen from the second

pub select_part-requires : goal.select_part-requires
select_part-requires c =
    logical-asks ((let a = c.args in
    hard_call_of a.call)) c.args.part _ _ c.requires.hard_accepted c.requires.h_len.0 c.requires.h_len.1 _ c.requires.hard_accepted.room.1

pub select_part-requires-2 : goal.select_part-requires-2
unfolding of_bits
select_part-requires-2 c =
    physical-asks ((let a = c.args in
    hard_call_of a.call)) c.args.part _ _ c.requires.hard_accepted c.requires.h_len.0 c.requires.h_len.1 _
    (still-room ((let a = c.args in
    hard_call_of a.call)) c.args.part _ _ c.requires.hard_accepted c.args.units.now c.requires.hard_accepted.room.1 _ c.select_part.result c.select_part.ensures)

pub judge_winners-requires : goal.judge_winners-requires
unfolding of_bits
judge_winners-requires c =
    judge-asks ((let a = c.args in
    hard_call_of a.call)) c.args.part _ _ c.requires.hard_accepted c.requires.h_len.0 c.requires.h_len.1 c.in_ok-w.w c.in_ok-w.next (sym c.select_part.ensures.answer ∙ c.in_ok-w.was) c.in_ok-p.p _ (sym c.select_part-2.ensures.answer ∙ c.in_ok-p.was)

pub returns-in_err-w : goal.returns-in_err-w
returns-in_err-w c =
    let p = err_from_is_err_and c.from_residual.result c.from_residual.ensures.1 in
    rw (p.1, p.2)
    (core-refused ((let a = c.args in
    hard_call_of a.call)) c.args.part _ _ c.requires.hard_accepted c.args.units.now c.requires.hard_accepted.room.1 _ c.select_part.result c.select_part.ensures _ c.in_err-w.was)

pub returns-in_err-p : goal.returns-in_err-p
unfolding of_bits
returns-in_err-p c =
    let p = err_from_is_err_and c.from_residual-in_err-p.result c.from_residual-in_err-p.ensures.1 in
    rw (p.1, p.2)
    (core-physical-refused ((let a = c.args in
    hard_call_of a.call)) c.args.part _ _ c.requires.hard_accepted c.args.units.now c.requires.hard_accepted.room.1 _ c.select_part.result c.select_part.ensures c.in_ok-w.w c.in_ok-w.next c.in_ok-w.was _ c.select_part-2.result c.select_part-2.ensures _ c.in_err-p.was)

pub returns : goal.returns
unfolding of_bits
returns c =
    core-judged ((let a = c.args in
    hard_call_of a.call)) c.args.part _ _ c.requires.hard_accepted c.args.units.now c.requires.hard_accepted.room.1 _ c.select_part.result c.select_part.ensures c.in_ok-w.w c.in_ok-w.next c.in_ok-w.was _ c.select_part-2.result c.select_part-2.ensures c.in_ok-p.p _ _ c.in_ok-p.was c.judge_winners.ensures
