use Rattle.std.proofs.lemmas.Result.{err_from_is_err_and}
use mathlib.Core.Path.{sym, ◌∙◌}
use lib.Ieee.{of_bits}
use Rattle.exact_core.specs.ExactReady.{ready-logical, ready-physical, judge-ready}
use Rattle.exact_core.specs.ExactCoreLaws.{still-room, core-refused, core-physical-refused, core-judged}
use Rattle.exact_core.proofs.exact_core.Goals as goal
use Rattle.admission.specs.CallsGiven.{hard_call_of}

-- the start, seen from the first selection; the first selection, seen from the second

pub select_exact-requires : goal.select_exact-requires
select_exact-requires c =
    ready-logical ((let a = c.args in
    hard_call_of a.call)) _ _ c.requires _ c.requires.room.1

pub select_exact-requires-2 : goal.select_exact-requires-2
unfolding of_bits
select_exact-requires-2 c =
    ready-physical ((let a = c.args in
    hard_call_of a.call)) _ _ c.requires _ (still-room ((let a = c.args in
    hard_call_of a.call)) _ _ c.requires c.args.units.now c.requires.room.1 _ c.select_exact.result c.select_exact.ensures)

pub judge_winners-requires : goal.judge_winners-requires
unfolding of_bits
judge_winners-requires c =
    judge-ready ((let a = c.args in
    hard_call_of a.call)) _ _ c.requires c.in_ok-w.w c.in_ok-w.runner (sym c.select_exact.ensures.answer ∙ c.in_ok-w.was) c.in_ok-p.p _ (sym c.select_exact-2.ensures.answer ∙ c.in_ok-p.was)

pub returns-in_err-w : goal.returns-in_err-w
returns-in_err-w c =
    let p = err_from_is_err_and c.from_residual.result c.from_residual.ensures.1 in
    rw (p.1, p.2)
    (core-refused ((let a = c.args in
    hard_call_of a.call)) _ _ c.requires c.args.units.now c.requires.room.1 _ c.select_exact.result c.select_exact.ensures _ c.in_err-w.was)

pub returns-in_err-p : goal.returns-in_err-p
unfolding of_bits
returns-in_err-p c =
    let p = err_from_is_err_and c.from_residual-in_err-p.result c.from_residual-in_err-p.ensures.1 in
    rw (p.1, p.2)
    (core-physical-refused ((let a = c.args in
    hard_call_of a.call)) _ _ c.requires c.args.units.now c.requires.room.1 _ c.select_exact.result c.select_exact.ensures c.in_ok-w.w c.in_ok-w.runner c.in_ok-w.was _ c.select_exact-2.result c.select_exact-2.ensures _ c.in_err-p.was)

pub returns : goal.returns
unfolding of_bits
returns c =
    core-judged ((let a = c.args in
    hard_call_of a.call)) _ _ c.requires c.args.units.now c.requires.room.1 _ c.select_exact.result c.select_exact.ensures c.in_ok-w.w c.in_ok-w.runner c.in_ok-w.was _ c.select_exact-2.result c.select_exact-2.ensures c.in_ok-p.p _ _ c.in_ok-p.was c.judge_winners.ensures
