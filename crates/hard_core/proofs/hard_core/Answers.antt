use lib.Ieee.{of_bits}
use Rattle.std.proofs.lemmas.Result.{err_from_is_err_and}
use Rattle.hard.proofs.Ready.{logical-winner, physical-winner}
use Rattle.admission.specs.CallsGiven.{hard_call_of}
use Rattle.hard_core.specs.HardLaws.{core-refused, core-physical-refused, core-judged}
use Rattle.hard_core.proofs.hard_core.Goals as goal

pub returns-in_err-w : goal.returns-in_err-w
returns-in_err-w c =
    let p = err_from_is_err_and c.from_residual.result c.from_residual.ensures.1 in
    rw (p.1, p.2) (core-refused (hard_call_of c.args.call) _ _ c.requires _ _ c.select.result c.select.ensures _ c.in_err-w.was)

pub returns-in_err-p : goal.returns-in_err-p
unfolding of_bits
returns-in_err-p c =
    let p = err_from_is_err_and c.from_residual-in_err-p.result c.from_residual-in_err-p.ensures.1 in
    rw (p.1, p.2) (core-physical-refused (hard_call_of c.args.call) _ _ c.requires _ _ c.select.result c.select.ensures _ _ c.in_ok-w.was _ _ c.select-2.result c.select-2.ensures _ c.in_err-p.was)

pub bounds-call-at : goal.bounds-call-at
bounds-call-at c =
    let a = c.args in
    (logical-winner (hard_call_of a.call) a.counts.now a.weights.now c.requires c.select.result _ _ c.select.ensures.answer c.in_ok-w.was).0

pub bounds-call-other : goal.bounds-call-other
unfolding of_bits
bounds-call-other c =
    let a = c.args in
    physical-winner (hard_call_of a.call) a.counts.now a.weights.now c.requires c.select-2.result _ _ c.select-2.ensures.answer c.in_ok-p.was

pub judge-requires : goal.judge-requires
judge-requires c =
    let a = c.args in
    let w = logical-winner (hard_call_of a.call) a.counts.now a.weights.now c.requires c.select.result _ _ c.select.ensures.answer c.in_ok-w.was in
    (w.1, w.2, c.requires.logical.few)

pub returns : goal.returns
unfolding of_bits
returns c =
    core-judged (hard_call_of c.args.call) _ _ c.requires _ _ c.select.result c.select.ensures _ _ c.in_ok-w.was _ _ c.select-2.result c.select-2.ensures _ _ _ c.in_ok-p.was c.judge.ensures
