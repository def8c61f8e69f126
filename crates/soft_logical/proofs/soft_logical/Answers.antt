use Rattle.std.proofs.lemmas.Result.{err_from_is_err_and}
use native.Mathlib.Omega.{arith}
use Rattle.hard.proofs.Ready.{ready-logical, logical-winner}
use Rattle.soft_logical.specs.LogicalLaws.{logical-refused, fit-ready, verdict-refused, own-few, verdict-found}
use Rattle.soft_logical.proofs.soft_logical.Goals as goal
use Rattle.admission.specs.CallsGiven.{hard_call_of}

pub select-requires : goal.select-requires
select-requires c =
    let a = c.args in
    let k =
    hard_call_of a.call in
    let p = c.requires.hard_accepted in
    ready-logical k a.counts.now a.weights.now p

pub bounds-call-at : goal.bounds-call-at
bounds-call-at c = c.requires.listed_in_bounds.0

pub bounds-call-behind : goal.bounds-call-behind
bounds-call-behind c = c.requires.listed_in_bounds.1

-- the hard winner of the logical list is listed
pub bounds-call-other : goal.bounds-call-other
bounds-call-other c =
    let a = c.args in
    let k =
    hard_call_of a.call in
    let p = c.requires.hard_accepted in
    (logical-winner k a.counts.now a.weights.now p c.select.result _ _ c.select.ensures.answer c.in_ok-w.was).0

pub overflow_cast-call : goal.overflow_cast-call
overflow_cast-call c = omega (arith, c.requires.hard_accepted.logical.few)

pub fit_of-own-requires : goal.fit_of-own-requires
fit_of-own-requires c =
    let a = c.args in
    let k =
    hard_call_of a.call in
    let p = c.requires.hard_accepted in
    fit-ready k a.counts.now a.weights.now p a.best _ _ c.select.result c.select.ensures c.requires.listed_in_bounds.0

pub overflow_cast-call-2 : goal.overflow_cast-call-2
overflow_cast-call-2 c = omega (arith, c.requires.hard_accepted.physical.few)

pub soft_decoded-requires : goal.soft_decoded-requires
soft_decoded-requires c =
    let a = c.args in
    let k =
    hard_call_of a.call in
    let p = c.requires.hard_accepted in
    let v = c.soft_verdict in
    (own-few k a.counts.now a.weights.now p a.best _ _ c.select.result c.select.ensures c.in_ok-w.w c.in_ok-w.runner c.in_ok-w.was v.result v.ensures _ _ _ c.fit_of-own.ensures, p.physical.few)

pub returns-in_err-w : goal.returns-in_err-w
returns-in_err-w c =
    let p = err_from_is_err_and c.from_residual.result c.from_residual.ensures.1 in
    rw (p.1, p.2)
    (let a = c.args in
    let k =
    hard_call_of a.call in
    let p = c.requires.hard_accepted in
    logical-refused k a.counts.now a.weights.now p a.best _ _ c.select.result c.select.ensures _ c.in_err-w.was)

pub returns-in_err-soft_verdict : goal.returns-in_err-soft_verdict
returns-in_err-soft_verdict c =
    let p = err_from_is_err_and c.from_residual-in_err-soft_verdict.result c.from_residual-in_err-soft_verdict.ensures.1 in
    rw (p.1, p.2)
    (let a = c.args in
    let k =
    hard_call_of a.call in
    let p = c.requires.hard_accepted in
    let v = c.soft_verdict in
    verdict-refused k a.counts.now a.weights.now p a.best _ _ c.select.result c.select.ensures c.in_ok-w.w c.in_ok-w.runner c.in_ok-w.was v.result v.ensures _ c.in_err-soft_verdict.was)

pub returns : goal.returns
returns c =
    let a = c.args in
    let k =
    hard_call_of a.call in
    let p = c.requires.hard_accepted in
    let v = c.soft_verdict in
    verdict-found k a.counts.now a.weights.now p a.best _ _ c.select.result c.select.ensures c.in_ok-w.w c.in_ok-w.runner c.in_ok-w.was v.result v.ensures _ _ _ c.fit_of-own.ensures _ c.in_ok-soft_verdict.was c.soft_decoded.ensures
