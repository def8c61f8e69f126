use Rattle.std.proofs.lemmas.Result.{err_from_is_err_and}
use Rattle.std.specs.Prelude.{Err}
use mathlib.Core.Path.{ap, ◌∙◌}
use Rattle.tally_checks.proofs.JudgedLaws.{there-refused, there-none, there-taken}
use Rattle.tally_checks.proofs.judge_there.Goals as goal

pub returns-then-count_of-eq0 : goal.returns-then-count_of-eq0
returns-then-count_of-eq0 c = ap Err c.numbered.ensures ∙ there-none _ _ _ _ _ c.judge_edge.result c.judge_edge.ensures _ c.in_ok-hit.was c.count_of.result c.count_of.ensures c.if-count_of-eq0.true

pub returns-in_err-hit : goal.returns-in_err-hit
returns-in_err-hit c =
    let p = err_from_is_err_and c.from_residual.result c.from_residual.ensures.1 in
    rw (p.1, p.2)
    (there-refused _ _ _ _ _ c.judge_edge.result c.judge_edge.ensures _ c.in_err-hit.was)

pub returns : goal.returns
returns c = there-taken _ _ _ _ _ c.judge_edge.result c.judge_edge.ensures _ c.in_ok-hit.was c.count_of.result c.count_of.ensures c.if-count_of-eq0.false
