use Rattle.std.proofs.lemmas.Result.{err_from_is_err_and}
use Rattle.std.specs.Prelude.{Err}
use mathlib.Core.Path.{sym, ap, ◌∙◌}
use Rattle.tally_checks.proofs.JudgedLaws.{add-record, add-full, add-edge}
use Rattle.tally_checks.proofs.judge_add.Goals as goal

pub returns-then-is_full : goal.returns-then-is_full
returns-then-is_full c = ap Err c.numbered.ensures ∙ add-full _ _ _ _ _ c.record_admission.result c.record_admission.ensures c.in_ok-record_admission.was (sym c.is_full.ensures ∙ c.if-is_full.true)

pub returns-in_err-record_admission : goal.returns-in_err-record_admission
returns-in_err-record_admission c =
    let p = err_from_is_err_and c.from_residual.result c.from_residual.ensures.1 in
    rw (p.1, p.2)
    (add-record _ _ _ _ _ c.record_admission.result c.record_admission.ensures _ c.in_err-record_admission.was)

pub returns : goal.returns
returns c = c.judge_edge.ensures ∙ add-edge _ _ _ _ _ c.record_admission.result c.record_admission.ensures c.in_ok-record_admission.was (sym c.is_full.ensures ∙ c.if-is_full.false)
