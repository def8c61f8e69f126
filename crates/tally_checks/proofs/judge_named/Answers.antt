use Rattle.std.proofs.lemmas.Result.{err_from_is_err_and}
use native.Mathlib.Omega.{arith}
use Rattle.board.specs.declared.edge.Edge.{Edge}
use Rattle.tally_checks.specs.Judged.{judged_there, confidence_at}
use Rattle.tally_checks.proofs.JudgedLaws.{RecordOk, record-ok, named-record, named-missing, named-there}
use mathlib.Core.Path.{sym, ap, ◌∙◌}
use Rattle.tally_checks.proofs.judge_named.Goals as goal
use Rattle.board.specs.Given.{board_of, list_of}

-- the record may be that of the list

pub returns-then-tally-position : goal.returns-then-tally-position
returns-then-tally-position c = c.judge_missing.ensures ∙ named-missing _ _ _ _ c.record_admission.result c.record_admission.ensures c.in_ok-record_admission.was c.if-tally-position.true

pub edge_at-edge-requires : goal.edge_at-edge-requires
edge_at-edge-requires c =
    let known : RecordOk (let a = c.args in list_of a.list) c.args.tally = record-ok _ _ (sym c.record_admission.ensures ∙ c.in_ok-record_admission.was) in
    let k = known in (omega (arith, k.few), omega (arith, k.few, k.cols), omega (arith, k.few, k.orientations), omega (arith, k.few, k.bits))

pub bounds-list-i : goal.bounds-list-i
bounds-list-i c =
    let known : RecordOk (let a = c.args in list_of a.list) c.args.tally = record-ok _ _ (sym c.record_admission.ensures ∙ c.in_ok-record_admission.was) in
    let k = known in omega (arith, k.few, k.confidences, c.if-tally-position.false)

pub returns-in_err-record_admission : goal.returns-in_err-record_admission
returns-in_err-record_admission c =
    let p = err_from_is_err_and c.from_residual.result c.from_residual.ensures.1 in
    rw (p.1, p.2)
    (named-record _ _ _ _ c.record_admission.result c.record_admission.ensures _ c.in_err-record_admission.was)

pub returns : goal.returns
returns c = c.judge_there.ensures ∙ ap (λ (e : Edge). judged_there e (confidence_at (let a = c.args in list_of a.list) c.args.position) c.args.position c.args.tally (board_of c.args.tables)) c.edge_at-edge.ensures ∙ named-there _ _ _ _ c.record_admission.result c.record_admission.ensures c.in_ok-record_admission.was c.if-tally-position.false
