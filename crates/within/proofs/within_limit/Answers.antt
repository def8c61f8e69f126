use Rattle.std.proofs.lemmas.Result.{err_from_is_err_and}
use mathlib.Core.Path.{sym, ◌∙◌}
use Rattle.within_admission.specs.WithinAdmission.{WithinAccepted}
use Rattle.within_admission.specs.WithinAdmissionLaws.{within-accepted}
use Rattle.within.specs.WithinLaws.{stop-inside, within-refused, within-judged}
use Rattle.within.proofs.within_limit.Goals as goal
use Rattle.board.specs.Given.{board_of, list_of}

pub walk-stop-requires : goal.walk-stop-requires
walk-stop-requires c =
    let accepted : let a = c.args in WithinAccepted (let a = c.args in list_of a.list) a.square.transform a.square.row a.square.col (board_of c.args.tables) a.error_limit = within-accepted _ _ _ _ _ _ (sym c.within_admission.ensures ∙ c.in_ok-within_admission.was) in
    accepted

pub conclude-requires : goal.conclude-requires
conclude-requires c =
    let accepted : let a = c.args in WithinAccepted (let a = c.args in list_of a.list) a.square.transform a.square.row a.square.col (board_of c.args.tables) a.error_limit = within-accepted _ _ _ _ _ _ (sym c.within_admission.ensures ∙ c.in_ok-within_admission.was) in
    let a = c.args in record {
      columns = (accepted).columns;
      hits_le_read = stop-inside (let a = c.args in list_of a.list) a.square.transform a.square.row a.square.col (board_of c.args.tables) a.error_limit _ c.walk-stop.ensures;
    }

pub returns-in_err-within_admission : goal.returns-in_err-within_admission
returns-in_err-within_admission c =
    let p = err_from_is_err_and c.from_residual.result c.from_residual.ensures.1 in
    rw (p.1, p.2)
    (let a = c.within_admission in within-refused _ _ _ _ _ _ a.result a.ensures _ c.in_err-within_admission.was)

pub returns : goal.returns
returns c =
    let a = c.within_admission in
    within-judged _ _ _ _ _ _ a.result a.ensures c.walk-stop.result _ c.in_ok-within_admission.was c.walk-stop.ensures c.conclude.ensures
