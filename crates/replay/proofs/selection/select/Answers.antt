-- `select`: a list that the checks took is ready for a selection.
use Rattle.std.proofs.Common.{length, sym, ◌∙◌}
use Rattle.board.specs.Given.{list_of, board_of}
use Rattle.board.specs.Hits.{EdgeList}
use Rattle.admission.specs.Calls.{HardCall, hard_call}
use Rattle.admission.specs.Accepted.{hard-accepted}
use Rattle.hard.proofs.Ready.{ready-logical}
use Rattle.replay.proofs.selection.select.Goals as goal

pub select-requires : goal.select-requires
select-requires c =
    let a = c.args in
    let E : EdgeList = list_of a.call.logical in
    let call : HardCall = hard_call E E a.call.transforms.now (board_of a.call.tables) a.call.error_limit in
    ready-logical call a.counts.now a.weights.now (hard-accepted call (length a.counts.now) (length a.weights.now) (sym c.hard_admission.ensures ∙ c.in_ok-hard_admission.was))
