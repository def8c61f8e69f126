use lib.ListN.{length}
use Rattle.exact.specs.Select.{units_to}
use Rattle.part_core.proofs.PartCoreLaws.{winners-judged}
use Rattle.part_core.proofs.judge_winners.Goals as goal

pub returns : goal.returns
returns c =
    let a = c.args in
    winners-judged (length a.rows.now) (units_to a.confidences.now (length a.confidences.now)) a.transforms.now a.w a.next a.p c.unit_sum-total.result c.shown_beside-beside.result _ c.unit_sum-total.ensures c.shown_beside-beside.ensures c.judge_part.ensures
