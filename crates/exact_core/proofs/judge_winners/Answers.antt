use Rattle.exact.specs.SelectLaws.{list-units}
use Rattle.exact_core.specs.ExactCoreLaws.{winners-judged}
use Rattle.exact_core.proofs.judge_winners.Goals as goal
use Rattle.board.specs.Given.{board_of, list_of}

pub unit_sum-total-requires : goal.unit_sum-total-requires
unit_sum-total-requires c = list-units (let a = c.args in list_of a.list) c.requires.runner-up.list

pub returns : goal.returns
returns c =
    let a = c.args in
    winners-judged (board_of c.args.tables) (let a = c.args in list_of a.list) a.transforms.now a.w a.runner a.p c.unit_sum-total.result c.weight_at-runner_weight.result _ c.unit_sum-total.ensures c.weight_at-runner_weight.ensures c.judge_exact.ensures
