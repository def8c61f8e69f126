use mathlib.Core.Path.{sym, ◌∙◌}
use Rattle.exact_scan.specs.ExactLaws.{finish-over, finish-within}
use Rattle.exact_scan.proofs.finish.finish_one.Goals as goal

pub returns-then-over_limit : goal.returns-then-over_limit
returns-then-over_limit c =
    let s = c in
    let h = c.hits_of-hits in
    c.none_within.ensures ∙ finish-over s.args.edges s.args.error_limit s.args.positions s.args.best h.result h.ensures (sym c.over_limit.ensures ∙ c.if-over_limit.true)

pub returns : goal.returns
returns c =
    let s = c in
    let h = c.hits_of-hits in
    finish-within s.args.edges s.args.error_limit s.args.positions s.args.best h.result h.ensures c.weight_of-weight.result c.runner_up-runner_up.result (sym c.over_limit.ensures ∙ c.if-over_limit.false) c.weight_of-weight.ensures c.runner_up-runner_up.ensures
