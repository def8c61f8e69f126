use mathlib.Core.Path.{sym, ◌∙◌}
use Rattle.part_select.proofs.SelectLaws.{winner-few, finish-over, finish-within}
use Rattle.part_select.proofs.finish.finish_with.Goals as goal

pub over_limit-requires : goal.over_limit-requires
over_limit-requires c = winner-few c.args.edges c.args.c c.winner_of-winner.result c.requires c.winner_of-winner.ensures

pub returns-then-over_limit : goal.returns-then-over_limit
returns-then-over_limit c = c.none_within.ensures ∙ finish-over c.args.edges c.args.error_limit c.args.c c.args.next _ c.winner_of-winner.ensures (sym c.over_limit.ensures ∙ c.if-over_limit.true)

pub returns : goal.returns
returns c = finish-within c.args.edges c.args.error_limit c.args.c c.args.next _ c.winner_of-winner.ensures (sym c.over_limit.ensures ∙ c.if-over_limit.false)
