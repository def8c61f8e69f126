use mathlib.Core.Path.{sym, ◌∙◌}
use Rattle.soft.specs.ScanLaws.{offer-first, offer-second, offer-none}
use Rattle.soft.proofs.record.offer.Goals as goal

pub returns-then-takes : goal.returns-then-takes
returns-then-takes c = offer-first c.args.scan c.args.c (sym c.takes.ensures ∙ c.if-takes.true)

pub returns-then-takes-2 : goal.returns-then-takes-2
returns-then-takes-2 c =
    offer-second c.args.scan c.args.c (sym c.takes.ensures ∙ c.if-takes.false) (sym c.takes-2.ensures ∙ c.if-takes-2.true)

pub returns : goal.returns
returns c =
    offer-none c.args.scan c.args.c (sym c.takes.ensures ∙ c.if-takes.false) (sym c.takes-2.ensures ∙ c.if-takes-2.false)
