use mathlib.Core.Path.{sym, ap, ◌∙◌}
use Rattle.flat_part.specs.FlatPart.{next_with, flat_next}
use Rattle.flat_part.proofs.next_of.Goals as goal

pub returns-in-None : goal.returns-in-None
returns-in-None c = ap (flat_next c.args.hits) (sym c.in-None.is)

pub returns-in-Some : goal.returns-in-Some
returns-in-Some c =
    let a = c.in-Some in
    (λ i. next_with a.square a.behind a.weight (c.ahead-next_margin.ensures i)) ∙ ap (flat_next c.args.hits) (sym a.is)
