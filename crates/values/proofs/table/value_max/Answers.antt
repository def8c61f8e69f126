use mathlib.Core.Path.{sym, ap, subst, ◌∙◌}
use Rattle.values.specs.Values.{value_around, value_of}
use Rattle.values.specs.ValuesLaws.{Top, best-top}
use Rattle.values.proofs.table.value_max.Goals as goal

pub value_around-requires : goal.value_around-requires
value_around-requires c =
    let s = c in
    (s.requires, c.value_best.ensures.1, subst (Top s.args.values.now) (sym c.value_best.ensures.0) (best-top s.args.values.now))

pub returns : goal.returns
unfolding value_of
returns c = c.value_around.ensures ∙ ap (value_around c.args.values.now) c.value_best.ensures.0
