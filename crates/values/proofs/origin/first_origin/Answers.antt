use mathlib.Core.Path.{◌∙◌}
use Rattle.values.specs.ValuesLaws.{sole-pair}
use Rattle.values.proofs.origin.first_origin.Goals as goal

pub returns-then-b-eq1 : goal.returns-then-b-eq1
returns-then-b-eq1 c =
    let two = c in
    let s = c in
    let a = s.args in
    c.key_of.ensures ∙ sole-pair a.periods.h a.periods.v a.hs.now a.vs.now a.a a.b s.requires.0 s.requires.1 s.requires.2 c.if-a-eq1.true two.if-b-eq1.true
