use mathlib.Core.Path.{◌∙◌}
use Rattle.folding.specs.TransformLaws.{sole-pair}
use Rattle.folding.proofs.transform.best_origin.Goals as goal

pub returns-then-b-eq1 : goal.returns-then-b-eq1
returns-then-b-eq1 c =
    let p = c.requires in
    c.key_of.ensures ∙ sole-pair _ _ p.0 p.1 _ _ _ p.2 c.if-a-eq1.true c.if-b-eq1.true
