-- `first_bad_byte`: what `position` found is the first byte above top.
use Rattle.std.proofs.Common.{◌∙◌, ltb, rules, tests}
use Rattle.std.proofs.lemmas.Iterator.{YieldsList-from_slice}
use Rattle.std.proofs.lemmas.Iterator.Search.{position_from_yields_List}
use Rattle.ranges.specs.Ranges.{first_bad_byte}
use Rattle.ranges.proofs.Positions.{first-of_position}
use Rattle.ranges.proofs.first_bad_byte.Goals as goal

pub returns : goal.returns
unfolding first_bad_byte
returns c =
    c.unwrap_or.ensures ∙ first-of_position (ltb c.args.top) c.args.xs.now 0 c.position.result
    (position_from_yields_List _ _ _ c.position.result c.position.ensures.ran (YieldsList-from_slice c.args.xs.now cc) (λ x b q k. search (rules, tests)))
