-- `first_bad_confidence`: what `position` found is the first that is no number from 0 to 1.
use Rattle.std.proofs.Common.{◌∙◌, not, Float, rules, tests}
use Rattle.std.specs.Float.{nan}
use Rattle.std.proofs.lemmas.Iterator.{YieldsList-from_slice}
use Rattle.std.proofs.lemmas.Iterator.Search.{position_from_yields_List}
use lib.Ieee.{of_bits}
use Rattle.laws.specs.Words.{one_f}
use Rattle.ranges.specs.Ranges.{in_range, first_bad_confidence}
use Rattle.ranges.proofs.Positions.{first-of_position}
use Rattle.ranges.proofs.first_bad_confidence.Goals as goal

pub returns : goal.returns
unfolding first_bad_confidence of_bits
returns c =
    c.unwrap_or.ensures ∙ first-of_position (λ (x : Float). not (in_range one_f x)) c.args.xs.now nan c.position.result
    (position_from_yields_List _ _ _ c.position.result c.position.ensures.ran (YieldsList-from_slice c.args.xs.now cc) (λ x b q k. search (rules, tests)))
