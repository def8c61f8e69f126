-- `first_bad_coordinate`: what `find` found is the first edge that is bad, or there is none.
use Rattle.std.proofs.Common.{◌≡◌, ◌∙◌, true, false, length, rules, tests}
use Rattle.std.proofs.lemmas.Iterator.{first_from_Range}
use Rattle.checks.specs.Checks.{bad_coordinate, first_bad_coordinate}
use Rattle.checks.proofs.Answered.{first-of_find}
use Rattle.checks.proofs.check.first_bad_coordinate.Goals as goal

pub returns : goal.returns
unfolding first_bad_coordinate
returns c =
    let bad = bad_coordinate c.args.rows.now c.args.cols.now in
    c.unwrap_or.ensures ∙ first-of_find bad (length c.args.rows.now) c.find.result
    (first_from_Range _ _ _ _ (λ i. bad i ≡ true) (λ i. bad i ≡ false) c.find.ensures.ran (λ x q k. search (rules, tests)) (λ x q k. search (rules, tests)))
