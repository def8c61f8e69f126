-- `first_bad_likelihood`: what `find` found is the first edge that is bad, or there is none.
use Rattle.std.proofs.Common.{◌≡◌, ◌∙◌, true, false, length, rules, tests}
use Rattle.std.proofs.lemmas.Iterator.{first_from_Range}
use Rattle.checks.specs.Checks.{bad_likelihood, first_bad_likelihood}
use Rattle.checks.proofs.Answered.{first-of_find}
use Rattle.checks.proofs.check.first_bad_likelihood.Goals as goal

pub returns : goal.returns
unfolding first_bad_likelihood
returns c =
    let bad = bad_likelihood c.args.matches.now c.args.mismatches.now in
    c.unwrap_or.ensures ∙ first-of_find bad (length c.args.matches.now) c.find.result
    (first_from_Range _ _ _ _ (λ i. bad i ≡ true) (λ i. bad i ≡ false) c.find.ensures.ran (λ x q k. search (rules, tests)) (λ x q k. search (rules, tests)))
