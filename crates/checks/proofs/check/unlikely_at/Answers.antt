-- `unlikely_at`: the likelihood is there and tested, or there is none.
use Rattle.std.proofs.Common.{not, Float, rules, tests, arith}
use Rattle.std.specs.Float.{nan}
use lib.Ieee.{le, lt, eq}
use Rattle.likelihood.specs.Likelihood.{acceptable}
use Rattle.checks.proofs.Answered.{told-of_get}
use Rattle.checks.proofs.check.unlikely_at.Goals as goal

pub returns : goal.returns
unfolding acceptable le lt eq
returns c =
    let h = c.get.ensures.lookup in
    told-of_get (λ (x : Float). not (acceptable x)) nan _ _ c.get.result _ _ (h.4 (omega arith) nan) c.is_none_or.ensures
    (λ e. search rules) (λ x k. search (rules, tests))
