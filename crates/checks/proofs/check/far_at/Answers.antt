-- `far_at`: the coordinate is there and tested, or there is none.
use Rattle.std.proofs.Common.{pos, rules, tests, arith}
use Rattle.checks.specs.Checks.{far}
use Rattle.checks.proofs.Answered.{told-of_get}
use Rattle.checks.proofs.check.far_at.Goals as goal

pub returns : goal.returns
unfolding far
returns c =
    let h = c.get.ensures.lookup in
    told-of_get far (pos 0) _ _ c.get.result _ _ (h.4 (omega arith) (pos 0)) c.is_some_and.ensures (λ e. e) (λ x k. search (rules, tests))
