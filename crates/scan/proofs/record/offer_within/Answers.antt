use mathlib.Core.Path.{sym, ◌∙◌}
use Rattle.scan.specs.ScanLaws.{offered-over, offered-left, offered-taken}
use Rattle.scan.proofs.record.offer_within.Goals as goal

pub returns-then-over_limit : goal.returns-then-over_limit
returns-then-over_limit c = sym (offered-over _ _ _ _ (sym c.over_limit.ensures ∙ c.if-over_limit.true))

pub returns-then-takes_over : goal.returns-then-takes_over
returns-then-takes_over c = sym (offered-taken _ _ _ _ (sym c.takes_over.ensures ∙ c.if-takes_over.true) (sym c.over_limit.ensures ∙ c.if-over_limit.false))

pub returns : goal.returns
returns c = sym (offered-left _ _ _ _ (sym c.takes_over.ensures ∙ c.if-takes_over.false))
