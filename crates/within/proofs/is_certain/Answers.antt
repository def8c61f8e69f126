use mathlib.Core.Path.{sym, ◌∙◌}
use Rattle.within.specs.WithinLaws.{certain-yes, certain-no}
use Rattle.within.proofs.is_certain.Goals as goal

pub returns-then-allowed : goal.returns-then-allowed
returns-then-allowed c = certain-yes _ _ _ _ (sym c.allowed.ensures ∙ c.if-allowed.true)

pub returns : goal.returns
returns c = certain-no _ _ _ _ (sym c.allowed.ensures ∙ c.if-allowed.false) c.allowed-2.result c.allowed-2.ensures
