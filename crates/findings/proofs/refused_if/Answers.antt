-- The test holds, or it does not.
use Rattle.std.specs.Prelude.{Err}
use mathlib.Core.Path.{ap, sym, ◌∙◌}
use Rattle.findings.proofs.refused_if.Goals as goal

pub returns-then-bad : goal.returns-then-bad
returns-then-bad c = ap Err c.numbered.ensures ∙ sym (rw c.if-bad.true)
