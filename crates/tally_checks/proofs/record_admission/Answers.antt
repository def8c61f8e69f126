use Rattle.std.specs.Prelude.{Err}
use mathlib.Core.Path.{sym, ap, ◌∙◌}
use Rattle.tally_checks.proofs.JudgedLaws.{record-lengths, record-rest}
use Rattle.tally_checks.proofs.record_admission.Goals as goal

pub returns-then-lengths_differ : goal.returns-then-lengths_differ
returns-then-lengths_differ c = ap Err c.numbered.ensures ∙ record-lengths _ _ (sym c.lengths_differ.ensures ∙ c.if-lengths_differ.true)

pub returns : goal.returns
returns c = c.refused_if.ensures ∙ record-rest _ _ _ c.record_bad.ensures (sym c.lengths_differ.ensures ∙ c.if-lengths_differ.false)
