use mathlib.Core.Path.{◌∙◌}
use Rattle.tally_checks.proofs.JudgedLaws.{moved_nowhere, moved_at}
use Rattle.tally_checks.proofs.moved.Goals as goal

pub returns-in-None : goal.returns-in-None
returns-in-None c = c.numbered.ensures ∙ moved_nowhere _ _ _ c.in-None.is

pub returns-in-Some : goal.returns-in-Some
returns-in-Some c = c.edge_refusal.ensures ∙ moved_at _ _ _ _ c.in-Some.is
