-- The position is one of an edge, or it is not.
use Rattle.std.specs.Prelude.{Err}
use mathlib.Core.Path.{ap, ◌∙◌}
use Rattle.findings.specs.FindingsLaws.{at_some, at_none}
use Rattle.findings.proofs.refused_at.Goals as goal

pub returns-then-position-edges : goal.returns-then-position-edges
returns-then-position-edges c = ap Err c.edge_refusal.ensures ∙ at_some _ _ _ _ c.if-position-edges.true

pub returns : goal.returns
returns c = at_none _ _ _ _ c.if-position-edges.false
