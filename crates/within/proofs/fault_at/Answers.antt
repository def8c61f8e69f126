use mathlib.Core.Path.{ap, ◌∙◌}
use lib.ListN.{get_or}
use lib.Ieee.{nan}
use Rattle.board.specs.declared.edge.Edge.{Edge}
use Rattle.within_admission.specs.WithinAdmission.{fault_of}
use Rattle.within.proofs.fault_at.Goals as goal

pub returns : goal.returns
returns c = let a = c.args in c.fault_of.ensures ∙ ap (λ (e : Edge). fault_of e (get_or a.list.confidences.now a.i nan)) c.edge_at-edge.ensures
