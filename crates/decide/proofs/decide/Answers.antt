-- The selection's promise, with the gate's verdict on it.
use mathlib.Core.Path.{ap, ◌∙◌}
use lib.ListN.{length}
use Rattle.decide.specs.Decide.{gated}
use Rattle.decide.proofs.decide.Goals as goal

pub returns : goal.returns
returns c =
    let d = c.select-selection.ensures in
    let a = c.args in
    record { answer = c.ask_gate.ensures ∙ ap (gated (length a.list.edges.rows.now)) d.answer; rooms = d.rooms }
