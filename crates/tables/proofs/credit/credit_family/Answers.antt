-- A family that holds no edge has terms of 0, so that storing nothing is crediting it.
use mathlib.Core.Path.{sym, ◌∙◌}
use Rattle.cells.specs.CreditLaws.{family-empty}
use Rattle.tables.proofs.credit.credit_family.Goals as goal
use Rattle.board.specs.Given.{board_of}

-- no edge: nothing is stored
pub returns-else-edges_held-ne0 : goal.returns-else-edges_held-ne0
returns-else-edges_held-ne0 c =
    let a = c.args in
    family-empty (board_of a.tables) a.side a.family a.counts.now a.weights.now c.requires (sym c.edges_held.ensures ∙ c.if-edges_held-ne0.false)
