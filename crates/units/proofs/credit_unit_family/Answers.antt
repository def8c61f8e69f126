-- A family whose six values are 0 together has terms of 0, so that storing nothing is crediting it.
use mathlib.Core.Path.{sym, ◌∙◌}
use Rattle.units.specs.UnitPartsLaws.{family-empty_u}
use Rattle.units.proofs.credit_unit_family.Goals as goal
use Rattle.board.specs.Given.{board_of}

-- no edge is held: nothing is stored
pub returns-else-values_held-ne0 : goal.returns-else-values_held-ne0
returns-else-values_held-ne0 c = family-empty_u (board_of c.args.tables) c.args.side c.args.family c.args.units.now (sym c.values_held.ensures ∙ c.if-values_held-ne0.false)
