-- A family whose twelve sums are all 0 has terms of 0, so that storing nothing is crediting it.
use mathlib.Core.Path.{sym, ◌∙◌}
use Rattle.sums.specs.SumPartsLaws.{family-empty_z}
use Rattle.sums.proofs.sums.credit_sum_family.Goals as goal
use Rattle.board.specs.Given.{board_of}

-- all sums are 0: nothing is stored
pub returns-else-some_sum : goal.returns-else-some_sum
returns-else-some_sum c =
    let a = c.args in
    family-empty_z (board_of a.tables) a.side a.also a.family a.sums.now (sym c.some_sum.ensures ∙ c.if-some_sum.false)
