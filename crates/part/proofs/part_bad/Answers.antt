use mathlib.Core.Path.{sym, ◌∙◌}
use Rattle.part.specs.Part.{part_bad}
use Rattle.part.proofs.part_bad.Goals as goal

pub returns-then-side_bad : goal.returns-then-side_bad
unfolding part_bad
returns-then-side_bad c = simp (sym c.side_bad.ensures ∙ c.if-side_bad.true)

pub returns : goal.returns
unfolding part_bad
returns c = simp (sym c.side_bad.ensures ∙ c.if-side_bad.false, c.side_bad-2.ensures)
