-- `part`: what is asked for is there, or it is not.
use Rattle.std.proofs.Common.{◌+◌, ◌≤◌, ◌<◌, ◌∙◌, sym, length, arith}
use borrow.Author.Tests.{ltb-true, ltb-false}
use Rattle.slices.specs.Part.{part_none, part-some}
use Rattle.slices.proofs.part.part.Goals as goal
use Rattle.slices.proofs.part.part.Goals.{then-from-xs, else-from-xs}

pub returns-then-n-xs : goal.returns-then-n-xs
returns-then-n-xs g c =
    let few : length c.args.xs.now < c.args.from + c.args.n = elim c.if-from-xs.branch [
      | then-from-xs w ↦ omega arith
      | else-from-xs w ↦ omega (arith, ltb-true, sym w.value-is ∙ c.if-n-xs.true)
    ] in
    part_none c.args.xs.now c.args.from c.args.n few

pub returns-else-n-xs : goal.returns-else-n-xs
returns-else-n-xs g c =
    let enough : c.args.from + c.args.n ≤ length c.args.xs.now = elim c.if-from-xs.branch [
      | then-from-xs w ↦ omega (arith, ltb-false, sym w.value-is ∙ c.if-n-xs.false)
      | else-from-xs w ↦ omega (arith, ltb-false, sym w.value-is ∙ c.if-n-xs.false)
    ] in
    part-some c.args.xs.now c.args.from c.args.n enough
