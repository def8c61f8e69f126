-- `front`: the front has n elements.
use mathlib.Core.Path.{sym}
use lib.Seq.{length-take-le, take_all}
use native.Mathlib.Omega.{arith}
use Rattle.slices.proofs.part.front.Goals as goal

pub slice_bounds-result-end : goal.slice_bounds-result-end
slice_bounds-result-end g c = sym (length-take-le c.args.n c.args.xs.now c.if-n-xs.true)

pub returns-else-n-xs : goal.returns-else-n-xs
returns-else-n-xs g c = sym (take_all c.args.n c.args.xs.now (omega (arith, c.if-n-xs.false)))
