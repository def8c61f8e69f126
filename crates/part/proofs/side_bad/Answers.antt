use native.Mathlib.Omega.{arith}
use borrow.Author.Tests.{lt-ltb, le-ltb, ne_eqb}
use Rattle.part.specs.Part.{side_bad}
use Rattle.part.proofs.side_bad.Goals as goal

pub returns-then-start-gt500 : goal.returns-then-start-gt500
unfolding side_bad
returns-then-start-gt500 c = simp (lt-ltb 500 c.args.start (omega (arith, c.if-start-gt500.true)))

pub returns-then-number-eq0 : goal.returns-then-number-eq0
unfolding side_bad
returns-then-number-eq0 c = simp (le-ltb 500 c.args.start (omega (arith, c.if-start-gt500.false)), c.if-number-eq0.true)

pub returns : goal.returns
unfolding side_bad
returns c = simp (le-ltb 500 c.args.start (omega (arith, c.if-start-gt500.false)), ne_eqb _ _ c.if-number-eq0.false)
