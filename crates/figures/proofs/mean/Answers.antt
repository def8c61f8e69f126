use Prim.Native.Nat.{◌^◌}
use native.Mathlib.Omega.{arith}
use lib.Dec.{le→leb}
use lib.Ieee.{in_float, of_bits}
use borrow.Author.Tests.{eq-eqb, ne_eqb}
use Rattle.figures.specs.Figures.{mean_of}
use Rattle.figures.proofs.mean.Goals as goal

pub returns-then-hits-eq0 : goal.returns-then-hits-eq0
unfolding mean_of of_bits
returns-then-hits-eq0 c = simp (eq-eqb _ _ c.if-hits-eq0.true)

pub int_to_float-result : goal.int_to_float-result
unfolding in_float
int_to_float-result c = le→leb c.args.hits (2 ^ 24) (omega arith)

pub returns : goal.returns
unfolding mean_of
returns c = simp (ne_eqb _ _ c.if-hits-eq0.false)
