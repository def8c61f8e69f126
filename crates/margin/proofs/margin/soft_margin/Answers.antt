use native.Mathlib.Omega.{arith}
use lib.Dec.{le→leb}
use lib.Ieee.{in_float}
use Prim.Native.Nat.{◌^◌}
use Rattle.margin.proofs.margin.soft_margin.Goals as goal

pub int_to_float-result : goal.int_to_float-result
unfolding in_float
int_to_float-result c = le→leb c.args.edges (2 ^ 24) (omega arith)
