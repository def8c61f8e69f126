use Prim.Native.Nat.{◌-◌, ◌^◌}
use mathlib.Core.Path.{refl}
use lib.Dec.{le→leb}
use lib.Ieee.{in_float}
use Rattle.figures.specs.Figures.{rate_of}
use native.Mathlib.Omega.{arith}
use Rattle.figures.proofs.rate.Goals as goal

pub int_to_float-result : goal.int_to_float-result
unfolding in_float
int_to_float-result c = le→leb (c.args.edges - c.args.hits) (2 ^ 24) (omega arith)

pub int_to_float-result-2 : goal.int_to_float-result-2
unfolding in_float
int_to_float-result-2 c = le→leb c.args.edges (2 ^ 24) (omega arith)

pub returns : goal.returns
unfolding rate_of
returns c = refl
