use Prim.Native.Nat.{◌*◌}
use mathlib.Core.Path.{refl}
use native.Mathlib.Nat.{div-le_self, mod-le}
use Rattle.folding.specs.Transform.{competitor_of}
use native.Mathlib.Omega.{arith}
use Rattle.folding.proofs.transform.competitor.Goals as goal

pub overflow_cast-row : goal.overflow_cast-row
overflow_cast-row c = record { fits = omega (arith, div-le_self c.args.origin.key (3 * c.args.period)) }

pub overflow_cast-col : goal.overflow_cast-col
overflow_cast-col c = record { fits = omega (arith, mod-le c.args.origin.key (3 * c.args.period)) }

pub returns : goal.returns
unfolding competitor_of
returns c = refl
