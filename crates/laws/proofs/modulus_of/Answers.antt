use mathlib.Core.Path.{refl}
use native.Mathlib.Omega.{arith}
use native.Mathlib.Nat.{div-le_self}
use Rattle.laws.specs.Modulus.{modulus_of, lift-fits}
use Rattle.laws.proofs.modulus_of.Goals as goal

pub overflow_add-lift : goal.overflow_add-lift
overflow_add-lift c = record { fits = omega (arith, div-le_self 2000002 c.args.n) }

pub overflow_mul-lift : goal.overflow_mul-lift
overflow_mul-lift c = record { fits = omega (arith, lift-fits c.args.n) }

pub overflow_add-factor : goal.overflow_add-factor
overflow_add-factor c = record { fits = omega (arith, div-le_self 4294967296 c.args.n) }

pub returns : goal.returns
unfolding modulus_of
returns c = refl
