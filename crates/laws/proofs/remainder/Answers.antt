use native.Mathlib.Omega.{arith}
use native.Mathlib.Nat.{div-le_self}
use Rattle.laws.specs.Modulus.{quotient_is, product-fits, part-under, rest-is}
use Rattle.laws.proofs.remainder.Goals as goal

pub overflow_mul-q : goal.overflow_mul-q
overflow_mul-q c = let s = c in record { fits = omega (arith, product-fits s.args.m s.requires.0 s.args.u s.requires.1) }

pub overflow_cast-q-2 : goal.overflow_cast-q-2
overflow_cast-q-2 c = let s = c in rw (quotient_is s.args.m s.requires.0 s.args.u s.requires.1) (record { fits = omega (arith, div-le_self s.args.u s.args.m.n, s.requires.1) })

pub overflow_mul-result : goal.overflow_mul-result
overflow_mul-result c = let s = c in record { fits = omega (arith, part-under s.args.m s.requires.0 s.args.u s.requires.1, s.requires.1) }

pub overflow_sub-result : goal.overflow_sub-result
overflow_sub-result c = let s = c in part-under s.args.m s.requires.0 s.args.u s.requires.1

pub returns : goal.returns
returns c = let s = c in rest-is s.args.m s.requires.0 s.args.u s.requires.1
