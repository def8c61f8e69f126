use native.Mathlib.Nat.{div-le_self, mod-le}
use native.Mathlib.Omega.{arith}
use Rattle.locate.proofs.square_at.Goals as goal

pub overflow_cast-row : goal.overflow_cast-row
overflow_cast-row c = omega (arith, div-le_self c.args.key c.args.wide, mod-le c.args.key c.args.wide, c.requires.1)

pub overflow_cast-col : goal.overflow_cast-col
overflow_cast-col c = omega (arith, mod-le c.args.key c.args.wide, c.requires.1)
