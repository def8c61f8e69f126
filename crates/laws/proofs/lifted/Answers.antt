use mathlib.Core.Path.{◌≡◌, ap₂, ◌∙◌}
use Prim.Native.Nat.{ℕ, ◌+◌, ◌≤◌}
use native.Mathlib.Omega.{arith}
use lib.IntN.{pos, nat_abs, ◌+ℤ◌}
use mir.Syntax.{w32}
use mir.Val.{to_z}
use mir.Facts.{to_z-of_z}
use Rattle.laws.specs.Signed.{read, fit_at, read_at}
use Rattle.laws.specs.Modulus.{lifted-up}
use Rattle.laws.proofs.lifted.Goals as goal

-- the sum as it is read is a number above 0
module _ (s : goal.Start) where
  up : (k : ℕ) × (s.args.x +ℤ pos s.args.by ≡ pos k) × (k ≤ nat_abs s.args.x + s.args.by)
  up = lifted-up s.args.x s.args.by (omega arith)

  is : read w32 s.args.x +ℤ to_z w32 s.args.by ≡ pos up.0
  is = ap₂ ◌+ℤ◌ (to_z-of_z s.ranges.x) (to_z-of_z {w = w32} {z = pos s.args.by} (record { sfits = omega arith })) ∙ up.1

  back : read w32 (read w32 s.args.x +ℤ to_z w32 s.args.by) ≡ pos up.0
  back = read_at w32 is (omega (arith, up.2))

pub overflow_add-result : goal.overflow_add-result
overflow_add-result c = fit_at w32 (is c) (omega (arith, (up c).2))

pub overflow_cast-result-2 : goal.overflow_cast-result-2
overflow_cast-result-2 c = rw (back c) (tt, record { fits = omega (arith, (up c).2) })

pub returns : goal.returns
returns c = rw (back c) ((up c).1, omega (arith, (up c).2))
