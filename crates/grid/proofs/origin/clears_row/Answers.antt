-- A row times the columns stays small.
use Prim.Native.Nat.{◌*◌, ◌/◌}
use native.Mathlib.Nat.{mul-le-mul}
use native.Mathlib.Omega.{arith}
use Rattle.grid.proofs.origin.clears_row.Goals as goal

pub overflow_mul-result-2 : goal.overflow_mul-result-2
overflow_mul-result-2 c =
    let s = c in
    record { fits = omega (arith, mul-le-mul {n₁ = s.args.h / 3} {m₁ = 3 * s.args.periods.v} {n₂ = 500} {m₂ = 1500} (omega (arith, s.requires.2, s.requires.0.few)) (omega (arith, s.requires.1.few))) }
