-- A confidence is quantised without a sign, so that it is cast as it is.
use mathlib.Core.Path.{◌≡◌, sym, ap, ◌∙◌}
use Prim.Native.Nat.{◌+◌, ◌^◌, ◌≤◌}
use native.Mathlib.Omega.{arith}
use lib.IntN.{pos, nat_abs}
use lib.Ieee.{Float}
use mir.Syntax.{w64}
use Rattle.laws.specs.Signed.{read, read_at}
use Rattle.likelihood.specs.Signs.{cast-size}
use Rattle.unit_terms.specs.Values.{unit_of, one_hit}
use Rattle.unit_terms.specs.ValuesLaws.{weight-acceptable, quantised-unit, unit-small, value-is}
use Rattle.unit_terms.proofs.value_of.Goals as goal

pub quantize_ll-units-requires : goal.quantize_ll-units-requires
quantize_ll-units-requires c = weight-acceptable _ c.requires

-- the quantised confidence, read back, is its units
module _ (c : goal.After-quantize_ll-units) where
  abbrev x : Float
  x = c.args.confidence

  few : unit_of x ≤ 2 ^ 24
  few = unit-small x c.requires

  back : read w64 c.quantize_ll-units.result ≡ pos (unit_of x)
  back = read_at w64 (c.quantize_ll-units.ensures.value ∙ quantised-unit x c.requires) (omega (arith, few))

pub overflow_cast-units : goal.overflow_cast-units
overflow_cast-units c = cast-size w64 _ (unit_of (x c)) (back c) (record { fits = omega (arith, few c) })

pub overflow_add-result : goal.overflow_add-result
overflow_add-result c = omega (arith, few c, ap nat_abs (back c))

pub returns : goal.returns
returns c = ap (λ z. one_hit + nat_abs z) (back c) ∙ sym (value-is (x c))
