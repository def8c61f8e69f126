-- `quantize_ll`: the fields that it takes are those of x, and what `magnitude` answers of them gets x's sign.
use borrow.Author.Rules.{rules}
use borrow.Author.Tests.{le-leb, lt-leb}
use mathlib.Core.Path.{◌≡◌, sym, ap, subst, ◌∙◌}
use mathlib.Core.Bool.{Bool, true, false}
use Prim.Native.Nat.{ℕ, ◌<◌, ◌≤◌, ◌^◌}
use native.Mathlib.Omega.{arith}
use native.Mathlib.Nat.{lt_of_lt_of_le}
use lib.Dec.{T, leb, lit≤}
use lib.IntN.{ℤ, pos, neg_ℤ, nat_abs, ◌-ℤ◌}
use lib.Ieee.{binary32, fits, to_bits}
use mir.Syntax.{w64}
use mir.Val.{to_z}
use mir.Facts.{to_z_pos}
use Rattle.laws.specs.Signed.{fit_at, read_at}
use Rattle.laws.specs.Whole.{abs_neg}
use Rattle.likelihood.specs.Likelihood.{quantised, signed, Quantised}
use Rattle.likelihood.specs.LikelihoodLaws.{acceptable-number, quantised-size}
use Rattle.likelihood.specs.Signs.{minus_is}
use Rattle.likelihood.proofs.Fields.{exp-le, frac-lt, value-is}
use Rattle.likelihood.proofs.quantize_ll.Goals as goal

held : (c : goal.Start) → T (fits binary32 c.args.x)
held c = subst T (sym c.well_formed.0.1) tt

pub float_to_bits-bits : goal.float_to_bits-bits
float_to_bits-bits c = acceptable-number c.args.x c.requires

pub magnitude-size-requires : goal.magnitude-size-requires
magnitude-size-requires c = (exp-le c.args.x (held c) c.requires, frac-lt c.args.x (held c) c.requires)

pub overflow_cast-size : goal.overflow_cast-size
overflow_cast-size c = search rules

-- the size, read back, and its negative
module _ (c : goal.After-magnitude-size) where
  abbrev r : ℕ
  r = c.magnitude-size.result

  plain : to_z w64 r ≡ pos r
  plain = to_z_pos w64 (lt_of_lt_of_le c.magnitude-size.ensures.size (lit≤ tt))

  turned : pos 0 -ℤ to_z w64 r ≡ neg_ℤ (pos r)
  turned = ap (λ (z : ℤ). pos 0 -ℤ z) plain ∙ minus_is (pos r)

  turned_lt : nat_abs (neg_ℤ (pos r)) < 2 ^ 63
  turned_lt = omega (arith, abs_neg (pos r), c.magnitude-size.ensures.size)

  -- with x's sign it is what is asked
  answer : (t : Bool) (z : ℤ) → leb (2 ^ 31) (to_bits binary32 c.args.x) ≡ t → z ≡ signed t r → Quantised c.args.x z
  answer t z e f =
      let x = c.args.x in
      let v : z ≡ quantised x = f ∙ ap (λ (b : Bool). signed b r) (sym e) ∙ sym (value-is x (held c.before) c.requires r c.magnitude-size.ensures) in
      record { value = v; size = subst (λ (y : ℤ). nat_abs y ≤ 2 ^ 40) (sym v) (quantised-size x c.requires) }

pub overflow_sub-result : goal.overflow_sub-result
overflow_sub-result c = fit_at w64 (turned c.before) (turned_lt c.before)

pub returns-then-bits-eq0 : goal.returns-then-bits-eq0
returns-then-bits-eq0 c =
    let b = c.before in
    answer b false _ (lt-leb (2 ^ 31) (to_bits binary32 b.args.x) (omega (arith, c.if-bits-eq0.true))) (plain b)

pub returns-else-bits-eq0 : goal.returns-else-bits-eq0
returns-else-bits-eq0 c =
    let b = c.before in
    answer b true _ (le-leb (2 ^ 31) (to_bits binary32 b.args.x) (omega (arith, c.if-bits-eq0.false))) (read_at w64 (turned b) (turned_lt b))
