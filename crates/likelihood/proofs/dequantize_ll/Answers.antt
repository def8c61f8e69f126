-- `dequantize_ll`: what is handed to `pattern` is the size of the sum, and the bits that come back get its sign.
use borrow.Author.Tests.{le-ltb}
use mathlib.Core.Path.{◌≡◌, sym, ap, subst, ◌∙◌}
use mathlib.Core.Bool.{Bool, true, false, not, cond}
use Prim.Native.Nat.{ℕ, ◌+◌, ◌<◌, ◌≤◌, ◌%◌, ◌^◌}
use native.Mathlib.Omega.{arith}
use native.Mathlib.Nat.{zero-add}
use lib.Dec.{T}
use lib.IntN.{ℤ, pos, nat_abs, ◌-ℤ◌}
use lib.Signed.{lt_z}
use lib.Ieee.{binary32, round, of_bits, nan_bits}
use lib.Ieee.Bits.{nan_bits_above}
use mir.Syntax.{w64}
use mir.Val.{Fits, to_z, of_z}
use mir.Facts.{to_z-of_z}
use Rattle.laws.specs.Signed.{read, fit_at, read_at}
use Rattle.likelihood.specs.Likelihood.{dequantised}
use Rattle.likelihood.specs.Steps.{Pattern}
use Rattle.likelihood.specs.Signs.{below-is, size-pos, read-size, minus-read, cast-size}
use Rattle.likelihood.proofs.dequantize_ll.Goals.{Else-sum-eq0}
use Rattle.likelihood.proofs.dequantize_ll.Goals as goal

no_nan : (b : ℕ) → b % 2147483648 ≤ 2139095040 → T (not (nan_bits binary32 b))
no_nan b h = subst (λ (x : Bool). T (not x)) (sym (nan_bits_above binary32 b ∙ le-ltb 2139095040 (b % 2147483648) h)) tt

-- a sum that is not 0: its size N is handed to `pattern`, read off a local z
module _ (c : Else-sum-eq0) where
  abbrev sum : ℤ
  sum = c.args.sum

  abbrev N : ℕ
  N = nat_abs sum

  some : sum ≡ pos 0 → ⊥
  some e = c.if-sum-eq0.false (ap (of_z w64) e)

  N-lt : N < 2 ^ 63
  N-lt = omega (arith, c.requires)

  small : Fits w64 N
  small = record { fits = omega (arith, N-lt) }

  module _ (z : ℤ) (e : z ≡ pos N) where
    asked : (0 < nat_abs z) × (nat_abs z ≤ 2 ^ 53)
    asked = subst (λ (y : ℤ). (0 < nat_abs y) × (nat_abs y ≤ 2 ^ 53)) (sym e) (size-pos sum some, c.requires)

    -- what is read off the bits with the sum's sign
    answer : (s : Bool) (r : ℕ) → lt_z (read w64 sum) (pos 0) ≡ s → Pattern (nat_abs z) r → of_bits binary32 (cond s 2147483648 0 + r) ≡ dequantised sum
    unfolding dequantised
    answer s r f p =
        p.value s
        ∙ ap (λ (y : ℤ). round binary32 s (nat_abs y) 16777216) e
        ∙ ap (λ (t : Bool). round binary32 t N 16777216) (sym (below-is sum ∙ ap (λ (y : ℤ). lt_z y (pos 0)) (sym (to_z-of_z c.ranges.sum)) ∙ f))

-- what is handed over: below 0 the negative of the sum, and else the sum
turned : (c : goal.Then-sum-lt0) → pos 0 -ℤ read w64 (sum c.before) ≡ pos (N c.before)
turned c = minus-read w64 (sum c.before) c.ranges.sum c.if-sum-lt0.true

read-turned : (c : goal.Then-sum-lt0) → read w64 (pos 0 -ℤ read w64 (sum c.before)) ≡ pos (N c.before)
read-turned c = read_at w64 (turned c) (N-lt c.before)

plain : (c : goal.Else-sum-lt0) → read w64 (sum c.before) ≡ pos (N c.before)
plain c = read-size w64 (sum c.before) c.ranges.sum c.if-sum-lt0.false

pub overflow_sub-sum : goal.overflow_sub-sum
overflow_sub-sum c = fit_at w64 (turned c) (N-lt c.before)

pub overflow_cast-sum : goal.overflow_cast-sum
overflow_cast-sum c = cast-size w64 _ (N c.before) (read-turned c) (small c.before)

pub pattern-requires : goal.pattern-requires
pattern-requires c = asked c.before _ (read-turned c)

pub overflow_add-result : goal.overflow_add-result
overflow_add-result c = omega (arith, c.pattern.ensures.number)

pub float_from_bits-result : goal.float_from_bits-result
float_from_bits-result c = no_nan (2147483648 + c.pattern.result) (omega (arith, c.pattern.ensures.number))

pub overflow_cast-sum-else-sum-lt0 : goal.overflow_cast-sum-else-sum-lt0
overflow_cast-sum-else-sum-lt0 c = cast-size w64 _ (N c.before) (plain c) (small c.before)

pub pattern-requires-else-sum-lt0 : goal.pattern-requires-else-sum-lt0
pattern-requires-else-sum-lt0 c = asked c.before _ (plain c)

pub float_from_bits-result-else-sum-lt0 : goal.float_from_bits-result-else-sum-lt0
float_from_bits-result-else-sum-lt0 c = no_nan c.pattern-else-sum-lt0.result (omega (arith, c.pattern-else-sum-lt0.ensures.number))

pub returns-then-sum-eq0 : goal.returns-then-sum-eq0
unfolding dequantised of_bits
returns-then-sum-eq0 c = ap dequantised (sym (sym (to_z-of_z c.ranges.sum) ∙ ap (to_z w64) c.if-sum-eq0.true))

pub returns-then-sum-lt0 : goal.returns-then-sum-lt0
returns-then-sum-lt0 c = let t = c.before in answer t.before _ (read-turned t) true c.pattern.result t.if-sum-lt0.true c.pattern.ensures

pub returns-else-sum-lt0 : goal.returns-else-sum-lt0
returns-else-sum-lt0 c =
    let t = c.before in
    ap (of_bits binary32) (sym (zero-add c.pattern-else-sum-lt0.result))
    ∙ answer t.before _ (plain t) false c.pattern-else-sum-lt0.result t.if-sum-lt0.false c.pattern-else-sum-lt0.ensures
