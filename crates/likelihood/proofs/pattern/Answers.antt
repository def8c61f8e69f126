-- `pattern`: the digits by either way are those that are kept of n, and with the exponent's field they are the bits (Digits.antt).
use borrow.Author.Rules.{rules}
use mathlib.Core.Path.{◌≡◌, sym, ap, subst, ◌∙◌}
use Prim.Native.Nat.{ℕ, ◌+◌, ◌*◌, ◌-◌, ◌%◌}
use native.Mathlib.Omega.{arith}
use native.Mathlib.Nat.{mod-eq_of_lt}
use lib.Count.{count_leading_zeros}
use Rattle.likelihood.specs.Steps.{Pattern}
use Rattle.likelihood.proofs.Digits.{Top, Digits, digits_up, digits-down, pattern-is, shifted, zeros-le, top-is}
use Rattle.likelihood.proofs.pattern.Goals.{then-top-lt24, else-top-lt24}
use Rattle.likelihood.proofs.pattern.Goals as goal

pub overflow_sub-top : goal.overflow_sub-top
overflow_sub-top c = zeros-le c.args.n c.requires.0 c.requires.1

pub overflow_add-result : goal.overflow_add-result
overflow_add-result c = search rules

pub overflow_sub-result : goal.overflow_sub-result
overflow_sub-result c = search rules

module _ (c : goal.Joined-top-lt24) where
  abbrev n : ℕ
  n = c.args.n

  abbrev top : ℕ
  top = 63 - count_leading_zeros 64 n

  bit : Top n top
  bit = top-is n c.requires.0 c.requires.1

  -- where the two ways meet, the digits are those that are kept
  digits : Digits n top c.if-top-lt24.digits
  digits =
      elim c.if-top-lt24.branch [
        | then-top-lt24 w ↦ subst (Digits n top) (sym (w.digits-is ∙ shifted n top bit w.if-top-lt24.true)) (digits_up n top bit w.if-top-lt24.true)
        | else-top-lt24 w ↦ subst (Digits n top) (sym (w.digits-is ∙ w.nearest-digits.ensures)) (digits-down n top bit w.if-top-lt24.false)
      ]

  -- the exponent's field
  placed : (top + 126 - 24) * 8388608 % 4294967296 ≡ (top + 102) * 8388608
  placed = mod-eq_of_lt (omega (arith, bit.small)) ∙ ap (λ (x : ℕ). x * 8388608) (omega arith)

pub overflow_cast-result : goal.overflow_cast-result
overflow_cast-result c = record { fits = omega (arith, (digits c.before).most) }

pub overflow_add-result-2 : goal.overflow_add-result-2
overflow_add-result-2 c = record { fits = omega (arith, placed c.before, (digits c.before).most, (bit c.before).small) }

pub returns : goal.returns
returns c =
    let b = c.before in
    subst (λ (x : ℕ). Pattern (n b) (x + b.if-top-lt24.digits)) (sym (placed b)) (pattern-is (n b) (top b) (bit b) b.if-top-lt24.digits (digits b))
