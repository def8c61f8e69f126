-- `nearest`: what it adds before it drops the places rounds to the nearest, whichever way a half goes (Rounding.antt).
use borrow.Author.Rules.{rules}
use mathlib.Core.Path.{◌≡◌, sym, ap, ◌∙◌}
use mathlib.Core.Bool.{Bool}
use Prim.Native.Nat.{ℕ, ◌+◌, ◌*◌, ◌-◌, ◌<◌, ◌%◌, ◌/◌, ◌^◌}
use native.Mathlib.Omega.{arith}
use native.Mathlib.Nat.{mod-lt}
use lib.Pow.{pow_pos}
use lib.Bits.{bit_and, and_mask}
use Rattle.likelihood.proofs.Rounding.{added, added-le, half-shifted, half-shifted-lt, rounded-is}
use Rattle.likelihood.proofs.nearest.Goals.{Joined-up, then-up, else-up}
use Rattle.likelihood.proofs.nearest.Goals as goal

pub overflow_sub-half : goal.overflow_sub-half
overflow_sub-half c = search rules

pub overflow_cast-half : goal.overflow_cast-half
overflow_cast-half c = search rules

pub overflow_shl-half : goal.overflow_shl-half
overflow_shl-half c = search rules

pub overflow_shr-odd : goal.overflow_shr-odd
overflow_shr-odd c = search rules

module _ (s : goal.Start) where
  abbrev half : ℕ
  half = 2 ^ (s.args.places - 1)

  abbrev whole : ℕ
  whole = s.args.n / 2 ^ s.args.places

  half_is : (1 * half) % 18446744073709551616 ≡ half
  half_is = half-shifted s.args.n s.args.places s.requires.1 s.requires.2

  half_lt : half < 2 ^ 62
  half_lt = half-shifted-lt s.args.n s.args.places s.requires.1 s.requires.2

  half_pos : 0 < half
  half_pos = pow_pos (s.args.places - 1)

  odd_is : bit_and whole 1 ≡ whole % 2
  odd_is = and_mask whole 1

pub overflow_sub-added : goal.overflow_sub-added
overflow_sub-added c = rw (half_is c.before) (half_pos c.before)

pub overflow_add-added : goal.overflow_add-added
overflow_add-added c =
    let s = c.before in
    rw (half_is s, odd_is s) (record { fits = omega (arith, half_lt s, mod-lt (whole s) (pow_pos 1)) })

-- whichever way a half goes
added_is : (c : Joined-up) → c.if-up.added ≡ added c.args.up (half c.before) (whole c.before)
added_is c =
    let s = c.before in
    elim c.if-up.branch [
      | then-up w ↦ w.added-is ∙ half_is s ∙ ap (λ (t : Bool). added t (half s) (whole s)) (sym w.if-up.true)
      | else-up w ↦
          w.added-is ∙ (λ i. half_is s i - 1 + odd_is s i) ∙ ap (λ (t : Bool). added t (half s) (whole s)) (sym w.if-up.false)
    ]

pub overflow_add-result : goal.overflow_add-result
overflow_add-result c =
    let s = c.before.before in
    record { fits = omega (arith, half_lt s, added_is c.before, added-le s.args.up (half s) (whole s) (half_pos s)) }

pub returns : goal.returns
returns c =
    let s = c.before.before in
    ap (λ (x : ℕ). (s.args.n + x) / 2 ^ s.args.places) (added_is c.before)
    ∙ rounded-is s.args.n s.args.places s.requires.1 s.requires.2 s.args.up
