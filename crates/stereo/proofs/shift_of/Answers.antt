-- `shift_of`: a way of at most 250 forward is itself; any other is 501 less, which fits because it is small.
use mathlib.Core.Path.{◌≡◌, sym, ap, ◌∙◌}
use Prim.Native.Nat.{ℕ, ◌^◌, ◌<◌, ◌≤◌}
use native.Mathlib.Omega.{arith}
use lib.IntN.{ℤ, pos, nat_abs, ◌-ℤ◌}
use mir.Syntax.{w32}
use mir.Val.{to_z}
use mir.Facts.{to_z_pos}
use borrow.Author.Tests.{le-leb, lt-leb}
use Rattle.laws.specs.Whole.{abs-sub}
use Rattle.laws.specs.Signed.{fit_at, read_at}
use Rattle.stereo.specs.Stereo.{ahead, shift_of}
use Rattle.stereo.proofs.shift_of.Goals as goal

-- 501 taken from a number up to 500
less : (d : ℕ) → d ≤ 500 → to_z w32 d -ℤ pos 501 ≡ pos d -ℤ pos 501
less d h = let l : d < 2147483648 = omega arith in ap (λ (z : ℤ). z -ℤ pos 501) (to_z_pos w32 l)

small : (d : ℕ) → d ≤ 500 → nat_abs (pos d -ℤ pos 501) < 2 ^ 31
small d h = omega (arith, abs-sub (pos d) (pos 501))

forward : (a b d : ℕ) → d ≡ ahead a b → d ≤ 250 → to_z w32 d ≡ shift_of a b
unfolding shift_of
forward a b d e h = let l : d < 2147483648 = omega arith in to_z_pos w32 l ∙ ap pos e ∙ sym (rw (le-leb (ahead a b) 250 (omega arith)))

backward : (a b d : ℕ) → d ≡ ahead a b → 250 < d → pos d -ℤ pos 501 ≡ shift_of a b
unfolding shift_of
backward a b d e h = ap (λ (n : ℕ). pos n -ℤ pos 501) e ∙ sym (rw (lt-leb (ahead a b) 250 (omega arith)))

pub returns-then-d-le250 : goal.returns-then-d-le250
returns-then-d-le250 c = forward _ _ _ c.ahead-d.ensures.0 c.if-d-le250.true

pub overflow_sub-result : goal.overflow_sub-result
overflow_sub-result c = fit_at w32 (less _ c.ahead-d.ensures.1) (small _ c.ahead-d.ensures.1)

pub returns : goal.returns
returns c =
    let l = c.ahead-d.ensures.1 in
    read_at w32 (less _ l) (small _ l) ∙ backward _ _ _ c.ahead-d.ensures.0 c.if-d-le250.false
