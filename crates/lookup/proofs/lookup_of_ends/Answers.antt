use mathlib.Core.Path.{◌≡◌, sym, ◌∙◌, ap}
use mathlib.Core.Bool.{Bool, true, false, cond}
use native.Mathlib.Omega.{arith}
use Prim.Native.Nat.{◌≤◌}
use lib.IntN.{ℤ, pos, nat_abs, ◌-ℤ◌}
use lib.Signed.{lt_z}
use mir.Syntax.{w32}
use mir.Val.{SFits, to_z, of_z}
use mir.Facts.{to_z-of_z}
use Rattle.laws.specs.Signed.{read, fits-abs, read_at, said-lt, same_bits}
use Rattle.laws.specs.Whole.{abs-sub}
use Rattle.board.specs.TransformLaws.{flat, rising, falling}
use Rattle.lookup.proofs.lookup_of_ends.Goals as goal
use Rattle.lookup.proofs.lookup_of_ends.Goals.{then-c-d, else-c-d}

-- one less, as the machine makes it
is-less : (z : ℤ) → SFits w32 z → nat_abs z ≤ 2000001 → read w32 (read w32 z -ℤ pos 1) ≡ z -ℤ pos 1
is-less z f h = read_at w32 (ap (λ (x : ℤ). x -ℤ pos 1) (to_z-of_z f)) (omega (arith, abs-sub z (pos 1)))

-- a coordinate less 0, 1 or 2 fits, so that what is subtracted is judged by the lookup alone
pub overflow_sub-result : goal.overflow_sub-result
overflow_sub-result c = let s = c.before.before in rw (to_z-of_z s.ranges.r) (fits-abs {w = w32} _ (omega (arith, s.requires.1, abs-sub s.args.r (pos 0), abs-sub s.args.r (pos 1), abs-sub s.args.r (pos 2))))

pub overflow_sub-result-then-r-s-2 : goal.overflow_sub-result-then-r-s-2
overflow_sub-result-then-r-s-2 c = let s = c.before.before in rw (to_z-of_z s.ranges.c) (fits-abs {w = w32} _ (omega (arith, s.requires.0, abs-sub s.args.c (pos 0), abs-sub s.args.c (pos 1), abs-sub s.args.c (pos 2))))

pub overflow_sub-result-else-r-s-2 : goal.overflow_sub-result-else-r-s-2
overflow_sub-result-else-r-s-2 c = let s = c.before.before in rw (to_z-of_z s.ranges.d) (fits-abs {w = w32} _ (omega (arith, s.requires.2, abs-sub s.args.d (pos 0), abs-sub s.args.d (pos 1), abs-sub s.args.d (pos 2))))

smaller : (c : goal.Joined-c-d) → to_z w32 c.if-c-d.a-bits ≡ cond (lt_z c.args.c c.args.d) c.args.c c.args.d
smaller c =
    elim c.if-c-d.branch [
      | then-c-d w ↦ w.a-is ∙ to_z-of_z c.ranges.c ∙ sym (ap (λ (b : Bool). cond b c.args.c c.args.d) (said-lt w32 c.args.c c.args.d c.ranges.c c.ranges.d true w.if-c-d.true))
      | else-c-d w ↦ w.a-is ∙ to_z-of_z c.ranges.d ∙ sym (ap (λ (b : Bool). cond b c.args.c c.args.d) (said-lt w32 c.args.c c.args.d c.ranges.c c.ranges.d false w.if-c-d.false))
    ]

pub returns-after-c-d : goal.returns-after-c-d
returns-after-c-d c =
    let s = c.before.before in
    flat s.args.c s.args.r s.args.d s.args.s _ _ (same_bits w32 s.args.r s.args.s s.ranges.r s.ranges.s c.if-r-s.true)
    (is-less s.args.r s.ranges.r s.requires.1) (smaller c)

pub returns-then-r-s-2 : goal.returns-then-r-s-2
returns-then-r-s-2 c =
    let s = c.before.before in
    rising s.args.c s.args.r s.args.d s.args.s _ _ (λ e. c.if-r-s.false (ap (of_z w32) e))
    (said-lt w32 s.args.r s.args.s s.ranges.r s.ranges.s true c.if-r-s-2.true)
    (to_z-of_z s.ranges.r) (is-less s.args.c s.ranges.c s.requires.0)

pub returns-else-r-s-2 : goal.returns-else-r-s-2
returns-else-r-s-2 c =
    let s = c.before.before in
    falling s.args.c s.args.r s.args.d s.args.s _ _ (λ e. c.if-r-s.false (ap (of_z w32) e))
    (said-lt w32 s.args.r s.args.s s.ranges.r s.ranges.s false c.if-r-s-2.false)
    (to_z-of_z s.ranges.s) (is-less s.args.d s.ranges.d s.requires.2)
