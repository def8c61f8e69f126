use Prim.Native.Nat.{ℕ, ◌+◌, ◌*◌, ◌-◌, ◌%◌, ◌/◌, ◌≤◌, ◌<◌}
use mathlib.Core.Path.{◌≡◌, ap, ap₂, sym, ◌∙◌}
use native.Mathlib.Nat.{mod-lt, mul-le-mul, mod-eq-sub-div-mul}
use lib.Dec.{lit<}
use native.Mathlib.Omega.{arith}
use borrow.Author.Rules.{rules}
use Rattle.laws.specs.Words.{joint}
use Rattle.grid.proofs.origin.key_of.Goals as goal

-- a row times the columns
board : (r L M : ℕ) → r < 3 * L → L ≤ 500 → M ≤ 500 → r * (3 * M) ≤ 1500 * 1500
board r L M h l w = mul-le-mul {n₂ = 1500} {m₂ = 1500} (omega arith) (omega arith)

-- what is left of v under its row is its remainder
rest : (c : goal.After-short_of-s) → let a = c.args in a.v - c.short_of-s.result * a.periods.v ≡ a.v % a.periods.v
rest c = let a = c.args in ap (λ (s : ℕ). a.v - s * a.periods.v) c.short_of-s.ensures.0 ∙ sym (mod-eq-sub-div-mul a.v a.periods.v)

pub joint_of-row-requires : goal.joint_of-row-requires
joint_of-row-requires c = search rules

pub joint_of-col-requires : goal.joint_of-col-requires
joint_of-col-requires c =
    let s = c in
    (s.requires.1, mod-lt s.args.h (lit< tt), rw (rest c.before.before) (mod-lt s.args.v (omega (arith, s.requires.1.more))))

pub overflow_mul-result-2 : goal.overflow_mul-result-2
overflow_mul-result-2 c =
    let p = c.requires in
    record { fits = omega (arith, board _ _ _ c.joint_of-row.ensures.1 p.0.few p.1.few) }

pub overflow_add-result : goal.overflow_add-result
overflow_add-result c =
    let p = c.requires in
    record { fits = omega (arith, board _ _ _ c.joint_of-row.ensures.1 p.0.few p.1.few, c.joint_of-col.ensures.1, p.1.few) }

pub returns : goal.returns
returns c =
    let a = c.args in
    let row = c.joint_of-row.ensures.0 ∙ ap (λ (s : ℕ). joint a.periods.h s (a.h / 3)) c.short_of-s.ensures.0 in
    let col = c.joint_of-col.ensures.0 ∙ ap (joint a.periods.v (a.h % 3)) (rest c.before.before.before.before) in
    ap₂ (λ (x y : ℕ). x * (3 * a.periods.v) + y) row col
