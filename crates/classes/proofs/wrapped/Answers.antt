use mathlib.Core.Path.{◌≡◌, sym, ap, ◌∙◌}
use Prim.Native.Nat.{ℕ, ◌+◌, ◌*◌, ◌-◌, ◌%◌, ◌<◌}
use native.Mathlib.Nat.{mod-eq_of_lt, mul-add-mod_self_left}
use native.Mathlib.Omega.{arith}
use Rattle.classes.proofs.wrapped.Goals as goal

pub returns-then-x-n : goal.returns-then-x-n
returns-then-x-n c = (sym (mod-eq_of_lt c.if-x-n.true), c.if-x-n.true)

pub returns : goal.returns
returns c =
    let l : c.args.x - c.args.n < c.args.n = omega (arith, c.requires.0, c.if-x-n.false) in
    let e : c.args.x ≡ c.args.n * 1 + (c.args.x - c.args.n) = omega (arith, c.if-x-n.false) in
    (sym (ap (λ (z : ℕ). z % c.args.n) e ∙ mul-add-mod_self_left c.args.n 1 (c.args.x - c.args.n) ∙ mod-eq_of_lt l), l)
