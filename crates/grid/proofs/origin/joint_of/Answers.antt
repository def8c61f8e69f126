use Prim.Native.Nat.{◌+◌, ◌*◌, ◌-◌, ◌%◌, ◌≤◌, ◌<◌}
use native.Mathlib.Nat.{mod-lt, mul-le-mul}
use native.Mathlib.Omega.{arith}
use lib.Dec.{lit<}
use borrow.Author.Rules.{rules}
use Rattle.laws.specs.Residues.{joint-steps, joint-below}
use Rattle.grid.proofs.origin.joint_of.Goals as goal

-- the products' bounds
module _ (c : goal.Start) where
  third : c.args.period % 3 ≤ 2
  third = omega (arith, mod-lt c.args.period {m = 3} (lit< tt))

  asked : c.args.period % 3 * (c.args.s + 3 - c.args.l % 3) ≤ 2 * 5
  asked = mul-le-mul {m₂ = 5} third (omega arith)

  moved : c.args.period * (c.args.period % 3 * (c.args.s + 3 - c.args.l % 3) % 3) ≤ 500 * 2
  moved = mul-le-mul {m₂ = 2} c.requires.0.few (omega (arith, mod-lt (c.args.period % 3 * (c.args.s + 3 - c.args.l % 3)) {m = 3} (lit< tt)))

pub overflow_add-steps : goal.overflow_add-steps
overflow_add-steps c = search rules

pub overflow_sub-steps : goal.overflow_sub-steps
overflow_sub-steps c = search rules

pub overflow_mul-steps : goal.overflow_mul-steps
overflow_mul-steps c = record { fits = omega (arith, asked c) }

pub overflow_mul-result : goal.overflow_mul-result
overflow_mul-result c = record { fits = omega (arith, moved c) }

pub overflow_add-result : goal.overflow_add-result
overflow_add-result c = record { fits = omega (arith, moved c, c.requires.0.few) }

pub returns : goal.returns
returns c =
    let p = c.requires in
    let a = c.args in
    let more : 0 < a.period = omega (arith, p.0.more) in
    let e = joint-steps a.period more p.0.free a.s a.l p.1 p.2 in
    (e, rw e (joint-below a.period more p.0.free a.s a.l))
