-- `magnitude`: each of its three ways out is the size of the quantised f32 (Scaled.antt).
use mathlib.Core.Path.{sym, subst}
use Prim.Native.Nat.{ℕ}
use native.Mathlib.Omega.{arith}
use Rattle.likelihood.specs.Steps.{Magnitude}
use Rattle.likelihood.proofs.Scaled.{made_nothing, made-right, made-left, left-shifted}
use Rattle.likelihood.proofs.magnitude.Goals as goal

pub returns-then-exp-lt102 : goal.returns-then-exp-lt102
returns-then-exp-lt102 c = let s = c.before in made_nothing s.args.frac s.requires.1 s.args.exp c.if-exp-lt102.true

pub returns-then-exp-lt-POINT : goal.returns-then-exp-lt-POINT
returns-then-exp-lt-POINT c =
    let s = c.before.before.before in
    subst (λ (r : ℕ). Magnitude s.args.exp s.args.frac r) (sym c.nearest.ensures)
    (made-right s.args.frac s.requires.1 s.args.exp (omega arith) (omega arith))

pub returns-else-exp-lt-POINT : goal.returns-else-exp-lt-POINT
returns-else-exp-lt-POINT c =
    let s = c.before.before in
    subst (λ (r : ℕ). Magnitude s.args.exp s.args.frac r) (sym (left-shifted s.args.frac s.requires.1 s.args.exp s.requires.0))
    (made-left s.args.frac s.requires.1 s.args.exp (omega arith) s.requires.0)
