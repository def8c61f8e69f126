use native.Mathlib.Nat.{mul-le-mul}
use borrow.Author.Tests.{lt-ltb, le-ltb}
use Rattle.folding.specs.Transform.{runner_up_within}
use native.Mathlib.Omega.{arith}
use Rattle.folding.proofs.transform.runner_up_within.Goals as goal

pub overflow_mul-a : goal.overflow_mul-a
overflow_mul-a c = record { fits = omega (arith, mul-le-mul c.requires.2.h_tied c.requires.2.v_tied) }

pub returns-then-a-b-gt1 : goal.returns-then-a-b-gt1
unfolding runner_up_within
returns-then-a-b-gt1 c = simp (lt-ltb _ _ c.if-a-b-gt1.true)

pub returns-then-down-across : goal.returns-then-down-across
unfolding runner_up_within
returns-then-down-across c = simp (le-ltb _ _ c.if-a-b-gt1.false, lt-ltb _ _ c.if-down-across.true, c.key_of-key.ensures)

pub returns : goal.returns
unfolding runner_up_within
returns c = simp (le-ltb _ _ c.if-a-b-gt1.false, le-ltb _ _ c.if-down-across.false, c.key_of-key-2.ensures)
