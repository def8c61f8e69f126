use mathlib.Core.Path.{sym}
use native.Mathlib.Nat.{div-eq_of_lt, div-eq_of_lt-le}
use native.Mathlib.Omega.{arith}
use Rattle.grid.proofs.origin.short_of.Goals as goal

pub returns-then-v-period : goal.returns-then-v-period
returns-then-v-period c = (sym (div-eq_of_lt c.if-v-period.true), omega arith, omega arith)

pub returns-then-v-period-2 : goal.returns-then-v-period-2
returns-then-v-period-2 c =
    let a = c.args in
    (sym (div-eq_of_lt-le {k = 1} a.period {m = a.v} (omega (arith, c.if-v-period.false)) (omega (arith, c.if-v-period-2.true))), omega arith, omega (arith, c.if-v-period.false))

pub returns : goal.returns
returns c =
    let a = c.args in
    (sym (div-eq_of_lt-le {k = 2} a.period {m = a.v} (omega (arith, c.if-v-period-2.false)) (omega (arith, c.requires.1))), omega arith, omega (arith, c.if-v-period-2.false))
