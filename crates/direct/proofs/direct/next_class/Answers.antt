use mathlib.Core.Path.{sym}
use native.Mathlib.Nat.{mod_self, mod-eq_of_lt}
use native.Mathlib.Omega.{arith}
use Rattle.direct.proofs.direct.next_class.Goals as goal

pub returns-then-next-n : goal.returns-then-next-n
returns-then-next-n c = (sym (rw c.if-next-n.true (mod_self _)), omega arith)

pub returns-else-next-n : goal.returns-else-next-n
returns-else-next-n c = (sym (mod-eq_of_lt (omega arith)), omega arith)
