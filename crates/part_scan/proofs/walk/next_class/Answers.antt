use mathlib.Core.Path.{◌≡◌, sym}
use Prim.Native.Nat.{◌+◌}
use native.Mathlib.Nat.{mod-eq_of_lt, mod_self}
use native.Mathlib.Omega.{arith}
use Rattle.part_scan.proofs.walk.next_class.Goals as goal

pub returns-then-x-n : goal.returns-then-x-n
returns-then-x-n c = sym (mod-eq_of_lt c.if-x-n.true)

pub returns : goal.returns
returns c = let e : c.args.x + 1 ≡ c.args.n = omega arith in rw e (sym (mod_self c.args.n))
