-- `clear`: after i turns the first i of the n places are cleared.
use Rattle.std.proofs.Common.{take}
use Rattle.laws.specs.Cleared.{Clearing}
use Rattle.clearing.proofs.clear.Given as goal

abbrev pub invariant-loop-place : goal.invariant-loop-place
invariant-loop-place g l = Clearing g.T.Zero.ZERO l.n (take l.n l.fn.room) l.place-items l.place-index
