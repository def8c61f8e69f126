use Prim.Native.Nat.{◌<◌}
use mathlib.Core.Path.{◌≡◌}
use lib.ListN.{length}
use Rattle.laws.specs.Words.{first_best}
use Rattle.best.specs.CellTables.{c_at, w_at}
use Rattle.best.specs.Lex.{order}
use Rattle.best.proofs.lex.lex_best.Given as goal

abbrev pub invariant-loop-i : goal.invariant-loop-i
invariant-loop-i l = (l.best < length l.counts) × (l.best ≡ first_best (order l.counts l.weights) l.i) × (l.top ≡ c_at l.counts l.best) × (l.heavy ≡ w_at l.weights l.best)
