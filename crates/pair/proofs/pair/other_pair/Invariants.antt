use mathlib.Core.Path.{◌≡◌}
use lib.ListN.{length}
use Rattle.laws.specs.Words.{origins}
use Rattle.level.specs.Level.{tied_sum}
use Rattle.pair.specs.Pair.{other_pair}
use Rattle.pair.proofs.pair.other_pair.Given as goal

abbrev pub invariant-loop-h : goal.invariant-loop-h
invariant-loop-h l = l.found ≡ other_pair (origins l.periods.h l.periods.v) (length l.vs) (tied_sum l.hs l.ht) (tied_sum l.vs l.vt) l.winner l.h
