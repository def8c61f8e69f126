use mathlib.Core.Path.{◌≡◌}
use Rattle.laws.specs.Words.{origins}
use Rattle.level.specs.Level.{tied_sum}
use Rattle.pair.specs.Pair.{other_in}
use Rattle.pair.proofs.pair.other_in.Given as goal

abbrev pub invariant-loop-v : goal.invariant-loop-v
invariant-loop-v l = l.found ≡ other_in (origins l.periods.h l.periods.v) (tied_sum l.sums l.top) l.h l.winner l.start l.v
