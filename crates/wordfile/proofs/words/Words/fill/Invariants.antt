-- `Words::fill`: the room that is left shrinks.
use Rattle.std.proofs.Common.{◌-◌}
use Rattle.wordfile.proofs.words.Words.fill.Given as goal

abbrev pub decreases-loop-self : goal.decreases-loop-self
decreases-loop-self g l = 65536 - l.self.end
