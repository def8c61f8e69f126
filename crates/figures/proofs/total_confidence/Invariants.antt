-- `total_confidence`: the total so far is that of the confidences passed.
use Rattle.std.proofs.Common.{◌≡◌}
use Rattle.figures.specs.Figures.{confidence_to}
use Rattle.figures.proofs.total_confidence.Given as goal

abbrev pub invariant-loop-confidence : goal.invariant-loop-confidence
invariant-loop-confidence l = l.total ≡ confidence_to l.confidences l.confidence-index
