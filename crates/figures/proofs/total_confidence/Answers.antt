-- `total_confidence`: each turn adds the next confidence, as the definition does.
use Rattle.std.proofs.Common.{◌≡◌, ap, ◌∙◌, length, arith}
use lib.Ieee.{of_bits}
use Rattle.figures.specs.Figures.{confidence_to}
use Rattle.figures.specs.FiguresLaws.{confidence-none, confidence-more}
use Rattle.figures.proofs.total_confidence.Goals as goal

pub loop-confidence-init : goal.loop-confidence-init
unfolding of_bits
loop-confidence-init c = confidence-none _

pub loop-confidence-preserved : goal.loop-confidence-preserved
loop-confidence-preserved c = let l = c.loop-confidence in confidence-more _ l.confidence-index l.total l.invariant

pub returns : goal.returns
returns c =
    let l = c.loop-confidence in
    let all : l.confidence-index ≡ length c.args.confidences.now = omega arith in
    l.invariant ∙ ap (confidence_to c.args.confidences.now) all
