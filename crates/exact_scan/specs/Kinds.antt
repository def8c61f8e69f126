-- What an exact scan keeps and what an exact selection comes to: the code's types of these names.
use Rattle.std.specs.Prelude.{Option, Result}
use Rattle.refusals.specs.declared.Refusal.{Refusal}
use Rattle.scan.specs.declared.scan.RunnerUp.{RunnerUp}
use Rattle.exact_scan.specs.declared.kept.ExactCandidate.{ExactCandidate}
use Rattle.exact_scan.specs.declared.kept.ExactWinner.{ExactWinner}

-- what is kept of the placings so far: nobody before the first transform
abbrev pub ExactKept : Type 0
ExactKept = Option ExactCandidate

-- the winner with its runner-up, or a refusal
abbrev pub ExactSelection : Type 0
ExactSelection = Result (ExactWinner × RunnerUp) Refusal
