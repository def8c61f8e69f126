-- What a selection over the placings of a part comes to: the code's types of these names.
use Rattle.std.specs.Prelude.{Option, Result}
use Rattle.refusals.specs.declared.Refusal.{Refusal}
use Rattle.exact_scan.specs.declared.kept.ExactWinner.{ExactWinner}

-- the runner-up, or none where the part has one placing only
abbrev pub PartNext : Type 0
PartNext = Option ExactWinner

-- the winner with its runner-up, or a refusal
abbrev pub PartSelection : Type 0
PartSelection = Result (ExactWinner × PartNext) Refusal
