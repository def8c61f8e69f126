-- The late refusals of soft decode, each given exactly when, in words of placings and lists and in document 01's order: "Soft: 10 physical, 14, 10 logical, 11, 15, 13."
use Rattle.std.specs.Prelude.{◌≡◌, Bool, true, false, ◌⊎◌}
use Rattle.board.specs.declared.edge.Placing.{Placing}
use Rattle.admission.specs.Calls.{SoftCall}
use Rattle.figures.specs.Figures.{no_confidence}
use Rattle.margin.specs.Margin.{below_margin}
use Rattle.answer.specs.Answers.{SoftAnswer}
use Rattle.demand.specs.Late.{Exactly, LogicalKept, SameSquare}
use Rattle.demand.specs.OneSelection.{NoneWithinLimit, NoneLeads}
use Rattle.soft_core.specs.SoftDemand.{margin_of, FirstByLikelihood, SecondByLikelihood}
use Rattle.soft_verdict.specs.SoftVerdict.{soft_refused_by}

-- the physical list has confidence, and the margin of its own best placing is below the soft margin, or is not
pub record OwnMargin (call : SoftCall) (below : Bool) : Type 0 where
  pub physical_confidence : no_confidence call.hard.physical ≡ false
  pub square : Placing
  pub second : Placing
  pub first : FirstByLikelihood call.hard.board call.hard.physical call.likelihoods call.hard.transforms square
  pub second-best : SecondByLikelihood call.hard.board call.hard.physical call.likelihoods call.hard.transforms square second
  pub margin : below_margin (margin_of call.hard.board call.hard.physical call.likelihoods call.hard.transforms square second) call.soft-margin ≡ below

-- it clears the margin, and the logical list has another winner
pub record SoftWinnersDiffer (call : SoftCall) : Type 0 where
  pub own : OwnMargin call false
  pub logical : LogicalKept call.hard
  pub differ : SameSquare call.hard.transforms own.square logical.winner.placing → ⊥

-- the logical list has the same winner, and no placing of that list leads
pub record SoftNoneAhead (call : SoftCall) : Type 0 where
  pub own : OwnMargin call false
  pub logical : LogicalKept call.hard
  pub agree : SameSquare call.hard.transforms own.square logical.winner.placing
  pub none_leads : NoneLeads call.hard.board call.hard.logical call.hard.transforms call.hard.error_limit

-- the five numbers
pub record SoftLate (call : SoftCall) (answer : SoftAnswer) : Type 0 where
  -- "total confidence is 0": of the physical list, or of the logical one where the margin is cleared
  pub ten : Exactly (answer ≡ soft_refused_by 10) ((no_confidence call.hard.physical ≡ true) ⊎ (OwnMargin call false × (no_confidence call.hard.logical ≡ true)))
  -- "no listed transform's best hits are within the limit"
  pub eleven : Exactly (answer ≡ soft_refused_by 11)
      (OwnMargin call false × (no_confidence call.hard.logical ≡ false) × NoneWithinLimit call.hard.board call.hard.logical call.hard.transforms call.hard.error_limit)
  -- "gate not passed"
  pub thirteen : Exactly (answer ≡ soft_refused_by 13) (SoftNoneAhead call)
  -- "margin below the soft margin"
  pub fourteen : Exactly (answer ≡ soft_refused_by 14) (OwnMargin call true)
  -- "soft and hard winners differ"
  pub fifteen : Exactly (answer ≡ soft_refused_by 15) (SoftWinnersDiffer call)
