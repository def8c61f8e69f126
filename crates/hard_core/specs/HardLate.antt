-- The late refusals of hard decode, each given exactly when, in words of placings and lists and in document 01's order: "Hard then: 10 logical, 11, 10 physical, 12, 13."
use Rattle.std.specs.Prelude.{◌≡◌, true, false, ◌⊎◌}
use Rattle.admission.specs.Calls.{HardCall}
use Rattle.figures.specs.Figures.{no_confidence}
use Rattle.answer.specs.Answers.{Answer}
use Rattle.verdict.specs.Verdict.{refused_by}
use Rattle.demand.specs.Demand.{AgreesPhysical}
use Rattle.demand.specs.Late.{Exactly, LogicalKept}
use Rattle.demand.specs.OneSelection.{NoneWithinLimit, SomeWithinLimit, NoneLeads}

-- both lists have a winner, and that of the logical list does not agree with that of the physical one
pub record WinnersDiffer (call : HardCall) : Type 0 where
  pub logical : LogicalKept call
  pub physical_confidence : no_confidence call.physical ≡ false
  pub differ : AgreesPhysical call.board call.physical call.transforms logical.winner.placing → ⊥

-- they agree, and no placing of the logical list leads
pub record NoneAhead (call : HardCall) : Type 0 where
  pub logical : LogicalKept call
  pub agrees : AgreesPhysical call.board call.physical call.transforms logical.winner.placing
  pub none_leads : NoneLeads call.board call.logical call.transforms call.error_limit

-- the four numbers
pub record HardLate (call : HardCall) (answer : Answer) : Type 0 where
  -- "total confidence is 0": of the logical list, or of the physical one where some placing of the logical list is within the limit
  pub ten : Exactly (answer ≡ refused_by 10)
      ((no_confidence call.logical ≡ true)
      ⊎ ((no_confidence call.logical ≡ false) × SomeWithinLimit call.board call.logical call.transforms call.error_limit × (no_confidence call.physical ≡ true)))
  -- "no listed transform's best hits are within the limit"
  pub eleven : Exactly (answer ≡ refused_by 11) ((no_confidence call.logical ≡ false) × NoneWithinLimit call.board call.logical call.transforms call.error_limit)
  -- "logical and physical winners differ"
  pub twelve : Exactly (answer ≡ refused_by 12) (WinnersDiffer call)
  -- "gate not passed"
  pub thirteen : Exactly (answer ≡ refused_by 13) (NoneAhead call)
