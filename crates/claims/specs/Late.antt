-- THE CONDITIONS ON AN ACCEPTED CALL: document 01, 'Refusal numbers', 10 to 15 in its order, each with the fact that is asked, in words of placings and lists. LateLaws.antt and
-- ExactLateLaws.antt prove that an accepted call is found when all are met, and else refused by the number of the first that is not.
use Rattle.std.specs.Prelude.{◌≡◌, false, List, [], ◌∷◌, ◌<◌}
use Rattle.board.specs.declared.edge.Placing.{Placing}
use Rattle.admission.specs.Calls.{HardCall, SoftCall}
use Rattle.admission.specs.Conditions.{Condition}
use Rattle.figures.specs.Figures.{no_confidence}
use Rattle.demand.specs.Demand.{WithinLimit, Leads, Wins, AgreesPhysical}
use Rattle.soft_core.specs.SoftDemand.{Clears}
use Rattle.exact_core.specs.ExactCore.{total_units}
use Rattle.exact_demand.specs.ExactDemand.{ExactWins}

-- "Hard then: 10 logical, 11, 10 physical, 12, 13."
unfoldable pub hard_late : HardCall → List Condition
hard_late call =
    (10, no_confidence call.logical ≡ false)
    ∷ (11, (P : Placing) × WithinLimit call.board call.logical call.transforms call.error_limit P)
    ∷ (10, no_confidence call.physical ≡ false)
    ∷ (12, (P : Placing) × Wins call.board call.logical call.transforms call.error_limit P × AgreesPhysical call.board call.physical call.transforms P)
    ∷ (13, (P : Placing) × Leads call.board call.logical call.transforms call.error_limit P) ∷ []

-- "Soft: 10 physical, 14, 10 logical, 11, 15, 13."
unfoldable pub soft_late : SoftCall → List Condition
soft_late call =
    let hard = call.hard in
    (10, no_confidence hard.physical ≡ false)
    ∷ (14, (P : Placing) × (Q : Placing) × Clears call P Q)
    ∷ (10, no_confidence hard.logical ≡ false)
    ∷ (11, (P : Placing) × WithinLimit hard.board hard.logical hard.transforms hard.error_limit P)
    ∷ (15, (P : Placing) × (Q : Placing) × Clears call P Q × Wins hard.board hard.logical hard.transforms hard.error_limit P)
    ∷ (13, (P : Placing) × Leads hard.board hard.logical hard.transforms hard.error_limit P) ∷ []

-- C-15: "10 here when a list's unit sum is 0", "each with its own physical winner". The winners are those by hits, weight, list position, row and column
unfoldable pub exact_late : HardCall → List Condition
exact_late call =
    let B = call.board in
    let ts = call.transforms in
    (10, 0 < total_units call.logical) ∷ (11, (P : Placing) × WithinLimit B call.logical ts call.error_limit P)
    ∷ (10, 0 < total_units call.physical) ∷ (12, (P : Placing) × ExactWins B call.logical ts P × ExactWins B call.physical ts P)
    ∷ (13, (P : Placing) × Leads B call.logical ts call.error_limit P) ∷ []
