-- THE DOMAIN OF A CALL OVER A PART (C-20): its conditions as plain facts, each with its number, in the order of hard decode's (admission/specs/Domain.antt).
use Rattle.std.specs.Prelude.{◌≡◌, List, [], ◌∷◌, ◌++◌, ℕ, ◌≤◌}
use Rattle.admission.specs.Calls.{HardCall}
use Rattle.admission.specs.Conditions.{Condition}
use Rattle.admission.specs.Domain.{Between, early}
use Rattle.part.specs.declared.Part.{Part}
use Rattle.part.specs.Part.{PartOk}

-- hard decode's conditions of a flat board: "1 goes by the room for 167", 3,006 of each; "8 for any L but 167"; 9 for the error limit. Then "9 for a start or size out of range"
unfoldable pub part_early : HardCall → Part → ℕ → ℕ → List Condition
part_early call part counts units =
    early (λ P. P call.logical × P call.physical) 1 call.transforms (λ L. L ≡ 167) call.board ((3006 ≤ counts) × (3006 ≤ units)) (Unit {0}) (Unit {0}) (Between 0 1 call.error_limit)
    ++ ((9, PartOk part) ∷ [])
