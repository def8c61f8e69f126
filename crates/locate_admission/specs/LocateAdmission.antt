-- The early refusals of a call with one list and no room (C-16): 2 to 5, 7 to 9, 16 and 17; and what an accepted call is.
use Rattle.std.specs.Prelude.{◌≡◌, not, true, List, ℕ, ◌<◌, length, Float}
use Rattle.laws.specs.Words.{one_f}
use Rattle.board.specs.Hits.{EdgeList, Board, size}
use Rattle.board.specs.Domain.{ListOk, BoardOk}
use Rattle.refusals.specs.Admission.{Admission}
use Rattle.refusals.specs.declared.ListName.TheVariants as list
use Rattle.ranges.specs.Ranges.{in_range, transforms_bad}
use Rattle.findings.specs.Findings.{Findings, first_found, joined, list_findings, settings_findings}
use Rattle.admission.specs.Refusals.{tables_bad}
use Rattle.admission.specs.Accepted.{TransformsOk}

-- what is found in the settings
abbrev pub locate_settings : List ℕ → Board → Float → Findings
locate_settings ts B limit = settings_findings (transforms_bad ts) (tables_bad B) (not (in_range one_f limit))

-- the earliest of all that is found, in the order of every entry point
unfoldable pub locate_admission : EdgeList → List ℕ → Board → Float → Admission
locate_admission E ts B limit = first_found (joined (list_findings 1 list.Only E) (locate_settings ts B limit))

-- an accepted call
pub record LocateAccepted (E : EdgeList) (ts : List ℕ) (B : Board) (limit : Float) : Type 0 where
  pub list : ListOk E
  pub some : 0 < size E
  pub transforms : TransformsOk ts
  pub board : BoardOk B
  pub vertical : length B.v ≡ 167
  pub within_limit : in_range one_f limit ≡ true
