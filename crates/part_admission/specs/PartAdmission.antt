-- The early refusals of a call over a part (C-20), in hard decode's order: "Flat boards only. Refusals: 8 for any L but 167 (1 goes by the room for 167), 9 for a start or size out of range."
use Rattle.std.specs.Prelude.{◌≡◌, Bool, not, ◌||◌, ℕ, length, Float}
use Rattle.laws.specs.Words.{one_f}
use Rattle.board.specs.Hits.{Board}
use Rattle.refusals.specs.Admission.{Admission}
use Rattle.ranges.specs.Ranges.{in_range, transforms_bad, vertical_bad}
use Rattle.findings.specs.Findings.{Findings, first_found, joined, room_findings, settings_findings}
use Rattle.admission.specs.Calls.{HardCall}
use Rattle.admission.specs.Refusals.{room_short, both_lists}
use Rattle.admission.specs.Accepted.{HardAccepted}
use Rattle.part.specs.declared.Part.{Part}
use Rattle.part.specs.Part.{PartOk, part_bad}

-- one of the two pattern tables is none of a flat board: the horizontal one has 167 patterns there, as the vertical one has on every board
abbrev pub flat_tables_bad : Board → Bool
flat_tables_bad B = vertical_bad B.h || vertical_bad B.v

-- the error limit is out of range, or the part's start or size
abbrev pub part_settings_bad : Float → Part → Bool
part_settings_bad limit part = not (in_range one_f limit) || part_bad part

-- what is found in the settings
abbrev pub part_settings : HardCall → Part → Findings
part_settings call part = settings_findings (transforms_bad call.transforms) (flat_tables_bad call.board) (part_settings_bad call.error_limit part)

-- a call over a part, with the lengths of the lent room, which is asked for as for 167 patterns whatever table is given
unfoldable pub part_admission : HardCall → Part → ℕ → ℕ → Admission
part_admission call part counts units = first_found (joined (room_findings (room_short 167 counts units)) (joined (both_lists call) (part_settings call part)))

-- an accepted call: one that hard decode accepts, of a flat board, with a part in range
pub record PartAccepted (call : HardCall) (part : Part) (counts units : ℕ) : Type 0 where
  pub hard : HardAccepted call counts units
  pub flat : length call.board.h ≡ 167
  pub ok : PartOk part
