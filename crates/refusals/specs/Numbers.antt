-- Document 01, 'Refusal numbers': the table, one name for each number, as request C-11 amends it. They are the names of the C header, and of the constants in the code.
use Rattle.std.specs.Prelude.{◌≡◌, ◌⊎◌, ℕ, ◌≤◌, None, Some}
use Rattle.refusals.specs.declared.Refusal.{Refusal}
use Rattle.refusals.specs.declared.ListName.{ListName}

-- "room too short"
abbrev pub room_too_short : ℕ
room_too_short = 1

-- "one list's slices differ in length"
abbrev pub lengths_differ : ℕ
lengths_differ = 2

-- "a list empty (not for match statistics) or over 8,192"
abbrev pub list_size : ℕ
list_size = 3

-- "coordinate .. outside its range", C-11: "4 now means coordinate only"
abbrev pub bad_coordinate : ℕ
bad_coordinate = 4

-- C-11: "16 orientation and 17 bit come between 4 and 5 and leave the room untouched"
abbrev pub bad_orientation : ℕ
bad_orientation = 16

abbrev pub bad_bit : ℕ
bad_bit = 17

-- "confidence NaN, below 0 or above 1"
abbrev pub bad_confidence : ℕ
bad_confidence = 5

-- "a likelihood NaN, infinite or out of range (soft)"
abbrev pub bad_likelihood : ℕ
bad_likelihood = 6

-- "transform count or number out of range"
abbrev pub bad_transform : ℕ
bad_transform = 7

-- "pattern table length or byte wrong"
abbrev pub bad_table : ℕ
bad_table = 8

-- "error limit, soft margin or given origin NaN or out of range"
abbrev pub bad_setting : ℕ
bad_setting = 9

-- "total confidence is 0"
abbrev pub no_confidence : ℕ
no_confidence = 10

-- "no listed transform's best hits are within the limit"
abbrev pub none_within_limit : ℕ
none_within_limit = 11

-- "logical and physical winners differ"
abbrev pub lists_disagree : ℕ
lists_disagree = 12

-- "gate not passed"
abbrev pub not_far_ahead : ℕ
not_far_ahead = 13

-- "margin below the soft margin"
abbrev pub soft_margin : ℕ
soft_margin = 14

-- "soft and hard winners differ"
abbrev pub soft_hard_disagree : ℕ
soft_hard_disagree = 15

-- a refusal that is about no edge: its number, and no place
abbrev pub numbered : ℕ → Refusal
numbered n = record { number = n; place = None }

-- C-11: "let each refusal about an edge field carry the list and the position of the first bad edge of that kind"
abbrev pub edge_refusal : ℕ → ListName → ℕ → Refusal
edge_refusal n list i = record { number = n; place = Some (record { list = list; position = i }) }

-- an early refusal, before any work is done: 1 to 9, 16 or 17
abbrev pub Early : ℕ → Type 0
Early n = ((room_too_short ≤ n) × (n ≤ bad_setting)) ⊎ ((n ≡ bad_orientation) ⊎ (n ≡ bad_bit))
