-- What the exported decode over a part promises for all inputs: the public library's answer as a struct, and the lent room as the public library leaves it.
use Rattle.std.specs.Prelude.{◌≡◌, List, ℕ}
use Rattle.admission.specs.Calls.{HardCall}
use Rattle.part.specs.declared.Part.{Part}
use Rattle.part_answer.specs.Answers.{PartAnswer}
use Rattle.decode_part.specs.PartAnswer.{PartCallDone}
use Rattle.flat_part.specs.declared.FlatPart.{FlatPart}
use Rattle.flat_part.specs.FlatPart.{flat_part}

-- a part from the four numbers of a call: the row and the column of its start, and how many rows and columns of origins it has
abbrev pub part_of : ℕ → ℕ → ℕ → ℕ → Part
part_of row col rows cols = record { row = row; col = col; rows = rows; cols = cols }

-- decode over a part: r is the struct of what `decode_part` promises to tell, and both room slices are what it promises to leave
pub record PartFlat (call : HardCall) (part : Part) (c c' : List ℕ) (u u' : List ℕ) (r : FlatPart) : Type 0 where
  pub told : PartAnswer
  pub done : PartCallDone call part c c' u u' told
  pub shown : r ≡ flat_part told
