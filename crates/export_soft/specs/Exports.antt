-- What the exported soft decode promises for all inputs: the public library's answer as a struct, and the lent room as the public library leaves it.
use Rattle.std.specs.Prelude.{◌≡◌, List, ℕ, ℤ, Float}
use Rattle.admission.specs.Calls.{SoftCall}
use Rattle.answer.specs.Answers.{SoftAnswer}
use Rattle.decode_soft.specs.SoftAnswer.{SoftDone}
use Rattle.flat.specs.declared.flat_soft.FlatSoft.{FlatSoft}
use Rattle.flat.specs.FlatSoft.{flat_soft}

-- r is the struct of what `decode_soft` promises to tell, and all three room slices are what it promises to leave
pub record SoftFlat (call : SoftCall) (c c' : List ℕ) (w w' : List Float) (a a' : List ℤ) (r : FlatSoft) : Type 0 where
  pub told : SoftAnswer
  pub done : SoftDone call c c' w w' a a' told
  pub shown : r ≡ flat_soft told
