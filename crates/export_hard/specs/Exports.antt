-- What the exported hard decode promises for all inputs: the public library's answer as a struct, and the lent room as the public library leaves it.
use Rattle.std.specs.Prelude.{◌≡◌, List, ℕ, Float}
use Rattle.admission.specs.Calls.{HardCall}
use Rattle.answer.specs.Answers.{Answer}
use Rattle.decode_hard.specs.HardAnswer.{HardDone}
use Rattle.flat.specs.declared.flat.FlatAnswer.{FlatAnswer}
use Rattle.flat.specs.Flat.{flat}

-- hard decode: r is the struct of what `decode_hard` promises to tell, and both room slices are what it promises to leave
pub record HardFlat (call : HardCall) (c c' : List ℕ) (w w' : List Float) (r : FlatAnswer) : Type 0 where
  pub told : Answer
  pub done : HardDone call c c' w w' told
  pub shown : r ≡ flat told
