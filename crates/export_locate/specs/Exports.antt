-- What the exported engine without tables promises for all inputs: the public library's answer as a struct. No room is lent.
use Rattle.std.specs.Prelude.{◌≡◌, List, ℕ, Float}
use Rattle.board.specs.Hits.{EdgeList, Board}
use Rattle.locate_answer.specs.Answers.{LocateAnswer}
use Rattle.locate.specs.Located.{LocateDone}
use Rattle.flat_located.specs.declared.FlatLocated.{FlatLocated}
use Rattle.flat_located.specs.FlatLocated.{flat_located}

-- r is the struct of what `locate` promises to tell
pub record LocateFlat (B : Board) (E : EdgeList) (ts : List ℕ) (limit : Float) (r : FlatLocated) : Type 0 where
  pub told : LocateAnswer
  pub done : LocateDone B E ts limit told
  pub shown : r ≡ flat_located told
