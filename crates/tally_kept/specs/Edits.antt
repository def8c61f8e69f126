-- The three edits of a list with its record, as steps; and any run of them.
use Rattle.std.specs.Prelude.{◌≡◌, List, [], ◌∷◌, ℕ, Float, Err, Ok}
use Rattle.board.specs.declared.edge.Edge.{Edge}
use Rattle.board.specs.Hits.{EdgeList, Board}
use Rattle.tally.specs.declared.Tally.{Tally}
use Rattle.tally.specs.Answers.{TallyAnswer}
use Rattle.tally_add.specs.Added.{AddDone}
use Rattle.tally_remove.specs.Removed.{RemoveDone}
use Rattle.tally_flip.specs.Flipped.{FlipDone}

-- an edit that a user asks for
pub data Edit : Type 0 where
  add : Edge → Float → Edit
  remove : ℕ → Edit
  flip : ℕ → Edit

-- the record after an answer: the new one, or after a refusal the one that was given
abbrev pub record_after : Tally → TallyAnswer → Tally
record_after T (Ok S) = S
record_after T (Err r) = T

-- what the entry point of an edit promises
abbrev pub EditDone : Board → EdgeList → Tally → Edit → TallyAnswer → EdgeList → Type 0
EditDone B E T (add e w) a L = AddDone E T e w B a L
EditDone B E T (remove p) a L = RemoveDone E T p B a L
EditDone B E T (flip p) a L = FlipDone E T p B a L

-- a run of edits, each on the list and the record that the one before it left, refused ones included
unfoldable pub Run : Board → EdgeList → Tally → List Edit → EdgeList → Tally → Type 0
Run B E T [] L S = (L ≡ E) × (S ≡ T)
Run B E T (x ∷ xs) L S = (K : EdgeList) × (a : TallyAnswer) × EditDone B E T x a K × Run B K (record_after T a) xs L S
