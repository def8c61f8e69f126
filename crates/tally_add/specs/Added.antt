-- Request C-17: "An edge is added last .. other places stay."
use Rattle.std.specs.Prelude.{ℕ, set, Float}
use Rattle.board.specs.declared.edge.Edge.{Edge}
use Rattle.board.specs.Hits.{EdgeList, Board, edges}
use Rattle.tally.specs.declared.Tally.{Tally}
use Rattle.tally.specs.Answers.{TallyAnswer}
use Rattle.tally.specs.Tally.{with_edge}
use Rattle.tally_checks.specs.Judged.{judged_add}
use Rattle.tally_checks.specs.Edited.{Done}

-- place n of each slice holds the edge, every other place what it held
unfoldable pub added_to : EdgeList → ℕ → Edge → Float → EdgeList
added_to E n e w = edges (set E.rows n e.row) (set E.cols n e.col) (set E.orientations n e.orientation) (set E.bits n e.bit) (set E.confidences n w)

-- the answer, and the five slices at exit
abbrev pub AddDone : EdgeList → Tally → Edge → Float → Board → TallyAnswer → EdgeList → Type 0
AddDone E T e w B a L = Done (judged_add E T e w B) (with_edge T e.orientation) E (added_to E T.edges e w) a L
