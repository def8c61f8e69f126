-- Request C-17: "removing keeps the order of the rest and zeroes the freed place; other places stay." The freed place holds row 0, column 0, orientation 0, bit 0 and confidence +0.
use Rattle.std.specs.Prelude.{◌≡◌, List, ℕ, ℤ, pos, Float}
use Rattle.laws.specs.Words.{zero_f}
use Rattle.board.specs.Hits.{EdgeList, Board, edges}
use Rattle.closing.specs.Closed.{closed}
use Rattle.tally.specs.declared.Tally.{Tally}
use Rattle.tally.specs.Answers.{TallyAnswer}
use Rattle.tally.specs.Tally.{without_edge}
use Rattle.tally.specs.Counted.{listed_as}
use Rattle.tally_checks.specs.Judged.{judged_named}
use Rattle.tally_checks.specs.Edited.{Done}

-- edge p taken out of the first n
unfoldable pub removed_from : EdgeList → ℕ → ℕ → EdgeList
removed_from E n p = edges (closed (pos 0) p n E.rows) (closed (pos 0) p n E.cols) (closed 0 p n E.orientations) (closed 0 p n E.bits) (closed zero_f p n E.confidences)

-- the answer, and the five slices at exit
abbrev pub RemoveDone : EdgeList → Tally → ℕ → Board → TallyAnswer → EdgeList → Type 0
RemoveDone E T p B a L = Done (judged_named E T p B) (without_edge T (listed_as E p)) E (removed_from E T.edges p) a L

-- lists with equal columns
pub edges-eq : {r r' c c' : List ℤ} {o o' b b' : List ℕ} {w w' : List Float} → r ≡ r' → c ≡ c' → o ≡ o' → b ≡ b' → w ≡ w' → edges r c o b w ≡ edges r' c' o' b' w'
edges-eq e f g h k = rw (e, f, g, h, k)
