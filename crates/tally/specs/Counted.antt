-- The record that a list has: its edges counted, by the orientation that is listed. Document 01's hit says which of them are hits.
use Rattle.std.specs.Prelude.{Bool, true, false, ℕ, get_or}
use Rattle.laws.specs.Words.{count}
use Rattle.board.specs.Hits.{EdgeList, Board, hit}
use Rattle.answer.specs.declared.Square.{Square}
use Rattle.tally.specs.declared.Tally.{Tally}
use Rattle.tally.specs.Tally.{belongs, tally}

-- the orientation that edge i is listed with
abbrev pub listed_as : EdgeList → ℕ → ℕ
listed_as E i = get_or E.orientations i 0

-- whether edge i is a hit at the square
abbrev pub hit_at : Board → EdgeList → Square → ℕ → Bool
hit_at B E q i = hit B E q.transform q.row q.col i

-- whether edge i belongs to the hits (w true) or misses of a side
abbrev pub among : Board → EdgeList → Square → ℕ → Bool → ℕ → Bool
among B E q side w i = belongs (listed_as E i) (hit_at B E q i) side w

-- THE RECORD of the first n edges of a list at a square
unfoldable pub tally_of : Board → EdgeList → Square → ℕ → Tally
tally_of B E q n =
    tally q n
    (count n (among B E q 0 true))
    (count n (among B E q 0 false))
    (count n (among B E q 1 true))
    (count n (among B E q 1 false))
