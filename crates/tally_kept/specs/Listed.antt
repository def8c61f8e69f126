-- Request C-17: "A record that, orientation by orientation, equals match statistics' count on its list's edges of that orientation". The edges of one orientation, as a list by themselves.
use Rattle.std.specs.Prelude.{◌≡◌, Bool, List, [], ◌∷◌, ◌++◌, ℕ, ◌+◌, eqb, get_or, pos}
use Rattle.std.specs.Float.{nan}
use Rattle.laws.specs.Words.{fold}
use Rattle.board.specs.Hits.{EdgeList, Board, edges}
use Rattle.answer.specs.declared.MatchStats.{MatchStats}
use Rattle.stats.specs.Stats.{stats_of}
use Rattle.tally.specs.declared.Tally.{Tally}
use Rattle.tally.specs.Counted.{listed_as, tally_of}

-- those of the first n elements of a column that are chosen, in order
unfoldable pub picked : {A : Type 0} → A → (ℕ → Bool) → ℕ → List A → List A
picked d p n l = fold ◌++◌ [] n p (λ i. get_or l i d ∷ [])

-- edge i is listed with the orientation o
abbrev pub listed_with : EdgeList → ℕ → ℕ → Bool
listed_with E o i = eqb (listed_as E i) o

-- those of the first n edges that are listed with the orientation o
unfoldable pub of_orientation : ℕ → ℕ → EdgeList → EdgeList
of_orientation o n E =
    let p = listed_with E o in
    edges (picked (pos 0) p n E.rows) (picked (pos 0) p n E.cols) (picked 0 p n E.orientations) (picked 0 p n E.bits) (picked nan p n E.confidences)

-- match statistics of those edges at the record's placing
abbrev pub stats_listed : Board → EdgeList → Tally → ℕ → MatchStats
stats_listed B E T o = stats_of (of_orientation o T.edges E) T.square.transform T.square.row T.square.col B

-- THE RECORD EQUALS MATCH STATISTICS' COUNT, orientation by orientation: the hits, and the hits and misses together all edges
pub record EqualsStatistics (B : Board) (E : EdgeList) (T : Tally) : Type 0 where
  pub horizontal_hits : T.horizontal_hits ≡ (stats_listed B E T 0).hits
  pub horizontal_edges : T.horizontal_hits + T.horizontal_misses ≡ (stats_listed B E T 0).edges
  pub vertical_hits : T.vertical_hits ≡ (stats_listed B E T 1).hits
  pub vertical_edges : T.vertical_hits + T.vertical_misses ≡ (stats_listed B E T 1).edges

-- a record that is its list's
abbrev pub Right : Board → EdgeList → Tally → Type 0
Right B E T = T ≡ tally_of B E T.square T.edges
