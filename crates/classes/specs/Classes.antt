-- The hits of one class of a side: the edges that the transform puts on that side and that are hits at the origin which is the class. A class i is the long residue i / 3 with the short one i mod 3.
use Rattle.std.specs.Prelude.{Bool, ◌&&◌, cond, ℕ, ◌+◌, ◌/◌, ◌%◌, ◌<◌, pos}
use Rattle.laws.specs.Words.{put, eq_z}
use Rattle.board.specs.declared.edge.Edge.{Edge}
use Rattle.board.specs.Transform.{mat, lookup_of}
use Rattle.board.specs.Hits.{EdgeList, Board, horizontal, edge_hit}
use Rattle.board.specs.Sides.{is, side_hits}
use Rattle.board.specs.Domain.{EdgesOk, BoardOk}
use Rattle.classes.specs.declared.Three.{Three}

-- of the long residue l and the short residue x, which is the origin (l, x) on the horizontal side and (x, l) on the vertical one
abbrev pub residue_hits : Board → EdgeList → ℕ → Bool → ℕ → ℕ → ℕ
residue_hits B E t s l x = side_hits B E t s (cond s l x) (cond s x l)

-- of class i
unfoldable pub class_hits : Board → EdgeList → ℕ → Bool → ℕ → ℕ
class_hits B E t s i = residue_hits B E t s (i / 3) (i % 3)

-- of the three classes of one long residue
unfoldable pub three_of : Board → EdgeList → ℕ → Bool → ℕ → Three
three_of B E t s l = record { a = residue_hits B E t s l 0; b = residue_hits B E t s l 1; c = residue_hits B E t s l 2 }

-- what counting asks: edges in range, a board and a transform
pub record CountReady (B : Board) (E : EdgeList) (t : ℕ) : Type 0 where
  pub list : EdgesOk E
  pub board : BoardOk B
  pub transform : t < 8

-- the transform t leaves a horizontal edge's ends in one row, or not: it puts horizontal edges on the side s
unfoldable pub straight : ℕ → Bool → Bool
straight t s = is s (eq_z (mat t 1 0) (pos 0))

-- ---- one edge more
-- each of the three tests that holds adds one
abbrev pub added_three : (ℕ → Bool) → Three → Three
added_three f s = record { a = put ◌+◌ (f 0) s.a 1; b = put ◌+◌ (f 1) s.b 1; c = put ◌+◌ (f 2) s.c 1 }

-- the transform puts an edge on the side s
abbrev pub edge_on : ℕ → Bool → Edge → Bool
edge_on t s e = is s (horizontal (lookup_of t e.row e.col e.orientation))

-- an edge, by value, counted in the three classes
unfoldable pub edge_added : Board → ℕ → Bool → ℕ → Edge → Three → Three
edge_added B t s l e = added_three (λ x. edge_on t s e && edge_hit B e (record { transform = t; row = cond s l x; col = cond s x l }))
