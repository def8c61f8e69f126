-- Document 01, 'Transforms and lookup', last paragraph: what the board predicts of an edge, and the hits of a placing, counted edge by edge.
-- The quotes are the document's, with 167 read as the table's length.
use Rattle.std.specs.Prelude.{ℕ, ◌/◌, ◌%◌, ◌^◌, List, [], Bool, not, cond, eqb, get_or, length, ℤ, pos, ◌+ℤ◌, Float}
use Rattle.laws.specs.Words.{count, emod}
use Rattle.answer.specs.declared.Square.{Square}
use Rattle.board.specs.declared.edge.Edge.{Edge}
use Rattle.board.specs.declared.edge.Placing.{Placing}
use Rattle.board.specs.declared.edge.EdgeLookup.{EdgeLookup}
use Rattle.board.specs.Transform.{lookup_of}

-- an edge list, a list for each field
pub record EdgeList : Type 0 where
  pub rows : List ℤ
  pub cols : List ℤ
  pub orientations : List ℕ
  pub bits : List ℕ
  pub confidences : List Float

-- the two pattern tables, horizontal and vertical; their lengths are the periods
pub record Board : Type 0 where
  pub h : List ℕ
  pub v : List ℕ

-- five columns as one edge list
abbrev pub edges : List ℤ → List ℤ → List ℕ → List ℕ → List Float → EdgeList
edges r c o b w = record { rows = r; cols = c; orientations = o; bits = b; confidences = w }

-- the edges without their confidences
abbrev pub bare : EdgeList → EdgeList
bare E = edges E.rows E.cols E.orientations E.bits []

-- two pattern tables as one board
abbrev pub tables : List ℕ → List ℕ → Board
tables h v = record { h = h; v = v }

-- how many edges a list has
abbrev pub size : EdgeList → ℕ
size E = length E.rows

-- the bit that was seen at edge i
abbrev pub seen : EdgeList → ℕ → ℕ
seen E i = get_or E.bits i 0

-- edge i, by value
abbrev pub edge_at : EdgeList → ℕ → Edge
edge_at E i = record { row = get_or E.rows i (pos 0); col = get_or E.cols i (pos 0); orientation = get_or E.orientations i 0; bit = seen E i }

-- edge i looked up under the transform t
unfoldable pub look : EdgeList → ℕ → ℕ → EdgeLookup
look E t i = lookup_of t (get_or E.rows i (pos 0)) (get_or E.cols i (pos 0)) (get_or E.orientations i 0)

abbrev pub horizontal : EdgeLookup → Bool
horizontal l = eqb l.orientation 0

-- bit j of a three-bit pattern
abbrev pub bit_at : ℕ → ℕ → ℕ
bit_at p j = p / 2 ^ j % 2

-- bit (short) mod 3 of pattern (long) mod 167, of one table. "Remainders are never negative": see `emod`
abbrev pub pattern_bit : List ℕ → ℤ → ℤ → ℕ
pattern_bit ps long short = bit_at (get_or ps (emod long (length ps)) 0) (emod short 3)

-- "At origin (r, c) a horizontal edge is predicted by bit (lookup column + c) mod 3 of horizontal pattern (lookup row + r) mod 167. A vertical edge
-- is predicted by bit (lookup row + r) mod 3 of vertical pattern (lookup column + c) mod 167."
unfoldable pub predicted : Board → EdgeLookup → ℕ → ℕ → ℕ
predicted B l r c =
    cond (horizontal l)
    (pattern_bit B.h (l.row +ℤ pos r) (l.col +ℤ pos c))
    (pattern_bit B.v (l.col +ℤ pos c) (l.row +ℤ pos r))

-- "A hit is an equal bit": whether one edge, by value, is a hit at a square
unfoldable pub edge_hit : Board → Edge → Square → Bool
edge_hit B e q = eqb (predicted B (lookup_of q.transform e.row e.col e.orientation) q.row q.col) e.bit

-- whether edge i is a hit under the transform t at the origin (r, c)
unfoldable pub hit : Board → EdgeList → ℕ → ℕ → ℕ → ℕ → Bool
hit B E t r c i = eqb (predicted B (look E t i) r c) (seen E i)

-- how many edges of the list are hits
unfoldable pub hits : Board → EdgeList → ℕ → ℕ → ℕ → ℕ
hits B E t r c = count (size E) (hit B E t r c)

-- how many are not; `hits-misses` says "hits plus misses is the list's length"
unfoldable pub misses : Board → EdgeList → ℕ → ℕ → ℕ → ℕ
misses B E t r c = count (size E) (λ i. not (hit B E t r c i))

-- the hits of a placing, of the transform list ts
abbrev pub hits_at : Board → EdgeList → List ℕ → Placing → ℕ
hits_at B E ts P = hits B E (get_or ts P.listed 0) P.row P.col
