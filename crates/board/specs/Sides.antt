-- The two sides of a board. A side is a Bool, true for the horizontal one: `cond s a b` is a on the horizontal side and b on the vertical one, so that
-- each law is said once for both.
use Rattle.std.specs.Prelude.{ℕ, List, Bool, true, false, not, ◌&&◌, cond, length, ℤ}
use Rattle.laws.specs.Words.{count}
use Rattle.board.specs.Hits.{EdgeList, Board, size, look, horizontal, hit}

-- the side s of a test that says horizontal
abbrev pub is : Bool → Bool → Bool
is true b = b
is false b = not b

-- edge i lies on the side s under the transform t
abbrev pub on_side : EdgeList → ℕ → Bool → ℕ → Bool
on_side E t s i = is s (horizontal (look E t i))

-- a side's pattern table and its period
abbrev pub table_of : Board → Bool → List ℕ
table_of B s = cond s B.h B.v

abbrev pub period_of : Board → Bool → ℕ
period_of B s = length (table_of B s)

-- the coordinate of a lookup that goes round the table, and the one that goes by 3: "An edge's long residue is lookup row mod 167 if horizontal,
-- lookup column mod 167 if vertical"
abbrev pub long_of : EdgeList → ℕ → Bool → ℕ → ℤ
long_of E t s i = cond s (look E t i).row (look E t i).col

abbrev pub short_of : EdgeList → ℕ → Bool → ℕ → ℤ
short_of E t s i = cond s (look E t i).col (look E t i).row

-- the hits among the edges of one side
unfoldable pub side_hits : Board → EdgeList → ℕ → Bool → ℕ → ℕ → ℕ
side_hits B E t s r c = count (size E) (λ i. on_side E t s i && hit B E t r c i)
