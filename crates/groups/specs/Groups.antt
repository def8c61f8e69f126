-- Document 01, 'Class tables': groups. "Each edge's confidence is added, in list order, to its group (long residue, short residue, bit), from 0."
use Rattle.std.specs.Prelude.{Bool, ◌&&◌, cond, ℕ, ◌+◌, ◌*◌, eqb, get_or, ℤ, Float}
use Rattle.std.specs.Float.{nan, binary32}
use Rattle.std.specs.Float.Ieee.{add}
use Rattle.laws.specs.Words.{fold, one, emod, zero_f}
use Rattle.board.specs.declared.edge.EdgeLookup.{EdgeLookup}
use Rattle.board.specs.Hits.{EdgeList, Board, size, seen, horizontal}
use Rattle.board.specs.Sides.{on_side, period_of, long_of, short_of}

-- (long residue, short residue, bit) as one number, of an edge with these coordinates and this bit
abbrev pub group : ℕ → ℤ → ℤ → ℕ → ℕ
group period long short bit = emod long period * 6 + emod short 3 * 2 + bit

-- the group of edge i on the side s
unfoldable pub group_at : Board → EdgeList → ℕ → Bool → ℕ → ℕ
group_at B E t s i = group (period_of B s) (long_of E t s i) (short_of E t s i) (seen E i)

-- edge i lies on the side s, in its group k
abbrev pub member : Board → EdgeList → ℕ → Bool → ℕ → ℕ → Bool
member B E t s k i = on_side E t s i && eqb (group_at B E t s i) k

-- edge i's confidence
abbrev pub confidence_at : EdgeList → ℕ → Float
confidence_at E i = get_or E.confidences i nan

-- "added, in list order, to its group, from 0": group k of the side s under the transform t, where edge i adds x i, for any addition with its zero
abbrev pub group_sum : {A : Type 0} → (A → A → A) → A → (ℕ → A) → Board → EdgeList → ℕ → Bool → ℕ → A
group_sum op z x B E t s k = fold op z (size E) (member B E t s k) x

-- how many edges a group has: each adds one
abbrev pub group_count : Board → EdgeList → ℕ → Bool → ℕ → ℕ
group_count = group_sum ◌+◌ 0 one

-- its weight: each adds its confidence
abbrev pub group_weight : Board → EdgeList → ℕ → Bool → ℕ → Float
group_weight B E = group_sum (add binary32) zero_f (confidence_at E) B E

-- ---- where a group stands when the groups of both sides stand in one row, the horizontal ones first; L and M are the periods
abbrev pub place_of : ℕ → ℕ → EdgeLookup → ℕ → ℕ
place_of L M l bit = cond (horizontal l) (group L l.row l.col bit) (L * 6 + group M l.col l.row bit)
