-- Document 01, 'Numbers that bound the domain' (room): the i64 room once the likelihood sums of one transform are built.
use Rattle.std.specs.Prelude.{Bool, List, ℕ, ◌≤◌, ◌<◌, length, ℤ, pos, ◌+ℤ◌}
use Rattle.board.specs.Hits.{EdgeList, Board}
use Rattle.board.specs.Sides.{period_of}
use Rattle.board.specs.Domain.{EdgesOk, BoardOk}
use Rattle.groups.specs.Groups.{group_sum}
use Rattle.room.specs.Room.{used, Laid}
use Rattle.sums.specs.Sums.{Likelihoods, LikelihoodsOk, cell_score}
use Rattle.sums.specs.SumParts.{value_at}

-- the sum of a group's likelihoods: row 0 match, row 1 mismatch
abbrev pub group_score : Board → EdgeList → Likelihoods → ℕ → ℕ → Bool → ℕ → ℤ
group_score B E X t i = group_sum ◌+ℤ◌ (pos 0) (value_at X i) B E t

-- the edges, their likelihoods, the pattern tables and the transform are accepted, and the room is long enough. Confidences are not asked about: no sum reads them
pub record SumsReady (B : Board) (E : EdgeList) (X : Likelihoods) (t : ℕ) (a : List ℤ) : Type 0 where
  pub list : EdgesOk E
  pub likelihoods : LikelihoodsOk E X
  pub board : BoardOk B
  pub transform : t < 8
  pub room : used (period_of B) 2 ≤ length a

-- each cell holds its sum, each group too, and the surplus is as it was
abbrev pub SumsBuilt : Board → EdgeList → Likelihoods → ℕ → List ℤ → List ℤ → Type 0
SumsBuilt B E X t a a' = Laid (pos 0) (period_of B) 2 (cell_score B E X t) (group_score B E X t) a a'
