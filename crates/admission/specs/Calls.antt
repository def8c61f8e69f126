-- What a call is given, and the room that it is lent, as one record each.
use Rattle.std.specs.Prelude.{List, ℕ, ℤ, Float}
use Rattle.board.specs.Hits.{EdgeList, Board}
use Rattle.likelihood.specs.Likelihood.{Likelihoods}

-- a hard call: the edges after the votes and as they were seen, the transforms to search, the pattern tables, and the error limit
pub record HardCall : Type 0 where
  pub logical : EdgeList
  pub physical : EdgeList
  pub transforms : List ℕ
  pub board : Board
  pub error_limit : Float

-- a soft call: a hard call, with the two likelihoods of each physical edge and the soft margin besides
pub record SoftCall : Type 0 where
  pub hard : HardCall
  pub likelihoods : Likelihoods
  pub soft-margin : Float

-- the room that a hard call is lent
pub record HardRoom : Type 0 where
  pub counts : List ℕ
  pub weights : List Float

-- a soft call
pub record SoftRoom : Type 0 where
  pub counts : List ℕ
  pub weights : List Float
  pub sums : List ℤ

-- a call from its parts, in the order of the entry points
abbrev pub hard_call : EdgeList → EdgeList → List ℕ → Board → Float → HardCall
hard_call logical physical ts B limit = record { logical = logical; physical = physical; transforms = ts; board = B; error_limit = limit }

abbrev pub soft_call : EdgeList → EdgeList → Likelihoods → List ℕ → Board → Float → Float → SoftCall
soft_call logical physical X ts B limit margin = record { hard = hard_call logical physical ts B limit; likelihoods = X; soft-margin = margin }
