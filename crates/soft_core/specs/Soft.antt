-- Document 01, 'Soft selection', and 'Refusal numbers': "Soft: 10 physical, 14, 10 logical, 11, 15, 13."
use Rattle.std.specs.Prelude.{◌≡◌, Bool, true, false, cond, List, ℕ, length, ℤ, pos, Float, None, Some}
use Rattle.std.specs.Float.{nan}
use Rattle.laws.specs.Cleared.{SameBeyond}
use Rattle.board.specs.Hits.{size}
use Rattle.refusals.specs.Numbers as why
use Rattle.room.specs.Room.{tables_room, sums_room}
use Rattle.admission.specs.Calls.{HardCall, SoftCall}
use Rattle.figures.specs.Figures.{no_confidence}
use Rattle.hard.specs.Select.{selection}
use Rattle.margin.specs.declared.slots.SoftCandidate.{SoftCandidate}
use Rattle.margin.specs.Kinds.{SoftChoice}
use Rattle.margin.specs.Margin.{soft_margin, below_margin}
use Rattle.soft.specs.Select.{soft_selection, SumRoom}
use Rattle.answer.specs.Answers.{SoftAnswer}
use Rattle.soft_verdict.specs.SoftVerdict.{soft_refused_by, best_of}
use Rattle.soft_logical.specs.Logical.{after_hard, soft_judged, LogicalRooms}

-- ---- the answer
module _ (call : HardCall) where
  -- "Margin = (first - second) / edges. Below the soft margin: refused."
  abbrev pub too_close : Float → SoftCandidate → SoftCandidate → Bool
  too_close least first second = below_margin (soft_margin first second (size call.physical)) least

  abbrev pub after_soft : Float → SoftChoice → SoftAnswer
  after_soft least None = soft_refused_by why.soft_margin
  after_soft least (Some (first, second)) =
      cond (too_close least first second) (soft_refused_by why.soft_margin) (after_hard call (best_of first second (size call.physical)) (selection call.board call.logical call.transforms call.error_limit))

-- what an accepted soft call answers, with the soft margin `least`
unfoldable pub soft_core : SoftCall → SoftAnswer
unfolding soft_judged
soft_core call = cond (no_confidence call.hard.physical) (soft_refused_by why.no_confidence) (after_soft call.hard call.soft-margin (soft_selection call.hard.board call.hard.physical call.likelihoods call.hard.transforms))

-- ---- what the steps between leave
-- one of two statements, by a test
unfoldable pub By : Bool → Type 0 → Type 0 → Type 0
By true A B = A
By false A B = B

-- past the margin the logical list's, else as they were
unfoldable pub PastMargin : HardCall → Float → SoftChoice → SoftAnswer → List ℕ → List ℕ → List Float → List Float → Type 0
PastMargin call least None r c c' w w' = (c' ≡ c) × (w' ≡ w)
PastMargin call least (Some (first, second)) r c c' w w' = By (too_close call least first second) ((c' ≡ c) × (w' ≡ w)) (LogicalRooms call (best_of first second (size call.physical)) r c c' w w')

-- all three: as they were where the physical list has no confidence, else with the sums of the last transform
unfoldable pub CoreRooms : SoftCall → SoftAnswer → List ℕ → List ℕ → List Float → List Float → List ℤ → List ℤ → Type 0
CoreRooms call r c c' w w' a a' =
    By (no_confidence call.hard.physical) ((c' ≡ c) × (w' ≡ w) × (a' ≡ a))
    (PastMargin call.hard call.soft-margin (soft_selection call.hard.board call.hard.physical call.likelihoods call.hard.transforms) r c c' w w'
    × SumRoom call.hard.board call.hard.physical call.likelihoods call.hard.transforms (length call.hard.transforms) a a')

-- the whole: all three are used
pub record SoftCoreDone (call : SoftCall) (c c' : List ℕ) (w w' : List Float) (a a' : List ℤ) (r : SoftAnswer) : Type 0 where
  pub answer : r ≡ soft_core call
  pub rooms : CoreRooms call r c c' w w' a a'
  pub counts : SameBeyond 0 (tables_room call.hard.board) c c'
  pub weights : SameBeyond nan (tables_room call.hard.board) w w'
  pub sums : SameBeyond (pos 0) (sums_room call.hard.board) a a'
