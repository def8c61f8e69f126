-- What the full rectangle shares with C-15's mode: 501 rows by 501 columns, from any start, on a flat board.
use Rattle.std.specs.Prelude.{◌≡◌, ℕ, Err, None, Ok, Some}
use Rattle.refusals.specs.declared.Refusal.{Refusal}
use Rattle.exact_answer.specs.declared.ExactDecoded.{ExactDecoded}
use Rattle.exact_answer.specs.Answers.{ExactAnswer}
use Rattle.part.specs.declared.Part.{Part}
use Rattle.part_answer.specs.Answers.{PartRunnerUp}
use Rattle.part_answer.specs.declared.PartDecoded.{PartDecoded}
use Rattle.part_answer.specs.Answers.{PartAnswer}

-- ---- what the two answers share
-- a runner-up is shown, with so many hits
abbrev pub ShownWith : PartRunnerUp → ℕ → Type 0
ShownWith None n = ⊥
ShownWith (Some (square, hits, weight)) n = hits ≡ n

-- of two found answers: all but the runner-up's place and weight
pub record SameAsExact (d : PartDecoded) (e : ExactDecoded) : Type 0 where
  pub square : d.square ≡ e.square
  pub hits : d.hits ≡ e.hits
  pub edges : d.edges ≡ e.edges
  pub weight : d.weight ≡ e.weight
  pub total : d.total ≡ e.total
  pub rate : d.error_rate ≡ e.error_rate
  pub runner_up_hits : ShownWith d.runner_up e.runner_up_hits

-- of two answers: both find the same, or both refuse alike
pub data FullAgrees : PartAnswer → ExactAnswer → Type 0 where
  both_find : (d : PartDecoded) (e : ExactDecoded) → SameAsExact d e → FullAgrees (Ok d) (Ok e)
  both_refuse : (r : Refusal) → FullAgrees (Err r) (Err r)

-- the full part: every row and every column
pub record Full (part : Part) : Type 0 where
  pub rows : part.rows ≡ 501
  pub cols : part.cols ≡ 501
