-- A found answer in range: so 0xFFFFFFFF, which stands in every whole number of a refusal at the boundary, and NaN, which stands in every float, are what no found
-- answer has.
use Rattle.std.specs.Prelude.{◌≡◌, List, ℕ, ◌*◌, ◌≤◌, ◌<◌, length, Float}
use Rattle.std.proofs.Common.{subst, arith}
use Rattle.laws.specs.Words.{Finite}
use Rattle.board.specs.declared.edge.Placing.{Placing}
use Rattle.board.specs.Hits.{Board}
use Rattle.admission.specs.Accepted.{TransformsOk}
use Rattle.answer.specs.declared.Square.{Square}
use Rattle.answer.specs.declared.Decoded.{Decoded}
use Rattle.answer.specs.declared.SoftDecoded.{SoftDecoded}
use Rattle.demand.specs.Demand.{OnBoard, Names}

-- a square of a board with L horizontal patterns: 3L rows of 501 columns, under one of eight transforms
pub record SquareInRange (L : ℕ) (s : Square) : Type 0 where
  pub transform : s.transform < 8
  pub row : s.row < 3 * L
  pub col : s.col < 501

-- what hard and soft answers share: the square, hits of edges, and the runner-up with its hits
pub record WholesInRange (L : ℕ) (square : Square) (hits edges : ℕ) (runner-up : Square) (runner_up_hits : ℕ) : Type 0 where
  pub on-board : SquareInRange L square
  pub some_hits : hits ≤ edges
  pub few : edges ≤ 8192
  pub runner_up_on : SquareInRange L runner-up
  pub runner_up_few : runner_up_hits ≤ 8192

-- and four floats
pub record FloatsFinite (weighted-score error_rate mean_confidence best_score : Float) : Type 0 where
  pub weighted : Finite weighted-score
  pub rate : Finite error_rate
  pub mean : Finite mean_confidence
  pub best : Finite best_score

-- a found hard answer: whole numbers and floats
pub record AnswerInRange (L : ℕ) (d : Decoded) : Type 0 where
  pub wholes : WholesInRange L d.square d.hits d.edges d.runner_up d.runner_up_hits
  pub margin : d.margin_hits ≤ d.hits
  pub floats : FloatsFinite d.weighted_score d.error_rate d.mean_confidence d.best_score

-- a found soft answer: besides, the second by likelihood with its total, and the margin
pub record SoftAnswerInRange (L : ℕ) (d : SoftDecoded) : Type 0 where
  pub wholes : WholesInRange L d.square d.hits d.edges d.runner_up d.runner_up_hits
  pub floats : FloatsFinite d.weighted_score d.error_rate d.mean_confidence d.best_score
  pub second : SquareInRange L d.second
  pub second_score : Finite d.second_score
  pub margin : Finite d.margin

-- a placing on the board is named by such a square
pub square-in-range : (B : Board) (ts : List ℕ) (P : Placing) (s : Square) → TransformsOk ts → length B.v ≡ 167 → OnBoard B ts P → Names ts P s → SquareInRange (length B.h) s
square-in-range B ts P s k p o n = record {
  transform = subst (λ (x : ℕ). x < 8) n.0 (k.small P.listed o.in_list);
  row = omega (arith, o.row, n.1);
  col = omega (arith, o.col, p, n.2);
}
