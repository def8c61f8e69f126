-- What customers are promised of a soft answer, by likelihood sums and hits, both edge by edge: no table occurs here. Quotes are of the
-- demands (docs/CONTRACTS.md).
use Rattle.std.specs.Prelude.{◌≡◌, true, false, List, ◌⊎◌, ℕ, ◌<◌, get_or, length, ℤ, pos, Float}
use Rattle.std.specs.Int.Signed.{lt_z}
use Rattle.std.specs.Float.{binary32}
use Rattle.std.specs.Float.Ieee.{lt, sub, div, of_int}
use Rattle.laws.specs.Words.{origins}
use Rattle.board.specs.declared.edge.Placing.{Placing}
use Rattle.board.specs.Hits.{EdgeList, Board, size}
use Rattle.board.specs.Sides.{period_of}
use Rattle.likelihood.specs.Likelihood.{dequantised}
use Rattle.admission.specs.Calls.{SoftCall}
use Rattle.sums.specs.Sums.{Likelihoods, score}
use Rattle.hard.specs.OneList.{key_at}
use Rattle.margin.specs.declared.slots.SoftCandidate.{SoftCandidate}
use Rattle.soft.specs.BestPlacing.{FirstPlace, SecondPlace}
use Rattle.soft.specs.SelectLaws.{score_at_key}
use Rattle.answer.specs.declared.SoftDecoded.{SoftDecoded}
use Rattle.demand.specs.Demand.{OnBoard, Same, Leads, RunsUp, Names, Tells}

-- the likelihood sum of a placing over the edges, a whole number
abbrev pub whole_sum : Board → EdgeList → Likelihoods → List ℕ → Placing → ℤ
whole_sum B E X ts P = score B E X (get_or ts P.listed 0) P.row P.col

-- its f32 total: "A total returns to f32 as sum / 2^24 rounded once"
abbrev pub total : Board → EdgeList → Likelihoods → List ℕ → Placing → Float
total B E X ts P = dequantised (whole_sum B E X ts P)

-- the placing with its total
abbrev pub with_total : Board → EdgeList → Likelihoods → List ℕ → Placing → SoftCandidate
with_total B E X ts P = record { placing = P; total = total B E X ts P }

-- "Margin = (first - second) / edges", two f32 operations
abbrev pub margin_of : Board → EdgeList → Likelihoods → List ℕ → Placing → Placing → Float
margin_of B E X ts P Q = div binary32 (sub binary32 (total B E X ts P) (total B E X ts Q)) (of_int binary32 (pos (size E)))

-- ---- the two best, by rows and columns

-- row by row, Q stands before P: on an earlier row, or on the same row in an earlier column
abbrev pub RowMajorBefore : Placing → Placing → Type 0
RowMajorBefore Q P = (Q.row < P.row) ⊎ ((Q.row ≡ P.row) × (Q.col < P.col))

-- P has first place: none has a greater f32 total, or under its transform a greater whole sum; those before it row by row have smaller sums, and those of earlier list positions smaller totals (`first-once`)
pub record FirstByLikelihood (B : Board) (E : EdgeList) (X : Likelihoods) (ts : List ℕ) (P : Placing) : Type 0 where
  pub on-board : OnBoard B ts P
  pub greatest_total : (Q : Placing) → OnBoard B ts Q → lt (total B E X ts P) (total B E X ts Q) ≡ false
  pub largest_sum : (Q : Placing) → OnBoard B ts Q → Q.listed ≡ P.listed → lt_z (whole_sum B E X ts P) (whole_sum B E X ts Q) ≡ false
  pub row_major_first : (Q : Placing) → OnBoard B ts Q → Q.listed ≡ P.listed → RowMajorBefore Q P → lt_z (whole_sum B E X ts Q) (whole_sum B E X ts P) ≡ true
  pub earliest_listed : (Q : Placing) → OnBoard B ts Q → Q.listed < P.listed → lt (total B E X ts Q) (total B E X ts P) ≡ true

-- Q has second place after P: another placing, and no placing but P has a greater f32 total. Which one is told of several, all with one total (`second-total`), `SoftKept` says
pub record SecondByLikelihood (B : Board) (E : EdgeList) (X : Likelihoods) (ts : List ℕ) (P Q : Placing) : Type 0 where
  pub on-board : OnBoard B ts Q
  pub other : Same Q P → ⊥
  pub greatest_total : (R : Placing) → OnBoard B ts R → (Same R P → ⊥) → lt (total B E X ts Q) (total B E X ts R) ≡ false

-- "its own best placing clears the soft margin": on the physical list P has first place and Q second place after it, and their margin is not below the soft margin
pub record Clears (call : SoftCall) (P Q : Placing) : Type 0 where
  pub first : FirstByLikelihood call.hard.board call.hard.physical call.likelihoods call.hard.transforms P
  pub second : SecondByLikelihood call.hard.board call.hard.physical call.likelihoods call.hard.transforms P Q
  pub margin : lt (margin_of call.hard.board call.hard.physical call.likelihoods call.hard.transforms P Q) call.soft-margin ≡ false

-- what a found soft answer says: the physical list gives the square, its figures, the second by likelihood and the margin; the logical list gives the lead and the runner-up
pub record SoftAnswered (call : SoftCall) (d : SoftDecoded) : Type 0 where
  pub square : Placing
  pub second : Placing
  pub runner-up : Placing
  pub clears : Clears call square second
  pub leads : Leads call.hard.board call.hard.logical call.hard.transforms call.hard.error_limit square
  pub runs_up : RunsUp call.hard.board call.hard.logical call.hard.transforms square runner-up
  pub tells : Tells call.hard.board call.hard.physical call.hard.logical call.hard.transforms square runner-up d.square d.hits d.edges d.runner_up d.runner_up_hits
  pub best_score : d.best_score ≡ total call.hard.board call.hard.physical call.likelihoods call.hard.transforms square
  pub second_named : Names call.hard.transforms second d.second
  pub second_score : d.second_score ≡ total call.hard.board call.hard.physical call.likelihoods call.hard.transforms second
  pub margin : d.margin ≡ margin_of call.hard.board call.hard.physical call.likelihoods call.hard.transforms square second

-- ---- the same by keys and cells, with the tie rule of second place
-- "its own best placing": P has first place by likelihood, and Q has second place after it (BestPlacing.antt of soft says what these are). `best-by-rows` of
-- SoftPlaces.antt: then P and Q are first and second as above, and whoever is first as above is P
pub record BestByLikelihood (B : Board) (E : EdgeList) (X : Likelihoods) (ts : List ℕ) (P Q : Placing) : Type 0 where
  pub on-board : OnBoard B ts P
  pub second_on : OnBoard B ts Q
  pub first : FirstPlace (origins (period_of B true) (period_of B false)) (length ts) (score_at_key B E X ts) P.listed (key_at (period_of B false) P.row P.col)
  pub second : SecondPlace (origins (period_of B true) (period_of B false)) (length ts) (score_at_key B E X ts) P.listed (key_at (period_of B false) P.row P.col) Q.listed (key_at (period_of B false) Q.row Q.col)

-- what a found soft answer says of ties: the two placings that soft selection keeps are the best by likelihood, with document 01's tie rule, and the answer has the squares of both and their margin
pub record SoftKept (call : SoftCall) (d : SoftDecoded) : Type 0 where
  pub square : Placing
  pub second : Placing
  pub best : BestByLikelihood call.hard.board call.hard.physical call.likelihoods call.hard.transforms square second
  pub names : Names call.hard.transforms square d.square
  pub second_named : Names call.hard.transforms second d.second
  pub margin : d.margin ≡ margin_of call.hard.board call.hard.physical call.likelihoods call.hard.transforms square second
