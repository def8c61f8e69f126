-- C-21, slide the picture, slide the square: what it is that every edge of a list moves, how an origin moves with it, and what is the same of two outcomes. Quotes are of the request.
use Rattle.std.specs.Prelude.{◌≡◌, List, ℕ, ◌*◌, ◌<◌, get_or, length, ℤ, pos, ◌+ℤ◌, ◌-ℤ◌, Err, Ok}
use Rattle.laws.specs.Words.{emod}
use Rattle.board.specs.declared.edge.Placing.{Placing}
use Rattle.board.specs.Transform.{mapped}
use Rattle.board.specs.Hits.{EdgeList, Board, size}
use Rattle.decide.specs.Kinds.{Outcome}

-- "every edge moves by the same rows and columns": edge i of `after` is edge i of `before`, so many rows down and so many columns to the right; bits and confidences stay
pub record Slid (down right : ℤ) (before after : EdgeList) : Type 0 where
  pub edges : size after ≡ size before
  pub row : (i : ℕ) → i < size before → get_or after.rows i (pos 0) ≡ get_or before.rows i (pos 0) +ℤ down
  pub col : (i : ℕ) → i < size before → get_or after.cols i (pos 0) ≡ get_or before.cols i (pos 0) +ℤ right
  pub orientations : after.orientations ≡ before.orientations
  pub bits : after.bits ≡ before.bits
  pub confidences : after.confidences ≡ before.confidences

-- "the transformed shift": what the matrix of transform t makes of it, as of a column and a row
abbrev pub shifted_rows : ℕ → ℤ → ℤ → ℤ
shifted_rows t down right = mapped t 1 right down

abbrev pub shifted_cols : ℕ → ℤ → ℤ → ℤ
shifted_cols t down right = mapped t 0 right down

-- "the origin moves by the transformed shift, negated, modulo the board's rows and columns": a board has three rows to a horizontal pattern and three columns to a vertical one, and
-- remainders are never negative
unfoldable pub slid_row : Board → ℕ → ℤ → ℤ → ℕ → ℕ
slid_row B t down right row = emod (pos row -ℤ shifted_rows t down right) (3 * length B.h)

unfoldable pub slid_col : Board → ℕ → ℤ → ℤ → ℕ → ℕ
slid_col B t down right col = emod (pos col -ℤ shifted_cols t down right) (3 * length B.v)

-- the placing that faces the same squares when the picture is slid: the same place in the transform list, at the slid origin
unfoldable pub slid_placing : Board → List ℕ → ℤ → ℤ → Placing → Placing
unfolding slid_row slid_col
slid_placing B ts down right P =
    let t = get_or ts P.listed 0 in
    record { listed = P.listed; row = slid_row B t down right P.row; col = slid_col B t down right P.col }

-- "the number of the refusal or the hits, runner-up hits and transform are the same", and the origin is the slid one; the runner-up's place is not included
abbrev pub SlidTo : Board → List ℕ → ℤ → ℤ → Outcome → Outcome → Type 0
SlidTo B ts down right (Err one) (Err other) = other ≡ one
SlidTo B ts down right (Err one) (Ok (winner, runner-up)) = ⊥
SlidTo B ts down right (Ok (winner, runner-up)) (Err other) = ⊥
SlidTo B ts down right (Ok (winner, runner-up)) (Ok (other, its-runner-up)) =
    (other.hits ≡ winner.hits) × (its-runner-up.hits ≡ runner-up.hits) × (other.placing.listed ≡ winner.placing.listed)
    × (other.placing.row ≡ slid_row B (get_or ts winner.placing.listed 0) down right winner.placing.row)
    × (other.placing.col ≡ slid_col B (get_or ts winner.placing.listed 0) down right winner.placing.col)
