-- C-20: "origins starting at a given row and column and running for a given number of each, 1 to 501, wrapping at 501".
use Rattle.std.specs.Prelude.{◌≡◌, Bool, cond, ◌&&◌, ◌||◌, List, ℕ, ◌+◌, ◌-◌, ◌%◌, ◌≤◌, ◌<◌, eqb, ltb, leb, length}
use Rattle.board.specs.declared.edge.Placing.{Placing}
use Rattle.part.specs.declared.Part.{Part}
use Rattle.part.specs.declared.Runs.{Runs}

-- x is a row of a part that starts at row `start` and has so many rows; and the same for columns
abbrev pub InSide : ℕ → ℕ → ℕ → Type 0
InSide start number x = (i : ℕ) × (i < number) × (x ≡ (start + i) % 501)

-- the placing's origin is one of the part
abbrev pub InPart : Part → Placing → Type 0
InPart part P = InSide part.row part.rows P.row × InSide part.col part.cols P.col

-- a placing of the part: a list position, with an origin of the part
abbrev pub OnPart : List ℕ → Part → Placing → Type 0
OnPart ts part P = (P.listed < length ts) × InPart part P

-- ---- what is in range
-- a start from 0 to 500, and a number from 1 to 501
pub record SideOk (start number : ℕ) : Type 0 where
  pub begins : start ≤ 500
  pub some : 0 < number
  pub few : number ≤ 501

-- both sides
pub record PartOk (part : Part) : Type 0 where
  pub down : SideOk part.row part.rows
  pub across : SideOk part.col part.cols

-- a start of 501 or more, or a number of 0, or of 502 or more
unfoldable pub side_bad : ℕ → ℕ → Bool
side_bad start number = ltb 500 start || (eqb number 0 || ltb 501 number)

-- either side
unfoldable pub part_bad : Part → Bool
unfolding side_bad
part_bad part = side_bad part.row part.rows || side_bad part.col part.cols

-- ---- the numbers of a side in order, as two runs: what wrapped stands at 0, the rest at the start
unfoldable pub runs_of : ℕ → ℕ → Runs
runs_of start number =
    cond (leb (start + number) 501)
    (record { first = 0; from = start; to = start + number })
    (record { first = start + number - 501; from = start; to = 501 })

-- x is in one of the two runs
unfoldable pub in_runs : Runs → ℕ → Bool
in_runs r x = ltb x r.first || (leb r.from x && ltb x r.to)

-- two runs of numbers below 501, one behind the other
pub record RunsOk (r : Runs) : Type 0 where
  pub apart : r.first ≤ r.from
  pub forth : r.from ≤ r.to
  pub inside : r.to ≤ 501
