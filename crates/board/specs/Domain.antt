-- Document 01, 'Numbers that bound the domain': edges, lists and pattern tables that were accepted.
use Rattle.std.specs.Prelude.{◌≡◌, ◌≢◌, List, ℕ, ◌%◌, ◌≤◌, ◌<◌, get_or, length, ℤ, pos, nat_abs}
use Rattle.laws.specs.Words.{Weight}
use Rattle.std.specs.Float.{nan}
use Rattle.board.specs.declared.edge.Edge.{Edge}
use Rattle.board.specs.Hits.{EdgeList, Board, size, seen}

-- one edge under a transform: "Row and column are from -1,000,000 to 1,000,000 .. Bit is 0 or 1", transform numbers "each 0 to 7"
pub record EdgeOk (e : Edge) (t : ℕ) : Type 0 where
  pub near-row : nat_abs e.row ≤ 1000000
  pub near-col : nat_abs e.col ≤ 1000000
  pub bit : e.bit < 2
  pub transform : t < 8

-- the edges of a list, a column for each field: at most 8,192, the columns equally long, each edge in range
pub record ColumnsOk (r c : List ℤ) (o b : List ℕ) : Type 0 where
  pub few : length r ≤ 8192
  pub cols : length c ≡ length r
  pub orientations : length o ≡ length r
  pub bits : length b ≡ length r
  pub near-row : (i : ℕ) → i < length r → nat_abs (get_or r i (pos 0)) ≤ 1000000
  pub near-col : (i : ℕ) → i < length r → nat_abs (get_or c i (pos 0)) ≤ 1000000
  pub bit : (i : ℕ) → i < length r → get_or b i 0 < 2

-- of a list, whatever its confidences
abbrev pub EdgesOk : EdgeList → Type 0
EdgesOk E = ColumnsOk E.rows E.cols E.orientations E.bits

-- a list: at most 8,192 edges, its fields equally long, each edge in range, "Confidence is an f32 from 0 to 1. Negative zero counts as 0."
pub record ListOk (E : EdgeList) : Type 0 where
  pub few : size E ≤ 8192
  pub cols : length E.cols ≡ size E
  pub orientations : length E.orientations ≡ size E
  pub bits : length E.bits ≡ size E
  pub confidences : length E.confidences ≡ size E
  pub near-row : (i : ℕ) → i < size E → nat_abs (get_or E.rows i (pos 0)) ≤ 1000000
  pub near-col : (i : ℕ) → i < size E → nat_abs (get_or E.cols i (pos 0)) ≤ 1000000
  pub bit : (i : ℕ) → i < size E → seen E i < 2
  pub confidence : (i : ℕ) → i < size E → Weight (get_or E.confidences i nan) 1

-- a pattern table: each byte is 0 to 7; its length, the period, is 167, or what a pole's table may have, 4 to 500 and no multiple of 3
pub record Patterns (ps : List ℕ) : Type 0 where
  pub some : 3 < length ps
  pub few : length ps ≤ 500
  pub free : length ps % 3 ≢ 0
  pub small : (i : ℕ) → i < length ps → get_or ps i 0 < 8

-- both tables
pub record BoardOk (B : Board) : Type 0 where
  pub h : Patterns B.h
  pub v : Patterns B.v
