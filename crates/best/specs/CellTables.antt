-- The four tables of one transform, as the selection finds them: counts and weights by cell, 3 L horizontal cells and 3 M vertical ones.
use Rattle.std.specs.Prelude.{◌≡◌, ◌≢◌, List, ℕ, ◌+◌, ◌*◌, ◌%◌, ◌≤◌, ◌<◌, T, get_or, length, Float}
use Rattle.std.specs.Float.{nan}
use Rattle.laws.specs.Weights.{weightlike}

-- a period, which is a pattern table's length: 167 of the board, or what a pole's table may have
pub record Period (n : ℕ) : Type 0 where
  pub more : 3 < n
  pub few : n ≤ 500
  pub free : n % 3 ≢ 0

-- the count and the weight of cell i of one table
abbrev pub c_at : List ℕ → ℕ → ℕ
c_at cs i = get_or cs i 0

abbrev pub w_at : List Float → ℕ → Float
w_at ws i = get_or ws i nan

-- horizontal counts and weights, vertical counts and weights
pub record CellTables : Type 0 where
  pub hc : List ℕ
  pub hw : List Float
  pub vc : List ℕ
  pub vw : List Float

-- the four together
abbrev pub cells : List ℕ → List Float → List ℕ → List Float → CellTables
cells hc hw vc vw = record { hc = hc; hw = hw; vc = vc; vw = vw }

-- tables of a list of `edges` edges: as long as the periods say, each weight finite with no minus sign, and no pair of cells with more hits than edges
pub record TablesOk (L M edges : ℕ) (X : CellTables) : Type 0 where
  pub hcs : length X.hc ≡ 3 * L
  pub hws : length X.hw ≡ 3 * L
  pub vcs : length X.vc ≡ 3 * M
  pub vws : length X.vw ≡ 3 * M
  pub hweights : (i : ℕ) → i < 3 * L → T (weightlike (w_at X.hw i))
  pub vweights : (i : ℕ) → i < 3 * M → T (weightlike (w_at X.vw i))
  pub bounded : (i j : ℕ) → i < 3 * L → j < 3 * M → c_at X.hc i + c_at X.vc j ≤ edges
  pub few : edges ≤ 8192
