-- The two tables of one transform, as soft selection finds them: likelihood sums by cell, 3 L horizontal cells and 3 M vertical ones.
use Rattle.std.specs.Prelude.{◌≡◌, List, ℕ, ◌+◌, ◌*◌, ◌^◌, ◌≤◌, ◌<◌, ℤ, nat_abs, ◌+ℤ◌, length}
use Rattle.laws.specs.Words.{Grid}
use Rattle.level.specs.Level.{s_at}

-- horizontal and vertical sums
pub record SumTables : Type 0 where
  pub hs : List ℤ
  pub vs : List ℤ

-- two tables of sums as one record
abbrev pub sums : List ℤ → List ℤ → SumTables
sums hs vs = record { hs = hs; vs = vs }

-- tables as long as the periods say; "Cell sums are i64 (at most 2^53 in size)", and a horizontal and a vertical one are so together
pub record SumsOk (L M : ℕ) (hs vs : List ℤ) : Type 0 where
  pub hlen : length hs ≡ 3 * L
  pub vlen : length vs ≡ 3 * M
  pub bounded : (i j : ℕ) → i < 3 * L → j < 3 * M → nat_abs (s_at hs i) + nat_abs (s_at vs j) ≤ 2 ^ 53

-- the whole sum at the origin of key k: that of its horizontal cell and that of its vertical cell
abbrev pub sum_at : Grid → List ℤ → List ℤ → ℕ → ℤ
sum_at G hs vs k = s_at hs (G.h_of k) +ℤ s_at vs (G.v_of k)
