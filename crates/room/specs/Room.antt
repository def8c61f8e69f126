-- Document 01, 'Numbers that bound the domain' (room): where cells and groups stand in lent room, and how much of it is used. P gives the period of each side.
use Rattle.std.specs.Prelude.{◌≡◌, refl, Bool, true, false, cond, List, ℕ, ◌+◌, ◌*◌, ◌≤◌, ◌<◌, eqb, length, get_or}
use Rattle.std.proofs.Common.{arith}
use Rattle.laws.specs.declared.Periods.{Periods}
use Rattle.board.specs.Hits.{Board}
use Rattle.board.specs.Sides.{period_of}
use Rattle.room.specs.declared.Side.{Side}

-- the period of each side
abbrev pub by_side : Periods → Bool → ℕ
by_side p s = cond s p.h p.v

-- periods of two accepted tables
pub record PeriodsOk (p : Periods) : Type 0 where
  pub some : (0 < p.h) × (0 < p.v)
  pub few : (p.h ≤ 500) × (p.v ≤ 500)

-- how many places a row of the groups of both sides has, six for each long residue
abbrev pub row_length : ℕ → ℕ → ℕ
row_length L M = (L + M) * 6

-- horizontal cells, then vertical cells
abbrev pub cells_at : (Bool → ℕ) → Bool → ℕ
cells_at P s = cond s 0 (3 * P true)

abbrev pub cells_end : (Bool → ℕ) → ℕ
cells_end P = 3 * P true + 3 * P false

-- then rows of groups, in each the horizontal ones first: one row in the u32 and f32 room, two in the i64 room
abbrev pub groups_at : (Bool → ℕ) → ℕ → Bool → ℕ
groups_at P i s = cells_end P + i * row_length (P true) (P false) + cond s 0 (P true * 6)

-- the used room with m rows of groups
abbrev pub used : (Bool → ℕ) → ℕ → ℕ
used P m = cells_end P + m * row_length (P true) (P false)

-- ---- a side by value
-- it is the horizontal one
abbrev pub is_horizontal : Side → Bool
is_horizontal d = eqb d.orientation 0

-- how the side s stands: "Horizontal cells are (r mod 167, c mod 3); vertical cells are (r mod 3, c mod 167); 501 each, stored row by row, 3 and 167 wide." So a
-- horizontal class is 3 places from the next and its short classes 1, and a vertical class 1 place from the next and its short classes a period
abbrev pub stride_of : Bool → ℕ
stride_of s = cond s 3 1

abbrev pub across_of : ℕ → Bool → ℕ
across_of period s = cond s 1 period

abbrev pub side_of : Periods → Bool → Side
side_of p s = record {
  orientation = cond s 0 1;
  stride = stride_of s;
  across = across_of p.v s;
  cells = cells_at (by_side p) s;
  groups = cond s (cells_end (by_side p)) (cells_end (by_side p) + p.h * 6);
}

-- d is how its own side stands, over the periods P
pub record Stands (P : Bool → ℕ) (d : Side) : Type 0 where
  pub stride : d.stride ≡ stride_of (is_horizontal d)
  pub across : d.across ≡ across_of (P false) (is_horizontal d)
  pub cells : d.cells ≡ cells_at P (is_horizontal d)
  pub groups : d.groups ≡ groups_at P 0 (is_horizontal d)

-- a list so laid out, with cells C and m rows of groups G, and the surplus as it was
module _ {A : Type 0} (d : A) (P : Bool → ℕ) (m : ℕ) (C : Bool → ℕ → A) (G : ℕ → Bool → ℕ → A) where
  pub record Laid (old new : List A) : Type 0 where
    pub len : length new ≡ length old
    pub cells : (s : Bool) (k : ℕ) → k < 3 * P s → get_or new (cells_at P s + k) d ≡ C s k
    pub groups : (i : ℕ) → i < m → (s : Bool) (k : ℕ) → k < P s * 6 → get_or new (groups_at P i s + k) d ≡ G i s k
    pub surplus : (k : ℕ) → used P m ≤ k → get_or new k d ≡ get_or old k d

-- what a board's tables use of the u32 and of the f32 room, and its sums of the i64 room
abbrev pub tables_room : Board → ℕ
tables_room B = used (period_of B) 1

abbrev pub sums_room : Board → ℕ
sums_room B = used (period_of B) 2

-- C-13: "Room becomes 9L+1,503 u32 and f32, and 15L+2,505 i64": what a call must lend where the horizontal table has L patterns
abbrev pub tables_for : ℕ → ℕ
tables_for L = 9 * L + 1503

abbrev pub sums_for : ℕ → ℕ
sums_for L = 15 * L + 2505

-- "Room: 3,006 u32 and 3,006 f32; soft also 5,010 i64", of the flat board
pub flat-rooms : (tables_for 167 ≡ 3006) × (sums_for 167 ≡ 5010)
flat-rooms = (refl, refl)

-- it is what the tables and the sums of such a board use
pub pole-rooms : (B : Board) → length B.v ≡ 167 → (tables_room B ≡ tables_for (length B.h)) × (sums_room B ≡ sums_for (length B.h))
pole-rooms B p = (omega (arith, p), omega (arith, p))
