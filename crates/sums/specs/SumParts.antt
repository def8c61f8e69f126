-- What the parts of `build_sums` ask and give: groups of likelihoods, terms, runs, families and sides, as for counts, with two rows of groups.
use Rattle.std.specs.Prelude.{◌≡◌, Bool, false, List, ℕ, zero, suc, ◌+◌, ◌*◌, ◌/◌, ◌%◌, ◌^◌, ◌≤◌, ◌<◌, length, ℤ, pos, nat_abs, ◌+ℤ◌}
use Rattle.laws.specs.Zone.{Zone}
use Rattle.board.specs.Hits.{EdgeList, Board}
use Rattle.board.specs.Sides.{table_of, period_of}
use Rattle.board.specs.Domain.{EdgesOk, BoardOk}
use Rattle.room.specs.declared.Side.{Side}
use Rattle.room.specs.Room.{PeriodsOk, row_length, is_horizontal, stride_of, across_of}
use Rattle.groups.specs.Fill.{row_sum}
use Rattle.cells.specs.Cells.{long_class, short_class, cell_sum, family}
use Rattle.cells.specs.Credit.{cell_pattern, FamilyPlaces}
use Rattle.tables.specs.Runs.{RunReadyOf, RunCellsOf}
use Rattle.sum_terms.specs.SumTerms.{places_z, term_z, Twelve}
use Rattle.sums.specs.Sums.{Likelihoods, match_at, mismatch_at, LikelihoodsOk}

-- ---- groups: row 0 has the match likelihoods, row 1 the mismatch ones
abbrev pub value_at : Likelihoods → ℕ → ℕ → ℤ
value_at X zero = match_at X
value_at X (suc i) = mismatch_at X

-- what the first n edges add to place k of the rows
abbrev pub rows_sum : ℕ → ℕ → EdgeList → Likelihoods → ℕ → ℕ → ℕ → ℤ
rows_sum L M E X t n k = row_sum ◌+ℤ◌ (pos 0) (value_at X (k / row_length L M)) L M E t n (k % row_length L M)

-- what the groups of likelihoods can be filled from: an accepted list with its likelihoods, a transform, and room for both rows of groups
pub record SumsFillReady (L M : ℕ) (E : EdgeList) (X : Likelihoods) (t base : ℕ) (a : List ℤ) : Type 0 where
  pub list : EdgesOk E
  pub likelihoods : LikelihoodsOk E X
  pub transform : t < 8
  pub periods : PeriodsOk (record { h = L; v = M })
  pub room : base + 2 * row_length L M ≤ length a
  pub clear : (k : ℕ) → k < 2 * row_length L M → places_z base a k ≡ pos 0

-- the first n edges are in, and nothing else changed
abbrev pub SumsFilled : ℕ → ℕ → EdgeList → Likelihoods → ℕ → ℕ → ℕ → List ℤ → List ℤ → Type 0
SumsFilled L M E X t base n a a' = Zone (pos 0) (rows_sum L M E X t n) base (2 * row_length L M) a a'

-- ---- a run of classes
-- a cell takes what keeps it below 2^63 in size
abbrev pub takes_z : ℤ → ℤ → Type 0
takes_z x y = nat_abs (x +ℤ y) < 2 ^ 63

-- the places of n classes are there, and each cell has room for its term
abbrev pub RunReadyZ : List (List ℤ) → List ℕ → ℕ → ℕ → ℕ → ℕ → List ℤ → Type 0
RunReadyZ = RunReadyOf (pos 0) takes_z

-- the first q cells have their term added, and nothing else changed
abbrev pub RunCellsZ : List (List ℤ) → List ℕ → ℕ → ℕ → ℕ → ℕ → List ℤ → List ℤ → Type 0
RunCellsZ = RunCellsOf (pos 0) ◌+ℤ◌

-- a run of n classes credited, three cells each
abbrev pub RunCreditedZ : List (List ℤ) → List ℕ → ℕ → ℕ → ℕ → ℕ → List ℤ → List ℤ → Type 0
RunCreditedZ terms part n at stride across a a' = RunCellsZ terms part at stride across (n * 3) a a'

-- ---- a family: what it adds to cell k, where its groups stand from `from` and `also` on
abbrev pub gain_z : Board → Bool → ℕ → ℕ → ℕ → List ℤ → ℕ → ℤ
gain_z B s f from also a k = term_z 6 (places_z from a) (places_z also a) (cell_pattern B s f k) (short_class B s k)

-- what a family can be credited from: its places, its twelve groups, and room for the cells
pub record FamilyReadyZ (B : Board) (d : Side) (also f : ℕ) (a : List ℤ) : Type 0 where
  pub places : FamilyPlaces B d f
  pub twelve : Twelve (d.groups + f * 6) (also + f * 6) a
  pub room : d.cells + 3 * period_of B (is_horizontal d) ≤ length a
  pub fits : (k : ℕ) → k < 3 * period_of B (is_horizontal d) → nat_abs (places_z d.cells a k +ℤ gain_z B (is_horizontal d) f (d.groups + f * 6) (also + f * 6) a k) < 2 ^ 63

-- every cell of the side has the family's term added, and nothing else changed
abbrev pub FamilyCreditedZ : Board → Side → ℕ → ℕ → List ℤ → List ℤ → Type 0
FamilyCreditedZ B d also f a a' = Zone (pos 0) (λ k. places_z d.cells a k +ℤ gain_z B (is_horizontal d) f (d.groups + f * 6) (also + f * 6) a k) d.cells (3 * period_of B (is_horizontal d)) a a'

-- ---- a side
-- what a family adds, of groups that hold m k and u k each
abbrev pub family_z : (ℕ → ℤ) → (ℕ → ℤ) → ℕ → ℕ → ℕ → ℤ
family_z m u f = term_z 6 (family m f) (family u f)

-- cell k with the first n families in
abbrev pub cell_z : Board → Bool → ℕ → ℕ → List ℤ → ℕ → ℕ → ℤ
cell_z B s from also a n k = cell_sum ◌+ℤ◌ (pos 0) (family_z (places_z from a) (places_z also a)) (table_of B s) n (long_class B s k) (short_class B s k)

-- what one side can be built from: accepted tables, the steps between its cells, and groups that lie beyond them, the mismatch ones from `also` on
pub record SideReadyZ (B : Board) (d : Side) (also : ℕ) (a : List ℤ) : Type 0 where
  pub board : BoardOk B
  pub steps : (d.stride ≡ stride_of (is_horizontal d)) × (d.across ≡ across_of (period_of B false) (is_horizontal d))
  pub apart : (d.cells + 3 * period_of B (is_horizontal d) ≤ d.groups) × (d.cells + 3 * period_of B (is_horizontal d) ≤ also)
  pub room : (d.groups + period_of B (is_horizontal d) * 6 ≤ length a) × (also + period_of B (is_horizontal d) * 6 ≤ length a)
  pub groups : (k : ℕ) → k < period_of B (is_horizontal d) * 6 → (nat_abs (places_z d.groups a k) ≤ 2 ^ 53) × (nat_abs (places_z also a k) ≤ 2 ^ 53)
  pub small : (n k : ℕ) → n ≤ period_of B (is_horizontal d) → nat_abs (cell_z B (is_horizontal d) d.groups also a n k) ≤ 2 ^ 53
  pub clear : (k : ℕ) → k < 3 * period_of B (is_horizontal d) → places_z d.cells a k ≡ pos 0

-- the first n families are in the cells, and nothing else changed
abbrev pub SideCellsZ : Board → Side → ℕ → ℕ → List ℤ → List ℤ → Type 0
SideCellsZ B d also n a a' = Zone (pos 0) (cell_z B (is_horizontal d) d.groups also a n) d.cells (3 * period_of B (is_horizontal d)) a a'

-- all families of one side credited
abbrev pub SideBuiltZ : Board → Side → ℕ → List ℤ → List ℤ → Type 0
SideBuiltZ B d also a a' = SideCellsZ B d also (period_of B (is_horizontal d)) a a'
