-- Laws of values: how large their sums are, hits and weight in them, and the cell's value against the edges.
use Rattle.std.specs.Prelude.{◌≡◌, refl, Bool, cond, ◌&&◌}
use Rattle.std.proofs.Common.{sym, ap₂, ◌∙◌, arith}
use Rattle.std.proofs.Math.Bool.{true, false}
use Prim.Native.Nat.{ℕ, zero, suc, ◌+◌, ◌*◌, ◌/◌, ◌%◌, ◌^◌, ◌≤◌, ◌<◌, zero-le}
use Rattle.std.proofs.Math.Nat.{add-zero, add_assoc, add_comm}
use Rattle.laws.specs.Tests.{and_comm, and-ext}
use Rattle.laws.specs.Words.{put, fold, count}
use Rattle.laws.specs.Counting.{count-le}
use Rattle.laws.specs.DoubleCounting.{fold-ext, fold-split}
use Rattle.board.specs.Hits.{EdgeList, Board, size, seen, look, horizontal, hit}
use Rattle.board.specs.Sides.{on_side, table_of, period_of}
use Rattle.board.specs.Domain.{ListOk}
use Rattle.board.proofs.HitsLaws.{hit-class}
use Rattle.groups.specs.Groups.{confidence_at, group_sum, group_count}
use Rattle.unit_terms.specs.Values.{one_hit}
use Rattle.unit_terms.specs.ValuesLaws.{unit-small, value-is}
use Rattle.cells.specs.Cells.{long_class, short_class, cell_sum, family, family_of, family_c}
use Rattle.tables.specs.CellsLaws.{cell_same, term-all, group-none, class-by-edges}
use Rattle.units.specs.Units.{unit_at, value_at, side_sum, cell_value, group_value}

-- ---- sums of numbers, each at most m
pub sum-most : (m : ℕ) (p : ℕ → Bool) (x : ℕ → ℕ) (n : ℕ) → ((i : ℕ) → i < n → x i ≤ m) → fold ◌+◌ 0 n p x ≤ count n p * m
unfolding fold
sum-most m p x zero h = zero-le
sum-most m p x (suc n) h = go (p n) (h n (omega arith)) (sum-most m p x n (λ i l. h i (omega arith)))
  where
    go : (b : Bool) → x n ≤ m → fold ◌+◌ 0 n p x ≤ count n p * m → put ◌+◌ b (fold ◌+◌ 0 n p x) (x n) ≤ put ◌+◌ b (count n p) 1 * m
    go true l ih = omega arith
    go false l ih = ih

-- ---- a sum of values is as many hits and their units
pub values-split : (x y : ℕ → ℕ) (w : ℕ) → ((i : ℕ) → x i ≡ w + y i) → (p : ℕ → Bool) (n : ℕ) → fold ◌+◌ 0 n p x ≡ count n p * w + fold ◌+◌ 0 n p y
unfolding fold
values-split x y w e p zero = omega arith
values-split x y w e p (suc n) = go (p n) (values-split x y w e p n)
  where
    go : (b : Bool) → fold ◌+◌ 0 n p x ≡ count n p * w + fold ◌+◌ 0 n p y → put ◌+◌ b (fold ◌+◌ 0 n p x) (x n) ≡ put ◌+◌ b (count n p) 1 * w + put ◌+◌ b (fold ◌+◌ 0 n p y) (y n)
    go true ih = omega (arith, e n)
    go false ih = ih

module _ (E : EdgeList) where
  pub value-at : (i : ℕ) → value_at E i ≡ one_hit + unit_at E i
  value-at i = value-is (confidence_at E i)

  module _ (list : ListOk E) where
    unit-at : (i : ℕ) → i < size E → unit_at E i ≤ 2 ^ 24
    unit-at i h = unit-small (confidence_at E i) (list.confidence i h)

    -- the units of some edges are below what a hit counts for
    pub units-few : (n : ℕ) (p : ℕ → Bool) → n ≤ size E → fold ◌+◌ 0 n p (unit_at E) ≤ 2 ^ 37
    units-few n p h = omega (arith, sum-most (2 ^ 24) p (unit_at E) n (λ i l. unit-at i (omega arith)), count-le p n, list.few)

    -- their values are far below 2^64
    pub values-few : (n : ℕ) (p : ℕ → Bool) → n ≤ size E → fold ◌+◌ 0 n p (value_at E) < 2 ^ 52
    values-few n p h = omega (arith, values-split (value_at E) (unit_at E) (one_hit) value-at p n, units-few n p h, count-le p n, list.few)

-- ---- the values are those of the edges
module _ (B : Board) (E : EdgeList) (t : ℕ) where
  -- a group is left out where it holds nothing, or where it has no edge: the cells are the same
  held-class : (x : ℕ → ℕ) (s : Bool) (n lc sc : ℕ)
      → cell_sum ◌+◌ 0 (family_c (group_sum ◌+◌ 0 x B E t s)) (table_of B s) n lc sc
      ≡ cell_sum ◌+◌ 0 (family_of ◌+◌ 0 false (group_count B E t s) (λ b. group_sum ◌+◌ 0 x B E t s)) (table_of B s) n lc sc
  held-class x s n lc sc =
      let g = group_sum ◌+◌ 0 x B E t s in
      cell_same ◌+◌ 0 (family_c g) (table_of B s) (family_of ◌+◌ 0 false (group_count B E t s) (λ b. g)) n lc sc
      (λ f h p.
      term-all ◌+◌ 0 add-zero false 6 (family g f) (λ b. family g f) p sc (λ b j e. e)
      ∙ sym (term-all ◌+◌ 0 add-zero false 6 (family (group_count B E t s) f) (λ b. family g f) p sc (λ b j e. group-none ◌+◌ 0 add-zero B E t s x (f * 6 + j) e)))

  module _ (some : (s : Bool) → 0 < period_of B s) (bits : (i : ℕ) → i < size E → seen E i < 2) where
    value-side : (s : Bool) (r c : ℕ) → cell_sum ◌+◌ 0 (family_c (group_value B E t s)) (table_of B s) (period_of B s) (cond s r c) (cond s c r) ≡ side_sum (value_at E) B E t s r c
    unfolding side_sum
    value-side s r c =
        held-class (value_at E) s (period_of B s) (cond s r c) (cond s c r)
        ∙ class-by-edges B E t some bits ◌+◌ 0 add-zero add_assoc add_comm false (λ b. value_at E) s r c

    -- the same by cell
    pub cell-value : (s : Bool) (k : ℕ) → cell_sum ◌+◌ 0 (family_c (group_value B E t s)) (table_of B s) (period_of B s) (long_class B s k) (short_class B s k) ≡ cell_value B E t s k
    unfolding long_class short_class cell_value
    cell-value true k = value-side true (k / 3) (k % 3)
    cell-value false k = value-side false (k / period_of B false) (k % period_of B false)

-- ---- what the hits of a placing add up to is that of both sides, at its classes
module _ (x : ℕ → ℕ) (B : Board) (E : EdgeList) (t : ℕ) (some : (s : Bool) → 0 < period_of B s) (r c : ℕ) where
  either : (b : Bool) (y : ℕ) → y ≡ cond b y y
  either true y = refl
  either false y = refl

  sum-class : (s : Bool) → fold ◌+◌ 0 (size E) (λ i. hit B E t r c i && on_side E t s i) x ≡ side_sum x B E t s (r % cond s (period_of B true) 3) (c % cond s 3 (period_of B false))
  unfolding side_sum
  sum-class s = fold-ext ◌+◌ 0 (size E) _ _ x x (λ i l. and_comm (hit B E t r c i) (on_side E t s i) ∙ and-ext (on_side E t s i) (hit-class B E t some s r c i)) (λ i l. refl)

  pub sum-by-class : fold ◌+◌ 0 (size E) (hit B E t r c) x ≡ side_sum x B E t true (r % period_of B true) (c % 3) + side_sum x B E t false (r % 3) (c % period_of B false)
  sum-by-class =
      let o : ℕ → Bool = λ i. horizontal (look E t i) in
      fold-ext ◌+◌ 0 (size E) (hit B E t r c) (hit B E t r c) x (λ i. cond (o i) (x i) (x i)) (λ i l. refl) (λ i l. either (o i) (x i))
      ∙ fold-split ◌+◌ 0 add-zero add_assoc add_comm (size E) (hit B E t r c) o x x
      ∙ ap₂ ◌+◌ (sum-class true) (sum-class false)
