-- The order of the cells in a credit, class by class, against their order in the room: the j-th cell of a credit stands at `stand B s j` of its table, and
-- cell k of the table has its turn at `turn B s k`.
use Rattle.std.specs.Prelude.{◌≡◌, Bool, ℕ, ◌+◌, ◌*◌, ◌/◌, ◌%◌, ◌<◌}
use Rattle.std.proofs.Common.{sym, ap₂, ◌∙◌, mul-one, div-lt_iff_lt-mul, lit<}
use Rattle.std.proofs.Math.Path.{ap}
use Rattle.std.proofs.Math.Bool.{true, false}
use Rattle.std.proofs.Math.Nat.{mod-lt, add_comm, div-add-mod'}
use native.Mathlib.Omega.{arith}
use Rattle.std.proofs.Math.Arith.{digits_div, digits_mod, digits_lt}
use Rattle.board.specs.Hits.{Board}
use Rattle.board.specs.Sides.{period_of}
use Rattle.cells.specs.Cells.{long_class, short_class}
use Rattle.room.specs.Room.{stride_of, across_of}

abbrev pub stand : Board → Bool → ℕ → ℕ
stand B s j = j / 3 * stride_of s + j % 3 * across_of (period_of B false) s

abbrev pub turn : Board → Bool → ℕ → ℕ
turn B s k = long_class B s k * 3 + short_class B s k

module _ (B : Board) where
  -- the classes of the j-th cell
  module _ (j : ℕ) where
    third : (L : ℕ) → j < 3 * L → j / 3 < L
    third L h = omega arith

    three : j % 3 < 3
    three = mod-lt j (lit< tt)

    at_true : stand B true j ≡ j
    at_true = ap (λ x. j / 3 * 3 + x) (mul-one (j % 3)) ∙ div-add-mod' j 3

    at-false : stand B false j ≡ j % 3 * period_of B false + j / 3
    at-false = add_comm (j / 3 * 1) (j % 3 * period_of B false) ∙ ap (λ x. j % 3 * period_of B false + x) (mul-one (j / 3))

    pub stand-in : (s : Bool) → j < 3 * period_of B s → stand B s j < 3 * period_of B s
    stand-in true h = rw at_true h
    stand-in false h = rw at-false (digits_lt three (third (period_of B false) h))

    pub long-stand : (s : Bool) → j < 3 * period_of B s → long_class B s (stand B s j) ≡ j / 3
    unfolding long_class
    long-stand true h = ap (λ x. x / 3) at_true
    long-stand false h = ap (λ x. x % period_of B false) at-false ∙ digits_mod (j % 3) (third (period_of B false) h)

    pub short-stand : (s : Bool) → j < 3 * period_of B s → short_class B s (stand B s j) ≡ j % 3
    unfolding short_class
    short-stand true h = ap (λ x. x % 3) at_true
    short-stand false h = ap (λ x. x / period_of B false) at-false ∙ digits_div (j % 3) (third (period_of B false) h)

    pub turn-stand : (s : Bool) → j < 3 * period_of B s → turn B s (stand B s j) ≡ j
    turn-stand s h = ap₂ (λ (x y : ℕ). x * 3 + y) (long-stand s h) (short-stand s h) ∙ div-add-mod' j 3

  -- the classes of cell k
  module _ (some : (s : Bool) → 0 < period_of B s) (k : ℕ) where
    pub short-below : (s : Bool) → k < 3 * period_of B s → short_class B s k < 3
    unfolding short_class
    short-below true h = mod-lt k (lit< tt)
    short-below false h = (div-lt_iff_lt-mul (some false)).1 h

    pub long-below : (s : Bool) → k < 3 * period_of B s → long_class B s k < period_of B s
    unfolding long_class
    long-below true h = omega arith
    long-below false h = mod-lt k (some false)

    pub turn_in : (s : Bool) → k < 3 * period_of B s → turn B s k < 3 * period_of B s
    turn_in s h = let a = long-below s h in let b = short-below s h in omega arith

    -- its turn, taken apart
    pub turn-long : (s : Bool) → k < 3 * period_of B s → turn B s k / 3 ≡ long_class B s k
    turn-long s h = digits_div (long_class B s k) (short-below s h)

    pub turn-short : (s : Bool) → k < 3 * period_of B s → turn B s k % 3 ≡ short_class B s k
    turn-short s h = digits_mod (long_class B s k) (short-below s h)

    joined : (s : Bool) → long_class B s k * stride_of s + short_class B s k * across_of (period_of B false) s ≡ k
    unfolding long_class short_class
    joined true = ap (λ x. k / 3 * 3 + x) (mul-one (k % 3)) ∙ div-add-mod' k 3
    joined false =
        add_comm (k % period_of B false * 1) (k / period_of B false * period_of B false)
        ∙ ap (λ x. k / period_of B false * period_of B false + x) (mul-one (k % period_of B false))
        ∙ div-add-mod' k (period_of B false)

    pub stand-turn : (s : Bool) → k < 3 * period_of B s → stand B s (turn B s k) ≡ k
    stand-turn s h = ap₂ (λ (x y : ℕ). x * stride_of s + y * across_of (period_of B false) s) (turn-long s h) (turn-short s h) ∙ joined s

  -- two cells of a credit that stand at one place are one
  pub stand-apart : (s : Bool) (i j : ℕ) → i < 3 * period_of B s → j < 3 * period_of B s → stand B s i ≡ stand B s j → i ≡ j
  stand-apart s i j h l e = sym (turn-stand i s h) ∙ ap (turn B s) e ∙ turn-stand j s l
