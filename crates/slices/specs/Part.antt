-- A part of a column.
use Rattle.std.specs.Prelude.{◌≡◌, cond, List, [], ℕ, ◌+◌, ◌-◌, ◌≤◌, ◌<◌, ltb, length, take, drop}
use Rattle.std.proofs.Common.{lt-ltb, le-ltb}
use Rattle.std.proofs.Math.Nat.{add-sub_cancel_left}

module _ {A : Type 0} where
  -- n elements from a place on, or none where there are not so many
  unfoldable pub part : List A → ℕ → ℕ → List A
  part xs from n = cond (ltb (length xs) (from + n)) [] (take n (drop from xs))

  -- too few
  pub part_none : (xs : List A) (from n : ℕ) → length xs < from + n → [] ≡ part xs from n
  unfolding part
  part_none xs from n h = rw (lt-ltb (length xs) (from + n) h)

  -- enough
  pub part-some : (xs : List A) (from n : ℕ) → from + n ≤ length xs → take (from + n - from) (drop from xs) ≡ part xs from n
  unfolding part
  part-some xs from n h = rw (le-ltb (length xs) (from + n) h, add-sub_cancel_left from n)
