-- A pattern table that is being made.
use Rattle.std.specs.Prelude.{◌≡◌, ℕ, ◌+◌, ◌<◌, ◌⊎◌, List, length, slice_index, slice_set}
use Rattle.std.proofs.Common.{◌∙◌, inl, inr, arith, eq-or-lt_of_le, length-set, get_or-set_same, get_or-set_other}

-- m entries, the first n of them three-bit patterns
pub record Made (ps : List ℕ) (m n : ℕ) : Type 0 where
  pub size : length ps ≡ m
  pub small : (i : ℕ) → i < n → slice_index ps i < 8

module _ (ps : List ℕ) (k n x : ℕ) (m : Made ps k n) (h : n < k) (s : x < 8) where
  -- the entry at i after pattern x was put at n
  at : (i : ℕ) → (i ≡ n) ⊎ (i < n) → slice_index (slice_set ps n x) i < 8
  at i (inl e) = rw (e, get_or-set_same ps n x 0 (omega (arith, m.size))) s
  at i (inr l) = rw (get_or-set_other ps n i x 0 (λ e. omega arith)) (m.small i l)

  -- one pattern more
  pub made_more : Made (slice_set ps n x) k (n + 1)
  made_more = record { size = length-set ps n x ∙ m.size; small = λ i l. at i (eq-or-lt_of_le (omega arith)) }
