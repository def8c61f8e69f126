-- A search over the keys of N rows of W columns, a row at a time.
use Rattle.std.specs.Prelude.{◌≡◌, Bool, false, ℕ, ◌+◌, ◌*◌, ◌-◌, ◌/◌, ◌%◌, ◌≤◌, ◌<◌}
use Rattle.std.proofs.Common.{sym, ap, ap₂, ◌∙◌, ⊎_elim, mul-le-mul_right, arith}
use Rattle.std.proofs.Math.Arith.{digits_div, digits_mod}
use Rattle.laws.specs.Tests.{compared}
use Rattle.laws.specs.Words.{first}
use Rattle.laws.specs.First.{Searching, first-least, first_passes, first-before}

module _ (N W : ℕ) (p : ℕ → ℕ → Bool) where
  -- the test of a key
  abbrev test : ℕ → Bool
  test k = p (k / W) (k % W)

  -- a column of a row, as a key
  at : (r c : ℕ) → c < W → test (r * W + c) ≡ p r c
  at r c h = ap₂ p (digits_div r h) (digits_mod r h)

  -- a key of row r, of which no column before n passes
  in_row : (r n k : ℕ) → n ≤ W → ((c : ℕ) → c < n → p r c ≡ false) → r * W ≤ k → k < r * W + n → test k ≡ false
  in_row r n k h none lo hi =
      let c = k - r * W in
      let e : k ≡ r * W + c = omega arith in
      let l : c < n = omega arith in
      ap test e ∙ at r c (omega arith) ∙ none c l

  inside : (r : ℕ) → r < N → (r + 1) * W ≤ N * W
  inside r h = mul-le-mul_right W (omega arith)

  pub row-starts : Searching test (N * W) (0 * W)
  row-starts = record { inside = omega arith; none_yet = λ k h. absurd (omega arith) }

  -- a row without a column that passes
  pub row-over : (r : ℕ) → r < N → Searching test (N * W) (r * W) → W ≤ first (p r) W → Searching test (N * W) ((r + 1) * W)
  row-over r h s full = record {
    inside = inside r h;
    none_yet = λ k l. ⊎_elim (s.none_yet k) (λ m. in_row r W k (omega arith) (λ c d. first-before (p r) W c (omega (arith, full))) m (omega arith)) (compared k (r * W));
  }

  -- a row with one
  pub row-finds : (r c : ℕ) → r < N → Searching test (N * W) (r * W) → c ≡ first (p r) W → c < W → r * W + c ≡ first test (N * W)
  row-finds r c h s e l =
      sym (first-least test (N * W) (r * W + c) (omega (arith, inside r h))
      (λ k m. ⊎_elim (s.none_yet k) (λ d. in_row r c k (omega arith) (λ i b. first-before (p r) W i (omega (arith, e))) d m) (compared k (r * W)))
      (λ m. at r c l ∙ ap (p r) e ∙ first_passes (p r) W (omega (arith, e))))

  -- all rows without one
  pub row_ends : (r : ℕ) → N ≤ r → Searching test (N * W) (r * W) → r * W ≡ first test (N * W)
  row_ends r h s = let m = mul-le-mul_right W h in let e : r * W ≡ N * W = omega (arith, s.inside) in e ∙ sym (first-least test (N * W) (N * W) (omega arith) (λ k l. s.none_yet k (omega arith)) (λ l. absurd (omega arith)))
