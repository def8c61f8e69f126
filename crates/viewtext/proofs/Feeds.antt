-- The line feeds before a place, counted along the text.
use Rattle.std.proofs.Common.{◌≡◌, ℕ, zero, suc, ◌+◌, ◌≤◌, min, Bool, true, false, cond, List, length, take, refl, sym, ap, arith, ◌==◌, slice_index, add-one, add-zero, ◌∙◌}
use Rattle.std.specs.List.{count_by}
use Rattle.std.proofs.lemmas.List.Sums.{count_by_more_yes, count_by_more_no}
use Rattle.viewtext.specs.Text.{feeds, line_at}

pub feeds-count : (s : List ℕ) (n : ℕ) → n ≤ length s → feeds s n ≡ count_by (λ b. b == 10) (take n s)
unfolding feeds
feeds-count s zero h = refl
feeds-count s (suc n) h = rw (feeds-count s n (omega arith), ← add-one n) (at (slice_index s n == 10) refl)
  where
    at : (b : Bool) → (slice_index s n == 10) ≡ b → count_by (λ b. b == 10) (take n s) + cond b 1 0 ≡ count_by (λ b. b == 10) (take (n + 1) s)
    at true e = sym (count_by_more_yes (λ b. b == 10) s n 0 (omega arith) e)
    at false e = add-zero _ ∙ sym (count_by_more_no (λ b. b == 10) s n 0 (omega arith) e)

-- the number of the line is one more than the line feeds before it
pub line-count : (s : List ℕ) (place k n : ℕ) → k ≡ min place (length s) → n ≡ count_by (λ b. b == 10) (take k s) → min (1 + n) 1000000000 ≡ line_at s place
unfolding line_at
line-count s place k n p q = ap (λ (m : ℕ). min (1 + m) 1000000000) (q ∙ sym (feeds-count s k (omega (arith, p))) ∙ ap (feeds s) p)
