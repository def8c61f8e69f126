-- What stands on a page after a number was put on it.
use Rattle.std.specs.Prelude.{◌≡◌, ℕ, ◌-◌, ◌<◌, ◌^◌, List, [], false, length, Some}
use Rattle.std.specs.Fmt.{decimal, digits, padded_integral, format_spec}
use Rattle.std.proofs.Common.{subst, ap, ◌∙◌, arith, ⊎_elim}
use Rattle.io.specs.Digits.{last_digits, IsDigitCount}
use Rattle.slices.specs.Page.{put_behind, IsWritten}
use Rattle.console.specs.Shown.{shown-decimal, shown-word}

-- the page q is the page p with the number n behind it, in base b, in the fewest digits that hold it and no fewer than `least`, as many of them as find room
pub record PutNumber (b least n : ℕ) (p q : List ℕ) : Type 0 where
  pub places : ℕ
  pub fewest : IsDigitCount b least n places
  pub stands : q ≡ put_behind p (last_digits b places n)

-- a text that is the number's digits was put
pub put-number : (b least n k : ℕ) (p t q : List ℕ) → IsDigitCount b least n k → t ≡ last_digits b k n → q ≡ put_behind p t → PutNumber b least n p q
put-number b least n k p t q f e y = record { places = k; fewest = f; stands = subst (λ (u : List ℕ). q ≡ put_behind p u) e y }

-- a page that a whole number was written on by `write!`, and that is not full, holds the number's digits behind what stood on it
pub written-number : (n : ℕ) (p q : List ℕ) → n < 2 ^ 64 → IsWritten p (Some (decimal n)) q → length q < 32768 → PutNumber 10 1 n p q
written-number n p q small written whole = let s = shown-decimal n small in record {
  places = s.places;
  fewest = s.fewest;
  stands = ⊎_elim (λ e. e ∙ ap (put_behind p) s.spells) (λ full. absurd (omega (arith, full, whole))) written;
}

-- the same of a word written by `{:08x}`: eight hexadecimal digits
pub written-word : (n : ℕ) (p q : List ℕ) → n < 2 ^ 32 → IsWritten p (Some (padded_integral (format_spec 32 0 4 8 (2 ^ 64 - 1)) false [] (digits 16 false n))) q → length q < 32768 → PutNumber 16 8 n p q
written-word n p q small written whole = record {
  places = 8;
  fewest = (omega arith, omega (arith, small), λ l. absurd (omega (arith, l)));
  stands = ⊎_elim (λ e. e ∙ ap (put_behind p) (shown-word n small)) (λ full. absurd (omega (arith, full, whole))) written;
}
