-- What `write!` shows of a whole number are its digits, as `PutNumber` has them: std's definition of the text, and this repository's.
use Rattle.std.specs.Prelude.{◌≡◌, ℕ, zero, suc, ◌/◌, ◌%◌, ◌^◌, ◌+◌, ◌-◌, ◌≤◌, ◌<◌, List, [], ◌∷◌, ◌++◌, ◌==◌, length, replicate, cond, true, false, refl}
use Rattle.std.specs.Fmt.{digit_glyph, digits_onto, digits, decimal, padded_integral, format_spec, char_count}
use Rattle.std.proofs.Common.{inl, inr, ⊎_elim, sym, ap, ◌∙◌, subst, arith, append_assoc, append-nil, length-append, eqb-true, true≢false}
use Rattle.std.proofs.lemmas.Bool.{cases_Bool, cases_lt}
use Rattle.std.proofs.Math.Nat.{div-lt_iff_lt-mul, le-div_iff_mul-le, pow-suc, pow-zero, pow-le-pow_right, zero-div, zero-mod}
use Rattle.std.proofs.lemmas.List.{replicate-append-replicate}
use Rattle.io.specs.Digits.{hex_digit_ascii, last_digits, IsDigitCount}

-- the text is the number n in base b, in the fewest digits that hold it and no fewer than `least`
pub record Spelled (b least n : ℕ) (text : List ℕ) : Type 0 where
  pub places : ℕ
  pub fewest : IsDigitCount b least n places
  pub spells : text ≡ last_digits b places n

-- the text is the number's digits before another text
record Onto (b n : ℕ) (acc text : List ℕ) : Type 0 where
  places : ℕ
  fewest : IsDigitCount b 1 n places
  spells : text ≡ last_digits b places n ++ acc

-- what is not 0 is more
is-some : (m : ℕ) → (m == 0) ≡ false → 0 < m
is-some zero e = absurd (true≢false e)
is-some (suc m) e = omega arith

module _ (b : ℕ) (two : 2 ≤ b) where
  some : 0 < b
  some = omega arith

  -- one place more: what holds of the number without its last digit
  under : (n k : ℕ) → n < b ^ suc k → n / b < b ^ k
  under n k h = (div-lt_iff_lt-mul some).1 (subst (λ (m : ℕ). n < m) (pow-suc b k) h)

  over : (n k : ℕ) → n / b < b ^ k → n < b ^ suc k
  over n k h = subst (λ (m : ℕ). n < m) (sym (pow-suc b k)) ((div-lt_iff_lt-mul some).0 h)

  least : (n k : ℕ) → b ^ k ≤ n / b → b ^ suc k ≤ n
  least n k h = subst (λ (m : ℕ). m ≤ n) (sym (pow-suc b k)) ((le-div_iff_mul-le some).0 h)

  one-more : (n j : ℕ) → 0 < n / b → IsDigitCount b 1 (n / b) j → IsDigitCount b 1 n (suc j)
  one-more n zero p c = absurd (omega (arith, c.0))
  one-more n (suc zero) p c = (omega arith, over n 1 c.1, λ h. subst (λ (m : ℕ). b ^ m ≤ n) (omega arith) (least n 0 (omega (arith, p, pow-zero b))))
  one-more n (suc (suc j)) p c = (omega arith, over n (suc (suc j)) c.1, λ h. subst (λ (m : ℕ). b ^ m ≤ n) (omega arith) (least n (suc j) (subst (λ (m : ℕ). b ^ m ≤ n / b) (omega arith) (c.2 (omega arith)))))

  -- one digit is left
  last : (k n : ℕ) (acc : List ℕ) → (n / b == 0) ≡ true → Onto b n acc (digits_onto (suc k) b false n acc)
  last k n acc none = record {
    places = 1;
    fewest = (omega arith, over n 0 (omega (arith, eqb-true (n / b) 0 none, pow-zero b)), λ l. absurd (omega (arith, l)));
    spells = ap (λ t. cond t (digit_glyph false (n % b) ∷ acc) (digits_onto k b false (n / b) (digit_glyph false (n % b) ∷ acc))) none;
  }

  -- the last of several digits stands before the text, and those of the number without it before both
  further : (k n : ℕ) (acc : List ℕ) → (n / b == 0) ≡ false → Onto b (n / b) (hex_digit_ascii (n % b) ∷ acc) (digits_onto k b false (n / b) (hex_digit_ascii (n % b) ∷ acc)) → Onto b n acc (digits_onto (suc k) b false n acc)
  further k n acc more r = record {
    places = suc r.places;
    fewest = one-more n r.places (is-some (n / b) more) r.fewest;
    spells = ap (λ t. cond t (digit_glyph false (n % b) ∷ acc) (digits_onto k b false (n / b) (digit_glyph false (n % b) ∷ acc))) more ∙ r.spells ∙ sym (append_assoc (last_digits b r.places (n / b)) (hex_digit_ascii (n % b) ∷ []) acc);
  }

  -- std's digits before a text, for as many places as the number may have
  onto : (k n : ℕ) (acc : List ℕ) → n < b ^ suc k → Onto b n acc (digits_onto (suc k) b false n acc)
  onto zero n acc h = elim (cases_Bool (n / b == 0)) [
    | inl none ↦ last 0 n acc none
    | inr more ↦ absurd (omega (arith, under n 0 h, pow-zero b, is-some (n / b) more))
  ]
  onto (suc k) n acc h = elim (cases_Bool (n / b == 0)) [
    | inl none ↦ last (suc k) n acc none
    | inr more ↦ further (suc k) n acc more (onto k (n / b) (hex_digit_ascii (n % b) ∷ acc) (under n (suc k) h))
  ]

  -- 0 in some places, and as many digits as are asked for
  noughts : (k : ℕ) → last_digits b k 0 ≡ replicate k 48
  noughts zero = refl
  noughts (suc k) =
      ap (λ (m : ℕ). last_digits b k m ++ (hex_digit_ascii (0 % b) ∷ [])) (zero-div b)
      ∙ ap (λ (m : ℕ). last_digits b k 0 ++ (hex_digit_ascii m ∷ [])) (zero-mod b)
      ∙ ap (λ (l : List ℕ). l ++ (48 ∷ [])) (noughts k)
      ∙ replicate-append-replicate k 1 48
      ∙ ap (λ (m : ℕ). replicate m 48) {x = k + 1} {y = suc k} (omega arith)

  as-many : (j n : ℕ) → length (last_digits b j n) ≡ j
  as-many zero n = refl
  as-many (suc j) n = length-append (last_digits b j (n / b)) (hex_digit_ascii (n % b) ∷ []) ∙ omega (arith, as-many j (n / b))

  -- more places than the number needs begin with noughts
  led : (j k n : ℕ) → n < b ^ j → last_digits b (k + j) n ≡ replicate k 48 ++ last_digits b j n
  led zero k n h =
      ap (λ (m : ℕ). last_digits b m n) {x = k + 0} {y = k} (omega arith)
      ∙ ap (last_digits b k) {x = n} {y = 0} (omega (arith, h, pow-zero b))
      ∙ noughts k ∙ sym (append-nil (replicate k 48))
  led (suc j) k n h =
      ap (λ (m : ℕ). last_digits b m n) {x = k + suc j} {y = suc (k + j)} (omega arith)
      ∙ ap (λ (l : List ℕ). l ++ (hex_digit_ascii (n % b) ∷ [])) (led j k (n / b) (under n j h))
      ∙ append_assoc (replicate k 48) (last_digits b j (n / b)) (hex_digit_ascii (n % b) ∷ [])

-- what `{}` shows of a whole number of 64 bits
pub shown-decimal : (n : ℕ) → n < 2 ^ 64 → Spelled 10 1 n (decimal n)
unfolding digits
shown-decimal n h = let r = onto 10 (omega arith) 63 n [] (omega (arith, h)) in record { places = r.places; fewest = r.fewest; spells = r.spells ∙ append-nil _ }

-- what `{:x}` shows of it
pub shown-hex : (n : ℕ) → n < 2 ^ 64 → Spelled 16 1 n (digits 16 false n)
unfolding digits
shown-hex n h = let r = onto 16 (omega arith) 63 n [] (omega (arith, h)) in record { places = r.places; fewest = r.fewest; spells = r.spells ∙ append-nil _ }

-- what is below 16^8 has at most eight digits
at-most-eight : (n j : ℕ) → n < 16 ^ 8 → IsDigitCount 16 1 n j → j ≤ 8
at-most-eight n j h c = ⊎_elim
    (λ more. absurd (omega (arith, h, c.2 (omega (arith, more)), pow-le-pow_right {n = 16} (omega arith) {i = 8} {j = j - 1} (omega (arith, more)))))
    (λ few. few)
    (cases_lt 8 j)

-- noughts before a text, to eight places
eight-wide : (text : List ℕ) → padded_integral (format_spec 32 0 4 8 (2 ^ 64 - 1)) false [] text ≡ replicate (8 - length text) 48 ++ text
unfolding padded_integral char_count
eight-wide text =
    ap (λ (m : ℕ). replicate m 48 ++ (text ++ [])) {x = 8 - length text - 0 - 0} {y = 8 - length text} (omega arith)
    ∙ ap (λ (l : List ℕ). replicate (8 - length text) 48 ++ l) (append-nil text)

-- what `{:08x}` shows of a whole number of 32 bits
pub shown-word : (n : ℕ) → n < 2 ^ 32 → padded_integral (format_spec 32 0 4 8 (2 ^ 64 - 1)) false [] (digits 16 false n) ≡ last_digits 16 8 n
shown-word n h =
    let two : 2 ≤ 16 = omega arith in
    let s = shown-hex n (omega (arith, h)) in
    let few : s.places ≤ 8 = at-most-eight n s.places (omega (arith, h)) s.fewest in
    let size : length (digits 16 false n) ≡ s.places = ap length s.spells ∙ as-many 16 two s.places n in
    let wide : 8 - s.places + s.places ≡ 8 = omega (arith, few) in
    eight-wide (digits 16 false n)
    ∙ ap (λ (m : ℕ). replicate (8 - m) 48 ++ digits 16 false n) size
    ∙ ap (λ (l : List ℕ). replicate (8 - s.places) 48 ++ l) s.spells
    ∙ sym (led 16 two s.places (8 - s.places) n s.fewest.1)
    ∙ ap (λ (m : ℕ). last_digits 16 m n) wide
