-- The bytes of a text file: what parts words, a name at a place, and the line of a place.
use Rattle.std.specs.Prelude.{◌≡◌, ℕ, zero, suc, ◌+◌, ◌-◌, ◌<◌, ◌≤◌, min, Bool, true, false, cond, ◌||◌, ◌⊎◌, List, length, ◌==◌, ◌≢◌, nat_le, slice_index, refl}
use Rattle.std.proofs.Common.{ap, ◌∙◌, inl, inr, eq-or-lt_of_le, add-one, arith}
use borrow.Author.Tests.{le-leb, lt-leb, eq-eqb, ne_eqb}

-- a space, a tab or a carriage return, which only parts words
abbrev pub blank : ℕ → Bool
blank b = b == 32 || b == 9 || b == 13

-- the first n bytes of a name stand in the text s from a place on
unfoldable pub stands : List ℕ → ℕ → List ℕ → ℕ → Bool
stands s from name zero = true
stands s from name (suc n) = cond (slice_index s (from + n) == slice_index name n) (stands s from name n) false

-- the text has the places from `from` to `to`, and their bytes are the name
unfoldable pub named : List ℕ → ℕ → ℕ → List ℕ → Bool
named s from to name = cond (nat_le from to) (cond (nat_le to (length s)) (cond (to - from == length name) (stands s from name (length name)) false) false) false

module _ (s : List ℕ) (from : ℕ) (name : List ℕ) where
  -- either way
  neither : (b : Bool) → cond b false false ≡ false
  neither true = refl
  neither false = refl

  -- one byte more
  pub stands-more : (n : ℕ) → stands s from name n ≡ true → slice_index s (from + n) ≡ slice_index name n → stands s from name (n + 1) ≡ true
  unfolding stands
  stands-more n h e = rw (add-one n, eq-eqb _ _ e) h

  -- one byte differs
  pub stands-not : (n i : ℕ) → i < n → (slice_index s (from + i) ≢ slice_index name i) → stands s from name n ≡ false
  unfolding stands
  stands-not zero i h e = absurd (omega arith)
  stands-not (suc n) i h e = at (λ l. stands-not n i l e) (eq-or-lt_of_le (omega arith))
    where
      at : (i < n → stands s from name n ≡ false) → (i ≡ n) ⊎ (i < n) → stands s from name (suc n) ≡ false
      at ih (inl q) = rw (ne_eqb (slice_index s (from + n)) (slice_index name n) (λ z. e (rw q z)))
      at ih (inr l) = rw (ih l) (neither (slice_index s (from + n) == slice_index name n))

  module _ (to : ℕ) where
    pub named_back : to < from → false ≡ named s from to name
    unfolding named
    named_back h = rw (lt-leb from to h)

    pub named_past : from ≤ to → length s < to → false ≡ named s from to name
    unfolding named
    named_past a h = rw (le-leb from to a, lt-leb to (length s) h)

    pub named_other : from ≤ to → to ≤ length s → (to - from ≢ length name) → false ≡ named s from to name
    unfolding named
    named_other a b h = rw (le-leb from to a, le-leb to (length s) b, ne_eqb (to - from) (length name) h)

    pub named-same : from ≤ to → to ≤ length s → to - from ≡ length name → stands s from name (length name) ≡ named s from to name
    unfolding named
    named-same a b h = rw (le-leb from to a, le-leb to (length s) b, eq-eqb (to - from) (length name) h)

-- how many of the first n bytes are line feeds
unfoldable pub feeds : List ℕ → ℕ → ℕ
feeds s zero = 0
feeds s (suc n) = feeds s n + cond (slice_index s n == 10) 1 0

-- the number of the line that a place stands in, counted from 1, up to 1,000,000,000
unfoldable pub line_at : List ℕ → ℕ → ℕ
line_at s place = min (1 + feeds s (min place (length s))) 1000000000

-- before the first byte
pub line_first : (s : List ℕ) → 1 ≡ min (1 + feeds s 0) 1000000000
unfolding feeds
line_first s = refl

-- one byte more
pub line-more : (s : List ℕ) (i line : ℕ) → line ≡ min (1 + feeds s i) 1000000000 → cond (slice_index s i == 10) (min (line + 1) 1000000000) line ≡ min (1 + feeds s (i + 1)) 1000000000
unfolding feeds
line-more s i line e = rw (add-one i) (at (slice_index s i == 10))
  where
    at : (b : Bool) → cond b (min (line + 1) 1000000000) line ≡ min (1 + (feeds s i + cond b 1 0)) 1000000000
    at true = omega (arith, e)
    at false = omega (arith, e)

-- after the bytes before the place
pub line-all : (s : List ℕ) (place n i line : ℕ) → line ≡ min (1 + feeds s i) 1000000000 → i ≡ n → n ≡ min place (length s) → line ≡ line_at s place
unfolding line_at
line-all s place n i line e p q = e ∙ ap (λ (k : ℕ). min (1 + feeds s k) 1000000000) (p ∙ q)

-- no line feed; a line feed; one after so many lines
pub after-other : (line b : ℕ) → (b ≢ 10) → line ≡ cond (b == 10) (min (line + 1) 1000000000) line
after-other line b h = rw (ne_eqb b 10 h)

pub after-feed : (line b : ℕ) → b ≡ 10 → line < 1000000000 → line + 1 ≡ cond (b == 10) (min (line + 1) 1000000000) line
after-feed line b h l = rw (eq-eqb b 10 h) (omega arith)

pub after_last : (line b : ℕ) → b ≡ 10 → 1000000000 ≤ line → 1000000000 ≡ cond (b == 10) (min (line + 1) 1000000000) line
after_last line b h l = rw (eq-eqb b 10 h) (omega arith)
