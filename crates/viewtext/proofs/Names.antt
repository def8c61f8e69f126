-- A name at a place, byte by byte, is the part of the text from there on.
use Rattle.std.proofs.Common.{◌≡◌, ◌≢◌, ℕ, zero, suc, ◌+◌, ◌-◌, ◌<◌, ◌≤◌, Bool, true, false, ◌⊎◌, inl, inr, List, length, refl, sym, ap, ◌∙◌, arith, true≢false, slice_index, ◌==◌, nat_le, eqb-true, leb-true, leb-false, eq-eqb}
use Rattle.std.specs.List.{slice_range}
use Rattle.std.specs.Bool.{Decides}
use Rattle.std.proofs.lemmas.Grind.{same_number_lists, common_steps}
use Rattle.std.proofs.lemmas.Bool.{eqb-false}
use Rattle.viewtext.specs.Text.{stands, stands-not, named, named-same, named_other, named_back, named_past}

module _ (s : List ℕ) (from : ℕ) (name : List ℕ) where
  -- bytes that are the name's are found to be
  pub stands-all : (n : ℕ) → ((i : ℕ) → i < n → slice_index s (from + i) ≡ slice_index name i) → stands s from name n ≡ true
  unfolding stands
  stands-all zero h = refl
  stands-all (suc n) h = rw (eq-eqb (slice_index s (from + n)) (slice_index name n) (h n (omega arith))) (stands-all n (λ i l. h i (omega arith)))

  -- a byte of a name that is found is the name's
  stands-byte : (n i : ℕ) → i < n → stands s from name n ≡ true → slice_index s (from + i) ≡ slice_index name i
  stands-byte n i l e = at (slice_index s (from + i) == slice_index name i) refl
    where
      at : (b : Bool) → (slice_index s (from + i) == slice_index name i) ≡ b → slice_index s (from + i) ≡ slice_index name i
      at true q = eqb-true _ _ q
      at false q = absurd (true≢false (sym e ∙ stands-not s from name n i l (eqb-false _ _ q)))

  -- the bytes of a part of the text
  part-byte : (to i : ℕ) → from ≤ to → to ≤ length s → i < to - from → slice_index (slice_range s from to) i ≡ slice_index s (from + i)
  part-byte to i a b l = grind (arith, common_steps)

  part-length : (to : ℕ) → from ≤ to → to ≤ length s → length (slice_range s from to) ≡ to - from
  part-length to a b = grind (arith, common_steps)

  module _ (to : ℕ) (a : from ≤ to) (b : to ≤ length s) where
    same : slice_range s from to ≡ name → true ≡ named s from to name
    same p =
        let n : to - from ≡ length name = sym (part-length to a b) ∙ ap length p in
        sym (stands-all (length name) (λ i l. sym (part-byte to i a b (omega arith)) ∙ ap (λ (xs : List ℕ). slice_index xs i) p)) ∙ named-same s from name to a b n

    other : (slice_range s from to ≢ name) → false ≡ named s from to name
    other h = at (to - from == length name) refl
      where
        at : (t : Bool) → (to - from == length name) ≡ t → false ≡ named s from to name
        at false q = named_other s from name to a b (eqb-false _ _ q)
        at true q = found (stands s from name (length name)) refl
          where
            found : (t : Bool) → stands s from name (length name) ≡ t → false ≡ named s from to name
            found false e = sym e ∙ named-same s from name to a b (eqb-true _ _ q)
            found true e = absurd (h (same_number_lists (slice_range s from to) name (part-length to a b ∙ eqb-true _ _ q)
                (λ k l. part-byte to k a b (omega (arith, part-length to a b)) ∙ stands-byte (length name) k (omega (arith, part-length to a b, eqb-true _ _ q)) e)))

    -- a part that is compared with a name whole
    pub named-part : (part : List ℕ) (r : Bool) → part ≡ slice_range s from to → Decides r (part ≡ name) → r ≡ named s from to name
    named-part part true p d = same (sym p ∙ d.0 refl)
    named-part part false p d = other (λ e. true≢false (sym (d.1 (p ∙ e))))

  -- there is no such part
  pub named-none : (to : ℕ) → (to < from) ⊎ (length s < to) → false ≡ named s from to name
  named-none to (inl l) = named_back s from name to l
  named-none to (inr l) = at (nat_le from to) refl
    where
      at : (b : Bool) → nat_le from to ≡ b → false ≡ named s from to name
      at true k = named_past s from name to (leb-true from to k) l
      at false k = named_back s from name to (leb-false from to k)
