-- A list that is written from the front, one place a turn: below i it holds Q, from i on what it held.
use Rattle.std.specs.Prelude.{◌≡◌, refl, ◌⊎◌, List, ℕ, ◌+◌, ◌≤◌, ◌<◌, length, get_or, set}
use Rattle.std.proofs.Common.{sym, ◌∙◌, inl, inr, eq-or-lt_of_le, arith, length-set, get_or-set_same, get_or-set_other, ext_get_or}
use Rattle.std.proofs.Math.Decide.{dec_lt}

module _ {A : Type 0} (d : A) (Q : ℕ → A) where
  -- a new list of the same length, changed in its first i places only
  pub record Written (old new : List A) (i : ℕ) : Type 0 where
    pub len : length new ≡ length old
    pub front : (k : ℕ) → k < i → get_or new k d ≡ Q k
    pub back : (k : ℕ) → i ≤ k → get_or new k d ≡ get_or old k d

  none : (k : ℕ) → k < 0 → ⊥
  none k h = omega arith

  pub written_none : (old : List A) → Written old old 0
  written_none old = record { len = refl; front = λ k h. absurd (none k h); back = λ k h. refl }

  past : (k i : ℕ) → i + 1 ≤ k → k ≡ i → ⊥
  past k i h e = omega arith

  before : (k i : ℕ) → k < i → k ≡ i → ⊥
  before k i h e = omega arith

  at-or-before : (k i : ℕ) → k < i + 1 → k ≤ i
  at-or-before k i h = omega arith

  pub written-more : (old new : List A) (i : ℕ) (v : A) → Written old new i → i < length old → v ≡ Q i → Written old (set new i v) (i + 1)
  written-more old new i v u h e =
      let h' : i < length new = omega (arith, u.len) in
      record {
        len = length-set new i v ∙ u.len;
        front = λ k l. go k v e h' (eq-or-lt_of_le (at-or-before k i l));
        back = λ k l. get_or-set_other new i k v d (past k i l) ∙ u.back k (omega arith);
      }
    where
      go : (k : ℕ) (v : A) → v ≡ Q i → i < length new → (k ≡ i) ⊎ (k < i) → get_or (set new i v) k d ≡ Q k
      go k v e h' (inl q) = rw q (get_or-set_same new i v d h' ∙ e)
      go k v e h' (inr q) = get_or-set_other new i k v d (before k i q) ∙ u.front k q

  -- two lists that both are so are the same
  pub written-unique : (old a b : List A) (n : ℕ) → Written old a n → Written old b n → a ≡ b
  written-unique old a b n u v = ext_get_or d a b (u.len ∙ sym v.len) (λ k h. elim (dec_lt k n) [ yes l ↦ u.front k l ∙ sym (v.front k l) | no l ↦ u.back k (flip k n l) ∙ sym (v.back k (flip k n l)) ])
    where
      flip : (k n : ℕ) → ¬ (k < n) → n ≤ k
      flip k n h = omega arith
