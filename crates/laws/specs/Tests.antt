-- What a test that came out true or false says, and what may be concluded from it.
use Rattle.std.specs.Prelude.{◌≡◌, refl, Bool, true, false, not, ◌&&◌, ◌||◌, cond, ◌⊎◌, ℕ, suc, ◌≤◌, ◌<◌, T, ltb}
use Rattle.std.proofs.Common.{sym, ◌∙◌, true≢false, inl, inr, ⊎_elim, eq-or-lt_of_le, arith, ltb-true, ltb-false}

-- what holds of x where c is true and of y where it is false holds of the one that c picks
pub by-test {ℓ} : (X : Type 0) (P : X → Type ℓ) (c : Bool) (x y : X) → (T c → P x) → (T (not c) → P y) → P (cond c x y)
by-test X P true x y f g = f tt
by-test X P false x y f g = g tt

-- nothing is both true and false
pub clash {ℓ} : {x : Bool} {A : Type ℓ} → x ≡ true → x ≡ false → A
clash p q = absurd (true≢false (sym p ∙ q))

pub cases : (t : Bool) → (t ≡ true) ⊎ (t ≡ false)
cases true = inl refl
cases false = inr refl

-- a test that is not true is false
pub not_so : (t : Bool) → (t ≡ true → ⊥) → t ≡ false
not_so true h = absurd (h refl)
not_so false h = refl

-- ---- and, or
pub or-true : (p q : Bool) → (p || q) ≡ true → (p ≡ true) ⊎ (q ≡ true)
or-true true q e = inl refl
or-true false q e = inr e

pub or-false : (p q : Bool) → (p || q) ≡ false → (p ≡ false) × (q ≡ false)
or-false true q e = clash refl e
or-false false q e = (refl, e)

pub and-true : (p q : Bool) → (p && q) ≡ true → (p ≡ true) × (q ≡ true)
and-true true q e = (refl, e)
and-true false q e = clash e refl

pub and-false : (p q : Bool) → (p && q) ≡ false → p ≡ true → q ≡ false
and-false true q e h = e
and-false false q e h = clash h refl

pub and_comm : (a b : Bool) → (a && b) ≡ (b && a)
and_comm true true = refl
and_comm true false = refl
and_comm false true = refl
and_comm false false = refl

pub and_assoc : (a b c : Bool) → (a && (b && c)) ≡ ((a && b) && c)
and_assoc true b c = refl
and_assoc false b c = refl

-- the second test matters only where the first holds
pub and-ext : (a : Bool) {p q : Bool} → (a ≡ true → p ≡ q) → (a && p) ≡ (a && q)
and-ext true h = h refl
and-ext false h = refl

-- ---- numbers compared
pub compared : (i j : ℕ) → (i < j) ⊎ (j ≤ i)
compared i j = go (ltb i j) refl
  where
    go : (t : Bool) → ltb i j ≡ t → (i < j) ⊎ (j ≤ i)
    go true e = inl (ltb-true i j e)
    go false e = inr (ltb-false i j e)

pub apart : (i j : ℕ) → (i ≡ j) ⊎ ((i < j) ⊎ (j < i))
apart i j = ⊎_elim (λ l. inr (inl l)) (λ l. ⊎_elim (λ m. inr (inr m)) (λ m. inl (omega arith)) (compared j i)) (compared i j)

pub decided : (i j : ℕ) → (i ≡ j) ⊎ (i ≡ j → ⊥)
decided i j = ⊎_elim inl (λ h. inr (λ e. ⊎_elim (λ l. omega arith) (λ l. omega arith) h)) (apart i j)

-- below n + 1 is n or below n
pub split : (j n : ℕ) → j < suc n → (j ≡ n) ⊎ (j < n)
split j n h = eq-or-lt_of_le (omega arith)
