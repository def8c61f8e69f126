-- The row-major first origin, with one cell more; it is at most each key of a pair that passes, and is one of them where there is one.
use Rattle.std.specs.Prelude.{◌≡◌, Bool, ◌⊎◌, ltb}
use Rattle.std.proofs.Math.Path.{refl}
use Rattle.std.proofs.Common.{sym, ap, ap₂, ◌∙◌, add-one, ltb-true, ltb-false, le-ltb}
use Rattle.std.proofs.Math.Bool.{true, false, cond}
use Rattle.std.proofs.Math.Logic.{inl, inr, ⊎_elim}
use Prim.Native.Nat.{ℕ, zero, suc, ◌+◌, ◌≤◌, ◌<◌}
use native.Mathlib.Omega.{arith}
use Rattle.laws.specs.Tests.{clash, split}
use Rattle.laws.specs.Words.{count, Grid}
use Rattle.laws.specs.Counting.{count-one}
use Rattle.grid.specs.RowMajor.{lower, lowest, row_major}

-- ---- one cell more
pub lowest-no : (p : ℕ → Bool) (f : ℕ → ℕ) (a i x : ℕ) → x ≡ lowest p f a i → p i ≡ false → x ≡ lowest p f a (i + 1)
unfolding lowest
lowest-no p f a i x e t = rw (add-one i, t) e

pub lowest-yes : (p : ℕ → Bool) (f : ℕ → ℕ) (a i x : ℕ) → x ≡ lowest p f a i → p i ≡ true → lower (f i) x ≡ lowest p f a (i + 1)
unfolding lowest
lowest-yes p f a i x e t = rw (add-one i, t, ← e)

-- where the cell's key is no lower, what was there stays
pub lowest-old : (p : ℕ → Bool) (f : ℕ → ℕ) (a i x : ℕ) → x ≡ lowest p f a i → p i ≡ true → x ≤ f i → x ≡ lowest p f a (i + 1)
lowest-old p f a i x e t l = sym (ap (λ (c : Bool). cond c (f i) x) (le-ltb (f i) x l)) ∙ lowest-yes p f a i x e t

pub major-no : (G : Grid) (w : ℕ) (p q : ℕ → Bool) (i x : ℕ) → x ≡ row_major G w p q i → p i ≡ false → x ≡ row_major G w p q (i + 1)
unfolding row_major
major-no G w p q i x e t = rw (add-one i, t) e

pub major-yes : (G : Grid) (w : ℕ) (p q : ℕ → Bool) (i x : ℕ) → x ≡ row_major G w p q i → p i ≡ true → lowest q (G.key i) x w ≡ row_major G w p q (i + 1)
unfolding row_major
major-yes G w p q i x e t = rw (add-one i, t, ← e)

-- ---- it is the least
lower-both : (k a : ℕ) → (lower k a ≤ k) × (lower k a ≤ a)
lower-both k a = go (ltb k a) refl
  where
    go : (t : Bool) → ltb k a ≡ t → (cond t k a ≤ k) × (cond t k a ≤ a)
    go true e = omega (arith, ltb-true k a e)
    go false e = omega (arith, ltb-false k a e)

lower-is : (k a : ℕ) → (lower k a ≡ k) ⊎ (lower k a ≡ a)
lower-is k a = go (ltb k a)
  where
    go : (t : Bool) → (cond t k a ≡ k) ⊎ (cond t k a ≡ a)
    go true = inl refl
    go false = inr refl

module _ (p : ℕ → Bool) (f : ℕ → ℕ) (a : ℕ) where
  lowest_start : (n : ℕ) → lowest p f a n ≤ a
  unfolding lowest
  lowest_start zero = omega arith
  lowest_start (suc n) = go (p n) (lowest_start n)
    where
      go : (t : Bool) → lowest p f a n ≤ a → cond t (lower (f n) (lowest p f a n)) (lowest p f a n) ≤ a
      go true h = omega (arith, (lower-both (f n) (lowest p f a n)).1)
      go false h = h

  lowest-le : (n i : ℕ) → i < n → p i ≡ true → lowest p f a n ≤ f i
  unfolding lowest
  lowest-le zero i h e = absurd (omega arith)
  lowest-le (suc n) i h e = go (p n) refl (λ l. lowest-le n i l e) (split i n h)
    where
      go : (t : Bool) → p n ≡ t → (i < n → lowest p f a n ≤ f i) → (i ≡ n) ⊎ (i < n) → cond t (lower (f n) (lowest p f a n)) (lowest p f a n) ≤ f i
      go true q ih (inl r) = rw r (lower-both (f n) (lowest p f a n)).0
      go true q ih (inr l) = omega (arith, ih l, (lower-both (f n) (lowest p f a n)).1)
      go false q ih (inl r) = clash (sym (ap p r) ∙ e) q
      go false q ih (inr l) = ih l

  lowest-is : (n : ℕ) → (lowest p f a n ≡ a) ⊎ ((i : ℕ) × (i < n) × (p i ≡ true) × (lowest p f a n ≡ f i))
  unfolding lowest
  lowest-is zero = inl refl
  lowest-is (suc n) = go (p n) refl (lowest-is n)
    where
      go : (t : Bool) → p n ≡ t → (lowest p f a n ≡ a) ⊎ ((i : ℕ) × (i < n) × (p i ≡ true) × (lowest p f a n ≡ f i))
          → (cond t (lower (f n) (lowest p f a n)) (lowest p f a n) ≡ a) ⊎ ((i : ℕ) × (i < suc n) × (p i ≡ true) × (cond t (lower (f n) (lowest p f a n)) (lowest p f a n) ≡ f i))
      go true q (inl r) = ⊎_elim (λ z. inr (n, omega arith, q, z)) (λ z. inl (z ∙ r)) (lower-is (f n) (lowest p f a n))
      go true q (inr w) = ⊎_elim (λ z. inr (n, omega arith, q, z)) (λ z. inr (w.0, omega (arith, w.1), w.2, z ∙ w.3)) (lower-is (f n) (lowest p f a n))
      go false q (inl r) = inl r
      go false q (inr w) = inr (w.0, omega (arith, w.1), w.2, w.3)

module _ (G : Grid) (w : ℕ) (p q : ℕ → Bool) where
  pub major-none : (n : ℕ) → row_major G w p q n ≤ G.none
  unfolding row_major
  major-none zero = omega arith
  major-none (suc n) = go (p n) (major-none n)
    where
      go : (x : Bool) → row_major G w p q n ≤ G.none → cond x (lowest q (G.key n) (row_major G w p q n) w) (row_major G w p q n) ≤ G.none
      go true h = omega (arith, lowest_start q (G.key n) (row_major G w p q n) w)
      go false h = h

  pub major-le : (n h v : ℕ) → h < n → v < w → p h ≡ true → q v ≡ true → row_major G w p q n ≤ G.key h v
  unfolding row_major
  major-le zero h v l m s t = absurd (omega arith)
  major-le (suc n) h v l m s t = go (p n) refl (λ z. major-le n h v z m s t) (split h n l)
    where
      go : (x : Bool) → p n ≡ x → (h < n → row_major G w p q n ≤ G.key h v) → (h ≡ n) ⊎ (h < n)
          → cond x (lowest q (G.key n) (row_major G w p q n) w) (row_major G w p q n) ≤ G.key h v
      go true e ih (inl r) = rw r (lowest-le q (G.key n) (row_major G w p q n) w v m t)
      go true e ih (inr z) = omega (arith, ih z, lowest_start q (G.key n) (row_major G w p q n) w)
      go false e ih (inl r) = clash (sym (ap p r) ∙ s) e
      go false e ih (inr z) = ih z

  pub major-is : (n : ℕ) → (row_major G w p q n ≡ G.none) ⊎ ((h : ℕ) × (v : ℕ) × (h < n) × (v < w) × (p h ≡ true) × (q v ≡ true) × (row_major G w p q n ≡ G.key h v))
  unfolding row_major
  major-is zero = inl refl
  major-is (suc n) = go (p n) refl (major-is n)
    where
      Pair : ℕ → ℕ → Type 0
      Pair m r = (h : ℕ) × (v : ℕ) × (h < m) × (v < w) × (p h ≡ true) × (q v ≡ true) × (r ≡ G.key h v)

      go : (x : Bool) → p n ≡ x → (row_major G w p q n ≡ G.none) ⊎ Pair n (row_major G w p q n)
          → (cond x (lowest q (G.key n) (row_major G w p q n) w) (row_major G w p q n) ≡ G.none) ⊎ Pair (suc n) (cond x (lowest q (G.key n) (row_major G w p q n) w) (row_major G w p q n))
      go true e (inl r) = ⊎_elim (λ z. inl (z ∙ r)) (λ z. inr (n, z.0, omega arith, z.1, e, z.2, z.3)) (lowest-is q (G.key n) (row_major G w p q n) w)
      go true e (inr u) = ⊎_elim (λ z. inr (u.0, u.1, omega (arith, u.2), u.3, u.4, u.5, z ∙ u.6)) (λ z. inr (n, z.0, omega arith, z.1, e, z.2, z.3)) (lowest-is q (G.key n) (row_major G w p q n) w)
      go false e (inl r) = inl r
      go false e (inr u) = inr (u.0, u.1, omega (arith, u.2), u.3, u.4, u.5, u.6)

  -- where one cell of each kind passes, it is the key of the two
  pub major-only : (n h v : ℕ) → h < n → v < w → p h ≡ true → q v ≡ true → count n p ≡ 1 → count w q ≡ 1 → G.key h v < G.none → row_major G w p q n ≡ G.key h v
  major-only n h v l m s t one sole under = ⊎_elim
      (λ z. absurd (omega (arith, z, under, major-le n h v l m s t)))
      (λ u. u.6 ∙ ap₂ G.key (count-one p n u.0 h one u.2 l u.4 s) (count-one q w u.1 v sole u.3 m u.5 t))
      (major-is n)
