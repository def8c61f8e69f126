-- A number below 3 L is its pair of residues by 3 and by L, for every L that is no multiple of 3.
use Rattle.std.specs.Prelude.{◌≡◌, ◌≢◌, ℕ, zero, suc, ◌+◌, ◌*◌, ◌-◌, ◌<◌, ◌%◌, ◌/◌}
use Rattle.std.proofs.Math.Path.{refl, ap}
use Rattle.std.proofs.Common.{sym, ◌∙◌, add_comm, div-lt_iff_lt-mul, lit<}
use native.Mathlib.Omega.{arith}
use Rattle.std.proofs.Math.Nat.{mod-lt, add-mod, mod-mod_of_dvd, mul-add-mod_self_left, mod-eq_of_lt, div-add-mod, dvd-mul_left, dvd-mul_right}
use Rattle.std.proofs.lemmas.Bool.{eqb-false}
use Rattle.laws.specs.Words.{numer, joint}

-- document 01: origin row = (334·va + 168·ha) mod 501, and the same of the column
pub joint-167 : (s l : ℕ) → joint 167 s l ≡ (334 * s + 168 * l) % 501
unfolding joint numer
joint-167 s l = refl

-- ---- laws
-- what holds at 0, 1 and 2 holds below 3
pub below-3 : (P : ℕ → Type 0) → P 0 → P 1 → P 2 → (i : ℕ) → i < 3 → P i
below-3 P a b c zero h = a
below-3 P a b c (suc zero) h = b
below-3 P a b c (suc (suc zero)) h = c
below-3 P a b c (suc (suc (suc i))) h = absurd (no i h)
  where
    no : (i : ℕ) → suc (suc (suc i)) < 3 → ⊥
    no i h = omega arith

-- two numbers of one residue by 3 are not L apart, nor 2 L
small : (m l : ℕ) → m < 3 → l < 3 → l ≢ 0 → (m + l) % 3 ≡ m → ⊥
small m l h k n e = omega arith

away : (y d : ℕ) → d % 3 ≢ 0 → (y + d) % 3 ≡ y % 3 → ⊥
away y d n e = small (y % 3) (d % 3) (mod-lt y (lit< tt)) (mod-lt d (lit< tt)) n (sym (add-mod y d 3) ∙ e)

twice : (L : ℕ) → L % 3 ≢ 0 → (2 * L) % 3 ≢ 0
twice L n = below-3 (λ (l : ℕ). L % 3 ≡ l → (2 * L) % 3 ≢ 0) (λ z. absurd (n z)) (λ z w. eqb-false 2 0 refl (sym (thirds (2 * L) (2 * (L / 3)) 2 (lit< tt) (omega arith)) ∙ w)) (λ z w. eqb-false 1 0 refl (sym (thirds (2 * L) (2 * (L / 3) + 1) 1 (lit< tt) (omega arith)) ∙ w)) (L % 3) (mod-lt L (lit< tt)) refl
  where
    thirds : (x k r : ℕ) → r < 3 → x ≡ 3 * k + r → x % 3 ≡ r
    thirds x k r h e = omega arith

step-3 : (L x y : ℕ) → L % 3 ≢ 0 → x % 3 ≡ y % 3 → (x ≡ y + L → ⊥) × (x ≡ y + 2 * L → ⊥)
step-3 L x y n e = (λ h. away y L n (ap (λ (z : ℕ). z % 3) (sym h) ∙ e), λ h. away y (2 * L) (twice L n) (ap (λ (z : ℕ). z % 3) (sym h) ∙ e))

-- a sum's residue by 3 is that of the residues
sum-thirds : (l L t : ℕ) → (l + L * t) % 3 ≡ (l % 3 + L % 3 * t) % 3
sum-thirds l L t = ap (λ (x : ℕ). x % 3) (regroup (l / 3) (l % 3) (L / 3) (L % 3) (sym (div-add-mod l 3)) (sym (div-add-mod L 3))) ∙ mul-add-mod_self_left 3 (l / 3 + L / 3 * t) (l % 3 + L % 3 * t)
  where
    regroup : (a b q e : ℕ) → l ≡ 3 * a + b → L ≡ 3 * q + e → l + L * t ≡ 3 * (a + q * t) + (b + e * t)
    regroup a b q e x y = rw (x, y) (omega arith)

-- e is its own inverse by 3: e (s - b) steps of e lead from b to s
asked : (e b s : ℕ) → e < 3 → e ≢ 0 → b < 3 → s < 3 → (b + e * (e * (s + 3 - b) % 3)) % 3 ≡ s
asked e b s h n j k = below-3 (λ (e : ℕ). e ≢ 0 → at e b s) (λ z. absurd (z refl)) (λ z. all 1 (refl, refl, refl) (refl, refl, refl) (refl, refl, refl)) (λ z. all 2 (refl, refl, refl) (refl, refl, refl) (refl, refl, refl)) e h n
  where
    at : ℕ → ℕ → ℕ → Type 0
    at e b s = (b + e * (e * (s + 3 - b) % 3)) % 3 ≡ s

    row : ℕ → ℕ → Type 0
    row e b = at e b 0 × at e b 1 × at e b 2

    one : (e b : ℕ) → row e b → at e b s
    one e b r = below-3 (at e b) r.0 r.1 r.2 s k

    all : (e : ℕ) → row e 0 → row e 1 → row e 2 → at e b s
    all e x y z = below-3 (λ (b : ℕ). at e b s) (one e 0 x) (one e 1 y) (one e 2 z) b j

module _ (L : ℕ) (p : 0 < L) (n : L % 3 ≢ 0) where
  -- the same residue by L, and quotients i and j below 3
  apart : (r s h i j : ℕ) → i < 3 → j < 3 → r ≡ L * i + h → s ≡ L * j + h → r % 3 ≡ s % 3 → r ≡ s
  apart r s h i j x y a b e =
      let f = step-3 L r s n e in
      let g = step-3 L s r n (sym e) in
      below-3 (λ (i : ℕ). r ≡ L * i + h → s ≡ L * j + h → r ≡ s)
      (below-3 (λ (j : ℕ). r ≡ L * 0 + h → s ≡ L * j + h → r ≡ s) (λ a b. omega arith) (λ a b. absurd (g.0 (omega arith))) (λ a b. absurd (g.1 (omega arith))) j y)
      (below-3 (λ (j : ℕ). r ≡ L * 1 + h → s ≡ L * j + h → r ≡ s) (λ a b. absurd (f.0 (omega arith))) (λ a b. omega arith) (λ a b. absurd (g.0 (omega arith))) j y)
      (below-3 (λ (j : ℕ). r ≡ L * 2 + h → s ≡ L * j + h → r ≡ s) (λ a b. absurd (f.1 (omega arith))) (λ a b. absurd (f.0 (omega arith))) (λ a b. omega arith) j y)
      i x a b

  quot : (r : ℕ) → r < 3 * L → r / L < 3
  quot r h = (div-lt_iff_lt-mul p).1 h

  -- two numbers below 3 L with the same residues are the same
  pub same-residues : (r s : ℕ) → r < 3 * L → s < 3 * L → r % 3 ≡ s % 3 → r % L ≡ s % L → r ≡ s
  same-residues r s h k e f =
      apart r s (s % L) (r / L) (s / L) (quot r h) (quot s k) (sym (div-add-mod r L) ∙ ap (λ (x : ℕ). L * (r / L) + x) f) (sym (div-add-mod s L)) e

  -- its residue by L
  pub joint-long : (va ha : ℕ) → ha < L → joint L va ha % L ≡ ha
  unfolding joint numer
  joint-long va ha h = mod-mod_of_dvd L (numer L va ha) (dvd-mul_left L 3) ∙ ap (λ (x : ℕ). x % L) (regroup (L % 3) (3 - L % 3)) ∙ mul-add-mod_self_left L (L % 3 * va + (3 - L % 3) * ha) ha ∙ mod-eq_of_lt h
    where
      regroup : (l m : ℕ) → l * L * va + (m * L + 1) * ha ≡ L * (l * va + m * ha) + ha
      regroup l m = omega arith

  -- its residue by 3
  pub joint-short : (va ha : ℕ) → va < 3 → joint L va ha % 3 ≡ va
  unfolding joint numer
  joint-short va ha h = mod-mod_of_dvd 3 (numer L va ha) (dvd-mul_right 3 L) ∙ below-3 (λ (l : ℕ). L % 3 ≡ l → (l * L * va + ((3 - l) * L + 1) * ha) % 3 ≡ va) (λ e. absurd (n e)) one-over two-over (L % 3) (mod-lt L (lit< tt)) refl
    where
      three : (x k : ℕ) → x ≡ 3 * k + va → x % 3 ≡ va
      three x k e = omega arith

      at_1 : (q : ℕ) → L ≡ q * 3 + 1 → 1 * L * va + ((3 - 1) * L + 1) * ha ≡ 3 * (q * va + (2 * q + 1) * ha) + va
      at_1 q e = rw e (omega arith)

      at-2 : (q : ℕ) → L ≡ q * 3 + 2 → 2 * L * va + ((3 - 2) * L + 1) * ha ≡ 3 * ((2 * q + 1) * va + (q + 1) * ha) + va
      at-2 q e = rw e (omega arith)

      one-over : L % 3 ≡ 1 → (1 * L * va + ((3 - 1) * L + 1) * ha) % 3 ≡ va
      one-over e = three _ _ (at_1 (L / 3) (omega arith))

      two-over : L % 3 ≡ 2 → (2 * L * va + ((3 - 2) * L + 1) * ha) % 3 ≡ va
      two-over e = three _ _ (at-2 (L / 3) (omega arith))

  -- it is below 3 L
  pub joint-below : (va ha : ℕ) → joint L va ha < 3 * L
  unfolding joint
  joint-below va ha = mod-lt (numer L va ha) (triple p)
    where
      triple : 0 < L → 0 < 3 * L
      triple h = omega arith

  -- a number below 3 L is the one with its own residues
  pub joint-back : (r : ℕ) → r < 3 * L → joint L (r % 3) (r % L) ≡ r
  joint-back r h =
      same-residues (joint L (r % 3) (r % L)) r (joint-below (r % 3) (r % L)) h (joint-short (r % 3) (r % L) (mod-lt r (lit< tt))) (joint-long (r % 3) (r % L) (mod-lt r p))

  -- the same in steps: l, and as many times L more as its residue by 3 asks for
  pub joint-steps : (s l : ℕ) → s < 3 → l < L → l + L * (L % 3 * (s + 3 - l % 3) % 3) ≡ joint L s l
  joint-steps s l h k =
      same-residues (l + L * steps) (joint L s l) under (joint-below s l) (by-3 ∙ sym (joint-short s l h)) (by-long ∙ sym (joint-long s l k))
    where
      steps : ℕ
      steps = L % 3 * (s + 3 - l % 3) % 3

      few : steps < 3
      few = mod-lt (L % 3 * (s + 3 - l % 3)) (lit< tt)

      under : l + L * steps < 3 * L
      under = below-3 (λ (t : ℕ). l + L * t < 3 * L) (omega arith) (omega arith) (omega arith) steps few

      by-long : (l + L * steps) % L ≡ l
      by-long = ap (λ (x : ℕ). x % L) (add_comm l (L * steps)) ∙ mul-add-mod_self_left L steps l ∙ mod-eq_of_lt k

      by-3 : (l + L * steps) % 3 ≡ s
      by-3 = sum-thirds l L steps ∙ asked (L % 3) (l % 3) s (mod-lt L (lit< tt)) n (mod-lt l (lit< tt)) h
