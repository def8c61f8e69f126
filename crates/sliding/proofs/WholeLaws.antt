-- Laws of whole numbers and remainders for sliding: products of sums, tests that do not change when both sides move, and a remainder in the place of its number.
use Rattle.std.specs.Prelude.{◌≡◌, refl, Bool, true, false, ℕ, ◌+◌, ◌*◌, ◌/◌, ◌%◌, ◌≤◌, ◌<◌, ℤ, pos, neg_ℤ, nat_abs, ◌+ℤ◌, ◌-ℤ◌, ◌*ℤ◌}
use Rattle.std.proofs.Common.{sym, ap, ap₂, subst, ◌∙◌, mul_assoc, mod-eq_of_lt, div-add-mod', arith}
use Rattle.std.proofs.Math.Nat.{add-mul-mod_self_right}
use Rattle.std.proofs.Math.IntN.{suc_ℤ, pred_ℤ, ℤ_ind, +ℤ_one, -ℤ_one, +ℤ_assoc, +ℤ_comm, +ℤ-neg_ℤ_cancel, zero-*ℤ, suc_ℤ-*ℤ, pred_ℤ-*ℤ, neg_ℤ-+ℤ}
use Rattle.std.specs.Int.Signed.{lt_z}
use Rattle.laws.specs.Tests.{clash}
use Rattle.laws.specs.Words.{eq_z, emod}
use Rattle.laws.specs.Whole.{abs-add, eq_z-true, eq-eq_z, ne-eq_z, raised, raised-add, lt-raised, le-raised, raised_lt, raised-le}
use Rattle.laws.specs.RemainderLaws.{emod-lt, emod-shift, lifted, emod-add, emod-class}

-- ---- sums
-- the last two change places
pub last-two : (a b c : ℤ) → a +ℤ b +ℤ c ≡ a +ℤ c +ℤ b
last-two a b c = +ℤ_assoc a b c ∙ ap (λ (x : ℤ). a +ℤ x) (+ℤ_comm b c) ∙ sym (+ℤ_assoc a c b)

-- two pairs are added in either way
pub four : (a b c d : ℤ) → a +ℤ b +ℤ (c +ℤ d) ≡ a +ℤ c +ℤ (b +ℤ d)
four a b c d = sym (+ℤ_assoc (a +ℤ b) c d) ∙ ap (λ (x : ℤ). x +ℤ d) (last-two a b c) ∙ +ℤ_assoc (a +ℤ c) b d

-- products of sums
pub times-sum : (m a b : ℤ) → m *ℤ (a +ℤ b) ≡ m *ℤ a +ℤ m *ℤ b
times-sum m a b = ℤ_ind (λ z. z *ℤ (a +ℤ b) ≡ z *ℤ a +ℤ z *ℤ b) none more less m
  where
    none : pos 0 *ℤ (a +ℤ b) ≡ pos 0 *ℤ a +ℤ pos 0 *ℤ b
    none = zero-*ℤ (a +ℤ b) ∙ sym (ap₂ ◌+ℤ◌ (zero-*ℤ a) (zero-*ℤ b))

    up : (z : ℤ) → z *ℤ (a +ℤ b) ≡ z *ℤ a +ℤ z *ℤ b → suc_ℤ z *ℤ (a +ℤ b) ≡ suc_ℤ z *ℤ a +ℤ suc_ℤ z *ℤ b
    up z h = suc_ℤ-*ℤ z (a +ℤ b) ∙ ap (λ (x : ℤ). x +ℤ (a +ℤ b)) h ∙ four (z *ℤ a) (z *ℤ b) a b ∙ sym (ap₂ ◌+ℤ◌ (suc_ℤ-*ℤ z a) (suc_ℤ-*ℤ z b))

    down : (z : ℤ) → z *ℤ (a +ℤ b) ≡ z *ℤ a +ℤ z *ℤ b → pred_ℤ z *ℤ (a +ℤ b) ≡ pred_ℤ z *ℤ a +ℤ pred_ℤ z *ℤ b
    down z h =
        pred_ℤ-*ℤ z (a +ℤ b) ∙ ap₂ ◌+ℤ◌ h (neg_ℤ-+ℤ a b) ∙ four (z *ℤ a) (z *ℤ b) (neg_ℤ a) (neg_ℤ b) ∙ sym (ap₂ ◌+ℤ◌ (pred_ℤ-*ℤ z a) (pred_ℤ-*ℤ z b))

    more : (n : ℕ) → pos n *ℤ (a +ℤ b) ≡ pos n *ℤ a +ℤ pos n *ℤ b → (pos n +ℤ pos 1) *ℤ (a +ℤ b) ≡ (pos n +ℤ pos 1) *ℤ a +ℤ (pos n +ℤ pos 1) *ℤ b
    more n h = subst (λ (z : ℤ). z *ℤ (a +ℤ b) ≡ z *ℤ a +ℤ z *ℤ b) (sym (+ℤ_one (pos n))) (up (pos n) h)

    less : (n : ℕ) → neg_ℤ (pos n) *ℤ (a +ℤ b) ≡ neg_ℤ (pos n) *ℤ a +ℤ neg_ℤ (pos n) *ℤ b
        → (neg_ℤ (pos n) +ℤ neg_ℤ (pos 1)) *ℤ (a +ℤ b) ≡ (neg_ℤ (pos n) +ℤ neg_ℤ (pos 1)) *ℤ a +ℤ (neg_ℤ (pos n) +ℤ neg_ℤ (pos 1)) *ℤ b
    less n h = subst (λ (z : ℤ). z *ℤ (a +ℤ b) ≡ z *ℤ a +ℤ z *ℤ b) (sym (-ℤ_one (neg_ℤ (pos n)))) (down (neg_ℤ (pos n)) h)

-- ---- tests of two numbers that both move
pub eq-moved : (a b x : ℤ) → eq_z (a +ℤ x) (b +ℤ x) ≡ eq_z a b
eq-moved a b x = go (eq_z a b) refl
  where
    go : (t : Bool) → eq_z a b ≡ t → eq_z (a +ℤ x) (b +ℤ x) ≡ t
    go true e = eq-eq_z (a +ℤ x) (b +ℤ x) (ap (λ (z : ℤ). z +ℤ x) (eq_z-true a b e))
    go false e = ne-eq_z (a +ℤ x) (b +ℤ x) (λ q. apart (sym (+ℤ-neg_ℤ_cancel a x) ∙ ap (λ (z : ℤ). z -ℤ x) q ∙ +ℤ-neg_ℤ_cancel b x))
      where
        apart : a ≡ b → ⊥
        apart q = clash (eq-eq_z a b q) e

module _ (a b x : ℤ) where
  -- more than each of them, and than what they move by
  abbrev B : ℕ
  B = nat_abs a + nat_abs b

  abbrev C : ℕ
  C = nat_abs x

  one : nat_abs a ≤ B
  one = omega arith

  other : nat_abs b ≤ B
  other = omega arith

  raised-one : raised (B + C) (a +ℤ x) ≡ raised B a + raised C x
  raised-one = raised-add B C a x one (omega arith)

  raised-other : raised (B + C) (b +ℤ x) ≡ raised B b + raised C x
  raised-other = raised-add B C b x other (omega arith)

  pub lt-moved : lt_z (a +ℤ x) (b +ℤ x) ≡ lt_z a b
  lt-moved = go (lt_z a b) refl
    where
      go : (t : Bool) → lt_z a b ≡ t → lt_z (a +ℤ x) (b +ℤ x) ≡ t
      go true e = raised_lt (B + C) (a +ℤ x) (b +ℤ x) (omega (arith, abs-add a x)) (omega (arith, abs-add b x)) (omega (arith, raised-one, raised-other, lt-raised B a b one other e))
      go false e = raised-le (B + C) (a +ℤ x) (b +ℤ x) (omega (arith, abs-add a x)) (omega (arith, abs-add b x)) (omega (arith, raised-one, raised-other, le-raised B a b one other e))

-- ---- remainders
-- a remainder of a multiple has the same remainder
narrow : (m k n : ℕ) → m % (k * n) % n ≡ m % n
narrow m k n = sym (add-mul-mod_self_right (m % (k * n)) (m / (k * n) * k) n) ∙ ap (λ (x : ℕ). x % n) whole
  where
    whole : m % (k * n) + m / (k * n) * k * n ≡ m
    whole = let d = div-add-mod' m (k * n) in let a : m / (k * n) * k * n ≡ m / (k * n) * (k * n) = mul_assoc (m / (k * n)) k n in omega (arith, d, a)

-- a multiple of n more
turns : (z : ℤ) (j n : ℕ) → 0 < n → emod (z +ℤ pos (j * n)) n ≡ emod z n
turns z j n h = sym (emod-add z (j * n) n h) ∙ add-mul-mod_self_right (emod z n) j n ∙ mod-eq_of_lt (emod-lt z n h)

-- THE REMAINDER IN THE PLACE OF ITS NUMBER: what is added may be its remainder by a multiple of n
pub emod-within : (z w : ℤ) (k n : ℕ) → 0 < n → 0 < k * n → emod (z +ℤ pos (emod w (k * n))) n ≡ emod (z +ℤ w) n
emod-within z w k n h g =
    let l = lifted w (k * n) g in
    let m = l.0 in
    let j = nat_abs w in
    let e : emod w (k * n) ≡ m % (k * n) = emod-shift w (k * n) j m g l.1 in
    let a : j * k * n ≡ j * (k * n) = mul_assoc j k n in
    ap (λ (x : ℕ). emod (z +ℤ pos x) n) e
    ∙ emod-class z (m % (k * n)) n h
    ∙ ap (λ (x : ℕ). emod (z +ℤ pos x) n) (narrow m k n)
    ∙ sym (emod-class z m n h)
    ∙ ap (λ (x : ℤ). emod (z +ℤ x) n) (sym l.1)
    ∙ ap (λ (x : ℤ). emod x n) (sym (+ℤ_assoc z w (pos (j * (k * n)))))
    ∙ ap (λ (x : ℕ). emod (z +ℤ w +ℤ pos x) n) (sym a)
    ∙ turns (z +ℤ w) (j * k) n h
