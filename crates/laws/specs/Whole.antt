-- Whole numbers below and above zero: their size `nat_abs` under sums and products, equality as a test, and their order and sums read off
-- the naturals, where omega can compare and add.
use Rattle.std.specs.Prelude.{◌≡◌, refl, Bool, true, false, ℕ, zero, suc, ◌+◌, ◌*◌, ◌-◌, ◌≤◌, ◌<◌, ltb, ℤ, pos, negsuc, neg_ℤ, nat_abs, ◌+ℤ◌, ◌-ℤ◌, ◌*ℤ◌}
use Rattle.std.proofs.Common.{ap, subst, sym, ◌∙◌, true≢false, le_refl, arith, ltb→lt, nltb→le, ltb-true, ltb-false, lt-ltb, le-ltb, eqb-true, eq-eqb}
use Rattle.std.proofs.Math.IntN.{sub_ℕ}
use Rattle.std.specs.Int.Signed.{lt_z}
use Rattle.laws.specs.Tests.{by-test}
use Rattle.laws.specs.Words.{eq_z}

-- ---- size
pub abs_neg : (z : ℤ) → nat_abs (neg_ℤ z) ≡ nat_abs z
abs_neg (pos zero) = refl
abs_neg (pos (suc n)) = refl
abs_neg (negsuc n) = refl

sub-abs : (a b : ℕ) → nat_abs (sub_ℕ a b) ≤ a + b
sub-abs a b = by-test ℤ (λ z. nat_abs z ≤ a + b) (ltb a b) (negsuc (b - suc a)) (pos (a - b)) (λ t. lo (ltb→lt a b t)) (λ t. hi)
  where
    lo : a < b → suc (b - suc a) ≤ a + b
    lo h = omega arith

    hi : a - b ≤ a + b
    hi = omega arith

comm-le : (a b : ℕ) → b + suc a ≤ suc a + b
comm-le a b = omega arith

neg-neg : (a b : ℕ) → suc (suc (a + b)) ≤ suc a + suc b
neg-neg a b = omega arith

pub abs-add : (a b : ℤ) → nat_abs (a +ℤ b) ≤ nat_abs a + nat_abs b
abs-add (pos a) (pos b) = le_refl (a + b)
abs-add (pos a) (negsuc b) = sub-abs a (suc b)
abs-add (negsuc a) (pos b) = subst (λ (n : ℕ). nat_abs (sub_ℕ b (suc a)) ≤ n) (swap a b) (sub-abs b (suc a))
  where
    swap : (a b : ℕ) → b + suc a ≡ suc a + b
    swap a b = omega arith
abs-add (negsuc a) (negsuc b) = neg-neg a b

pub abs-sub : (a b : ℤ) → nat_abs (a -ℤ b) ≤ nat_abs a + nat_abs b
abs-sub a b = subst (λ (n : ℕ). nat_abs (a -ℤ b) ≤ nat_abs a + n) (abs_neg b) (abs-add a (neg_ℤ b))

pub abs-mul : (a b : ℤ) → nat_abs (a *ℤ b) ≡ nat_abs a * nat_abs b
abs-mul (pos a) (pos b) = refl
abs-mul (pos a) (negsuc b) = abs_neg (pos (a * suc b))
abs-mul (negsuc a) (pos b) = abs_neg (pos (suc a * b))
abs-mul (negsuc a) (negsuc b) = refl

-- ---- equality as a test
pub eq_z-true : (a b : ℤ) → eq_z a b ≡ true → a ≡ b
eq_z-true (pos a) (pos b) e = ap pos (eqb-true a b e)
eq_z-true (pos a) (negsuc b) e = absurd (true≢false (sym e))
eq_z-true (negsuc a) (pos b) e = absurd (true≢false (sym e))
eq_z-true (negsuc a) (negsuc b) e = ap negsuc (eqb-true a b e)

pub eq_z-refl : (a : ℤ) → eq_z a a ≡ true
eq_z-refl (pos a) = eq-eqb a a refl
eq_z-refl (negsuc a) = eq-eqb a a refl

pub eq-eq_z : (a b : ℤ) → a ≡ b → eq_z a b ≡ true
eq-eq_z a b e = rw e (eq_z-refl b)

pub ne-eq_z : (a b : ℤ) → (a ≡ b → ⊥) → eq_z a b ≡ false
ne-eq_z a b n = go (eq_z a b) refl
  where
    go : (t : Bool) → eq_z a b ≡ t → t ≡ false
    go true e = absurd (n (eq_z-true a b e))
    go false e = refl

-- ---- order and sums, raised into the naturals
-- z raised by B, which is at least its size
unfoldable pub raised : ℕ → ℤ → ℕ
raised B (pos n) = B + n
raised B (negsuc n) = B - suc n

same : (a b c d : ℕ) → (a < b → c < d) → (b ≤ a → d ≤ c) → ltb a b ≡ ltb c d
same a b c d f g = go (ltb a b) refl
  where
    go : (t : Bool) → ltb a b ≡ t → t ≡ ltb c d
    go true e = sym (lt-ltb c d (f (ltb-true a b e)))
    go false e = sym (le-ltb c d (g (ltb-false a b e)))

-- the order
pub raised-order : (B : ℕ) (a b : ℤ) → nat_abs a ≤ B → nat_abs b ≤ B → lt_z a b ≡ ltb (raised B a) (raised B b)
unfolding raised
raised-order B (pos a) (pos b) p q = same a b (B + a) (B + b) (λ h. omega arith) (λ h. omega arith)
raised-order B (pos a) (negsuc b) p q = sym (le-ltb (B + a) (B - suc b) (omega arith))
raised-order B (negsuc a) (pos b) p q = sym (lt-ltb (B - suc a) (B + b) (omega arith))
raised-order B (negsuc a) (negsuc b) p q = same b a (B - suc a) (B - suc b) (λ h. omega arith) (λ h. omega arith)

raised-sub : (D a b : ℕ) → b ≤ D → raised D (sub_ℕ a b) ≡ D + a - b
unfolding raised
raised-sub D a b h = by-test ℤ (λ z. raised D z ≡ D + a - b) (ltb a b) (negsuc (b - suc a)) (pos (a - b)) (λ t. lo (ltb→lt a b t)) (λ t. hi (nltb→le a b t))
  where
    lo : a < b → D - suc (b - suc a) ≡ D + a - b
    lo l = omega arith

    hi : b ≤ a → D + (a - b) ≡ D + a - b
    hi l = omega arith

-- sums
pub raised-add : (B C : ℕ) (a b : ℤ) → nat_abs a ≤ B → nat_abs b ≤ C → raised (B + C) (a +ℤ b) ≡ raised B a + raised C b
unfolding raised
raised-add B C (pos a) (pos b) p q = omega arith
raised-add B C (pos a) (negsuc b) p q = raised-sub (B + C) a (suc b) (omega arith) ∙ arrange
  where
    arrange : B + C + a - suc b ≡ B + a + (C - suc b)
    arrange = omega arith
raised-add B C (negsuc a) (pos b) p q = raised-sub (B + C) b (suc a) (omega arith) ∙ arrange
  where
    arrange : B + C + b - suc a ≡ B - suc a + (C + b)
    arrange = omega arith
raised-add B C (negsuc a) (negsuc b) p q = omega arith

-- nothing is lost
pub raised-same : (B : ℕ) (a b : ℤ) → nat_abs a ≤ B → nat_abs b ≤ B → raised B a ≡ raised B b → a ≡ b
unfolding raised
raised-same B (pos a) (pos b) p q e = ap pos (omega arith)
raised-same B (pos a) (negsuc b) p q e = absurd (omega arith)
raised-same B (negsuc a) (pos b) p q e = absurd (omega arith)
raised-same B (negsuc a) (negsuc b) p q e = ap negsuc (omega arith)

module _ (B : ℕ) (a b : ℤ) (p : nat_abs a ≤ B) (q : nat_abs b ≤ B) where
  pub lt-raised : lt_z a b ≡ true → raised B a < raised B b
  lt-raised h = ltb-true (raised B a) (raised B b) (sym (raised-order B a b p q) ∙ h)

  pub le-raised : lt_z a b ≡ false → raised B b ≤ raised B a
  le-raised h = ltb-false (raised B a) (raised B b) (sym (raised-order B a b p q) ∙ h)

  pub raised_lt : raised B a < raised B b → lt_z a b ≡ true
  raised_lt h = raised-order B a b p q ∙ lt-ltb (raised B a) (raised B b) h

  pub raised-le : raised B b ≤ raised B a → lt_z a b ≡ false
  raised-le h = raised-order B a b p q ∙ le-ltb (raised B a) (raised B b) h
