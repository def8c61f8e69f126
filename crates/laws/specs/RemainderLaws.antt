-- Laws of the remainder that is never negative: it is below n, it moves into the naturals, and it is kept by sums.
use Rattle.std.specs.Prelude.{◌≡◌, refl, ℕ, suc, ◌+◌, ◌*◌, ◌-◌, ◌<◌, ◌≤◌, ◌%◌, ltb, ℤ, pos, negsuc, nat_abs, ◌+ℤ◌}
use Rattle.std.proofs.Common.{sym, ap, ◌∙◌, arith, mod-lt, mod-eq_of_lt, mul-le-mul_left, mul-one, ltb→lt, nltb→le}
use Rattle.std.proofs.Math.Nat.{mod-add-mod, add-mod-mod, mod-eq-sub-mod, add-mul-mod_self_right, mul-mod_left}
use Rattle.std.proofs.Math.IntN.{sub_ℕ, pos-ne-negsuc, +ℤ_assoc, +ℤ_comm}
use Rattle.laws.specs.Tests.{by-test}
use Rattle.laws.specs.Words.{emod}

pub emod-lt : (z : ℤ) (n : ℕ) → 0 < n → emod z n < n
unfolding emod
emod-lt (pos a) n h = mod-lt a h
emod-lt (negsuc a) n h = omega arith

-- ---- in ℕ
only_zero : (x n : ℕ) → 0 < x → x < n + n → x % n ≡ 0 → x ≡ n
only_zero x n p l e = by-test ℕ (λ _. x ≡ n) (ltb x n) 0 0 (λ t. absurd (no (mod-eq_of_lt (ltb→lt x n t)))) (λ t. up (nltb→le x n t))
  where
    no : x % n ≡ x → ⊥
    no q = omega arith

    up : n ≤ x → x ≡ n
    up h = let s : x - n < n = omega arith in let u = mod-eq-sub-mod h in let v = mod-eq_of_lt s in omega arith

sub_is : (x y m : ℕ) → sub_ℕ x y ≡ pos m → x ≡ y + m
sub_is x y m = by-test ℤ (λ z. z ≡ pos m → x ≡ y + m) (ltb x y) (negsuc (y - suc x)) (pos (x - y)) (λ t e. absurd (pos-ne-negsuc m (y - suc x) (sym e))) (λ t e. go (nltb→le x y t) (ap nat_abs e))
  where
    go : y ≤ x → x - y ≡ m → x ≡ y + m
    go h e = omega arith

pub is-sub : (x y m : ℕ) → x ≡ y + m → sub_ℕ x y ≡ pos m
is-sub x y m e = by-test ℤ (λ z. z ≡ pos m) (ltb x y) (negsuc (y - suc x)) (pos (x - y)) (λ t. absurd (no (ltb→lt x y t))) (λ t. ap pos (go (nltb→le x y t)))
  where
    no : x < y → ⊥
    no h = omega arith

    go : y ≤ x → x - y ≡ m
    go h = omega arith

-- ---- a multiple of n is added, so that the sum is a natural number: the remainder is that number's
pub emod-shift : (z : ℤ) (n k m : ℕ) → 0 < n → z +ℤ pos (k * n) ≡ pos m → emod z n ≡ m % n
unfolding emod
emod-shift (pos a) n k m h e = sym (add-mul-mod_self_right a k n) ∙ ap (λ (x : ℕ). x % n) (ap nat_abs e)
emod-shift (negsuc a) n k m h e = let q = only_zero (m % n + suc (a % n)) n pos-x (bound (mod-lt m h) (mod-lt a h)) zero-x in omega arith
  where
    pos-x : 0 < m % n + suc (a % n)
    pos-x = omega arith

    bound : m % n < n → a % n < n → m % n + suc (a % n) < n + n
    bound p q = omega arith

    flip : m % n + suc (a % n) ≡ a % n + suc (m % n)
    flip = omega arith

    flop : a + suc (m % n) ≡ m % n + suc a
    flop = omega arith

    whole : m + suc a ≡ k * n
    whole = let s = sub_is (k * n) (suc a) m e in omega arith

    zero-x : (m % n + suc (a % n)) % n ≡ 0
    zero-x =
        ap (λ (x : ℕ). x % n) flip ∙ mod-add-mod a n (suc (m % n)) ∙ ap (λ (x : ℕ). x % n) flop ∙ mod-add-mod m n (suc a) ∙ ap (λ (x : ℕ). x % n) whole ∙ mul-mod_left k n

-- such a multiple exists
pub lifted : (z : ℤ) (n : ℕ) → 0 < n → (m : ℕ) × (z +ℤ pos (nat_abs z * n) ≡ pos m)
lifted (pos a) n h = (a + a * n, refl)
lifted (negsuc a) n h = (suc a * n - suc a, is-sub (suc a * n) (suc a) (suc a * n - suc a) go)
  where
    le : suc a * 1 ≤ suc a * n
    le = mul-le-mul_left (suc a) h

    go : suc a * n ≡ suc a + (suc a * n - suc a)
    go = let l = le in let o = mul-one (suc a) in omega arith

pub emod-add : (z : ℤ) (r n : ℕ) → 0 < n → (emod z n + r) % n ≡ emod (z +ℤ pos r) n
emod-add z r n h =
    let l = lifted z n h in
    ap (λ (x : ℕ). (x + r) % n) (emod-shift z n (nat_abs z) l.0 h l.1)
    ∙ mod-add-mod l.0 n r
    ∙ sym (emod-shift (z +ℤ pos r) n (nat_abs z) (l.0 + r) h (+ℤ_assoc z (pos r) (pos (nat_abs z * n)) ∙ ap (λ (x : ℤ). z +ℤ x) (+ℤ_comm (pos r) (pos (nat_abs z * n))) ∙ sym (+ℤ_assoc z (pos (nat_abs z * n)) (pos r)) ∙ ap (λ (x : ℤ). x +ℤ pos r) l.1))

-- moved by r is moved by r's class
pub emod-class : (z : ℤ) (r n : ℕ) → 0 < n → emod (z +ℤ pos r) n ≡ emod (z +ℤ pos (r % n)) n
emod-class z r n h = sym (emod-add z r n h) ∙ sym (add-mod-mod (emod z n) r n) ∙ emod-add z (r % n) n h
