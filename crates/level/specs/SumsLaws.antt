-- Sums of two cells: their size, and what is read back of them.
use Rattle.std.specs.Prelude.{◌≡◌, Bool, List, ℕ, ◌+◌, ◌*◌, ◌^◌, ◌≤◌, ◌<◌, ℤ, pos, nat_abs, ◌+ℤ◌, length}
use Rattle.std.proofs.Common.{sym, ap, ap₂, ◌∙◌, ⊎_elim, arith, SFits, to_z-of_z}
use Rattle.std.proofs.Math.ListN.{get_or-eq_default}
use Rattle.std.specs.Int.Signed.{lt_z, mag}
use Rattle.std.specs.Int.{w64}
use Rattle.laws.specs.Tests.{compared}
use Rattle.laws.specs.Words.{eq_z}
use Rattle.laws.specs.Whole.{abs-add}
use Rattle.laws.specs.Signed.{read, fits-abs, fit_at, read_at}
use Rattle.level.specs.Level.{s_at}
use Rattle.level.specs.Sums.{SumsOk}

-- a number of at most 2^53 in size is read back as it is
pub small-read : (x : ℤ) → nat_abs x ≤ 2 ^ 53 → read w64 x ≡ x
small-read x h = to_z-of_z (fits-abs {w = w64} x (omega arith))

-- what a callee says of a number that was read
pub read-eq : (x y : ℤ) (r : Bool) → mag x < 2 ^ 63 → r ≡ eq_z (read w64 x) y → r ≡ eq_z x y
read-eq x y r h e = e ∙ ap (λ (z : ℤ). eq_z z y) (to_z-of_z {w = w64} {z = x} (record { sfits = h }))

-- two numbers that are together within 2^53: their sum fits, is small, and is read back
module _ (x y : ℤ) (h : nat_abs x + nat_abs y ≤ 2 ^ 53) where
  read-both : read w64 x +ℤ read w64 y ≡ x +ℤ y
  read-both = ap₂ ◌+ℤ◌ (small-read x (omega arith)) (small-read y (omega arith))

  pub sum-small : nat_abs (x +ℤ y) ≤ 2 ^ 53
  sum-small = omega (arith, abs-add x y)

  pub sum_fits : SFits w64 (read w64 x +ℤ read w64 y)
  sum_fits = fit_at w64 read-both (omega (arith, sum-small))

  pub sum-read : read w64 (read w64 x +ℤ read w64 y) ≡ x +ℤ y
  sum-read = read_at w64 read-both (omega (arith, sum-small))

-- a test of two such sums
pub sums_lt : (a b c d : ℤ) → nat_abs a + nat_abs b ≤ 2 ^ 53 → nat_abs c + nat_abs d ≤ 2 ^ 53 → (t : Bool)
    → lt_z (read w64 (read w64 a +ℤ read w64 b)) (read w64 (read w64 c +ℤ read w64 d)) ≡ t → lt_z (a +ℤ b) (c +ℤ d) ≡ t
sums_lt a b c d h k t e = ap₂ lt_z (sym (sum-read a b h)) (sym (sum-read c d k)) ∙ e

-- ---- two tables
module _ (L M : ℕ) (hs vs : List ℤ) (ok : SumsOk L M hs vs) (p : 3 < L) (q : 3 < M) where
  -- past its end a table reads 0, so the bound holds of all numbers
  pub all-bounded : (i j : ℕ) → nat_abs (s_at hs i) + nat_abs (s_at vs j) ≤ 2 ^ 53
  all-bounded i j = ⊎_elim (λ l. ⊎_elim (ok.bounded i j l) (v-out l) (compared j (3 * M))) (λ l. ⊎_elim (h-out l) (none l) (compared j (3 * M))) (compared i (3 * L))
    where
      h-zero : 3 * L ≤ i → s_at hs i ≡ pos 0
      h-zero l = get_or-eq_default hs (pos 0) {n = i} (omega (arith, ok.hlen))

      v-zero : 3 * M ≤ j → s_at vs j ≡ pos 0
      v-zero m = get_or-eq_default vs (pos 0) {n = j} (omega (arith, ok.vlen))

      v-out : i < 3 * L → 3 * M ≤ j → nat_abs (s_at hs i) + nat_abs (s_at vs j) ≤ 2 ^ 53
      v-out l m = rw (v-zero m) (omega (arith, ok.bounded i 0 l (omega arith)))

      h-out : 3 * L ≤ i → j < 3 * M → nat_abs (s_at hs i) + nat_abs (s_at vs j) ≤ 2 ^ 53
      h-out l m = rw (h-zero l) (omega (arith, ok.bounded 0 j (omega arith) m))

      none : 3 * L ≤ i → 3 * M ≤ j → nat_abs (s_at hs i) + nat_abs (s_at vs j) ≤ 2 ^ 53
      none l m = rw (h-zero l, v-zero m) (omega arith)

  pub h-two : 1 < length hs
  h-two = omega (arith, ok.hlen)

  pub v-two : 1 < length vs
  v-two = omega (arith, ok.vlen)
