-- The least index below n at which a test holds, n if there is none.
use Rattle.std.specs.Prelude.{◌≡◌, Bool, ◌⊎◌}
use Rattle.std.proofs.Math.Path.{refl}
use Rattle.std.proofs.Common.{sym, inl, inr, ⊎_elim, eq-or-lt_of_le}
use Rattle.std.proofs.Math.Bool.{true, false, cond}
use Prim.Native.Nat.{ℕ, zero, suc, ◌+◌, ◌≤◌, ◌<◌}
use native.Mathlib.Omega.{arith}
use Rattle.laws.specs.Words.{first_from, first}

-- a search that passed the indices below r and stopped there
from-least : (p : ℕ → Bool) (i k r : ℕ) → i ≤ r → r ≤ i + k → ((j : ℕ) → j < r → p j ≡ false) → (r < i + k → p r ≡ true) → first_from p i k ≡ r
unfolding first_from
from-least p i zero r lo hi below at = omega arith
from-least p i (suc k) r lo hi below at =
    ⊎_elim
    (λ e. rw (rw (sym e) at (at (omega arith))) e)
    (λ l. rw (below i l) (from-least p (suc i) k r l (omega arith) below (λ h. at (omega arith))))
    (eq-or-lt_of_le lo)

pub first-least : (p : ℕ → Bool) (n r : ℕ) → r ≤ n → ((j : ℕ) → j < r → p j ≡ false) → (r < n → p r ≡ true) → first p n ≡ r
unfolding first
first-least p n r hi below at = from-least p 0 n r (omega arith) (omega arith) below (λ h. at (omega arith))

-- ---- what a search tells its caller

step : (p : ℕ → Bool) (i k : ℕ) (b : Bool) → p i ≡ b → i + suc k ≤ cond b i (first_from p (suc i) k) → (p i ≡ false) × (suc i + k ≤ first_from p (suc i) k)
step p i k true e h = absurd (omega arith)
step p i k false e h = (e, omega arith)

from-none : (p : ℕ → Bool) (i k : ℕ) → i + k ≤ first_from p i k → (j : ℕ) → i ≤ j → j < i + k → p j ≡ false
unfolding first_from
from-none p i zero h j lo hi = absurd (omega arith)
from-none p i (suc k) h j lo hi =
    let s = step p i k (p i) refl h in
    ⊎_elim (λ e. rw e at s.0) (λ l. from-none p (suc i) k s.1 j l (omega arith)) (eq-or-lt_of_le lo)

-- a search that found nothing: the test fails everywhere
pub first-none : (p : ℕ → Bool) (n : ℕ) → n ≤ first p n → (k : ℕ) → k < n → p k ≡ false
unfolding first
first-none p n h k l = from-none p 0 n (omega arith) k (omega arith) (omega arith)

module _ (p : ℕ → Bool) where
  from_le : (i k : ℕ) → first_from p i k ≤ i + k
  unfolding first_from
  from_le i zero = omega arith
  from_le i (suc k) = go (p i) (from_le (suc i) k)
    where
      go : (b : Bool) → first_from p (suc i) k ≤ suc i + k → cond b i (first_from p (suc i) k) ≤ i + suc k
      go true h = omega arith
      go false h = omega arith

  -- the index itself passes
  from-passes : (i k : ℕ) → first_from p i k < i + k → p (first_from p i k) ≡ true
  unfolding first_from
  from-passes i zero h = absurd (omega arith)
  from-passes i (suc k) h = go (p i) refl (from-passes (suc i) k) h
    where
      go : (b : Bool) → p i ≡ b → (first_from p (suc i) k < suc i + k → p (first_from p (suc i) k) ≡ true) → cond b i (first_from p (suc i) k) < i + suc k → p (cond b i (first_from p (suc i) k)) ≡ true
      go true e ih l = e
      go false e ih l = ih (omega arith)

  -- and none before it
  from-before : (i k j : ℕ) → i ≤ j → j < first_from p i k → p j ≡ false
  unfolding first_from
  from-before i zero j lo h = absurd (omega arith)
  from-before i (suc k) j lo h = go (p i) refl (from-before (suc i) k j) h (eq-or-lt_of_le lo)
    where
      go : (b : Bool) → p i ≡ b → (suc i ≤ j → j < first_from p (suc i) k → p j ≡ false) → j < cond b i (first_from p (suc i) k) → (i ≡ j) ⊎ (i < j) → p j ≡ false
      go true e ih l s = absurd (omega arith)
      go false e ih l (inl r) = rw r at e
      go false e ih l (inr m) = ih m l

  module _ (n : ℕ) where
    pub first-le : first p n ≤ n
    unfolding first
    first-le = omega (arith, from_le 0 n)

    pub first_passes : first p n < n → p (first p n) ≡ true
    unfolding first
    first_passes h = from-passes 0 n (omega arith)

    pub first-before : (j : ℕ) → j < first p n → p j ≡ false
    unfolding first
    first-before j h = from-before 0 n j (omega arith) h

-- ---- a search, before index i of n: no index passed so far
pub record Searching (p : ℕ → Bool) (n i : ℕ) : Type 0 where
  pub inside : i ≤ n
  pub none_yet : (k : ℕ) → k < i → p k ≡ false

module _ (p : ℕ → Bool) (n : ℕ) where
  pub search-starts : Searching p n 0
  search-starts = record { inside = omega arith; none_yet = λ k h. absurd (omega arith) }

  pub search-goes-on : (i : ℕ) → i < n → Searching p n i → p i ≡ false → Searching p n (i + 1)
  search-goes-on i h s e = record { inside = omega arith; none_yet = λ k l. ⊎_elim (λ q. rw q e) (s.none_yet k) (eq-or-lt_of_le (before k l)) }
    where
      before : (k : ℕ) → k < i + 1 → k ≤ i
      before k l = omega arith

  -- it stops at the first index that passes, or at the end
  pub search-finds : (i : ℕ) → Searching p n i → p i ≡ true → i ≡ first p n
  search-finds i s e = sym (first-least p n i s.inside s.none_yet (λ h. e))

  pub search-ends : (i : ℕ) → n ≤ i → Searching p n i → i ≡ first p n
  search-ends i h s = sym (first-least p n i s.inside s.none_yet (λ l. absurd (omega arith)))
