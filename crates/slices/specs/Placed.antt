-- A page as an array of 32,768 bytes with a place handed along: what stands on it byte by byte. A `Page` promises the same of its text by `put_behind`, and `written-behind` (slices/proofs/Written.antt) says that the two agree.
use Rattle.std.specs.Prelude.{◌≡◌, refl, List, ℕ, zero, suc, ◌+◌, ◌-◌, ◌≤◌, ◌<◌, length, get_or, set}
use Rattle.std.proofs.Common.{ap, ◌∙◌, add-one, arith}
use Rattle.std.proofs.Math.Nat.{min-le_left, min-le_right}
use Rattle.slices.specs.Page.{taken}

-- the page p with the first n bytes of the text t stored from a place on
unfoldable pub written : List ℕ → ℕ → List ℕ → ℕ → List ℕ
written p at t zero = p
written p at t (suc n) = set (written p at t n) (at + n) (get_or t n 0)

-- the page q holds the first i bytes of the text t; k of them find room
pub record Putting (p t : List ℕ) (at k i : ℕ) (q : List ℕ) : Type 0 where
  pub few : k ≤ length t
  pub fits : k ≤ 32768 - at
  pub done : i ≤ k
  pub same : q ≡ written p at t i

-- nothing is put yet
pub none-put : (p t : List ℕ) (at k : ℕ) → k ≡ taken at (length t) → Putting p t at k 0 p
unfolding written
none-put p t at k e = record {
  few = rw e (min-le_left (length t) (32768 - at));
  fits = rw e (min-le_right (length t) (32768 - at));
  done = omega arith;
  same = refl;
}

-- one byte more
pub one-put : (p t : List ℕ) (at k i : ℕ) (q : List ℕ) → Putting p t at k i q → i < k → Putting p t at k (i + 1) (set q (at + i) (get_or t i 0))
unfolding written
one-put p t at k i q h l = record {
  few = h.few;
  fits = h.fits;
  done = omega arith;
  same = rw (add-one i) (ap (λ (r : List ℕ). set r (at + i) (get_or t i 0)) h.same);
}

-- all that find room
pub all-put : (p t : List ℕ) (at k i : ℕ) (q : List ℕ) → Putting p t at k i q → k ≤ i → k ≡ taken at (length t) → q ≡ written p at t (taken at (length t))
all-put p t at k i q h l e = let s : i ≡ k = omega (arith, h.done) in h.same ∙ ap (λ (n : ℕ). written p at t n) (s ∙ e)
