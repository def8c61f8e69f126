-- Laws of the terms of likelihoods: a group more in a term, its size, and a family whose sums are all 0.
use Rattle.std.specs.Prelude.{◌≡◌, Bool, ◌&&◌, ◌||◌, cond, List, [], ◌⊎◌, ℤ, pos, nat_abs, get_or}
use Rattle.std.proofs.Math.Path.{refl, ap}
use Rattle.std.proofs.Common.{sym, ap₂, subst, ◌∙◌, true≢false, inl, inr, add-one, arith, eq-eqb, ne_eqb}
use Rattle.std.proofs.Math.Bool.{true, false, not}
use Rattle.std.proofs.Math.Logic.{⊎_elim}
use Prim.Native.Nat.{ℕ, zero, suc, ◌+◌, ◌*◌, ◌/◌, ◌%◌, ◌^◌, ◌≤◌, ◌<◌}
use Rattle.std.proofs.Math.IntN.{◌+ℤ◌}
use Rattle.laws.specs.Tests.{and-true, and_comm, or-false, split}
use Rattle.laws.specs.Words.{fold, all, one, eq_z, count}
use Rattle.laws.specs.Fold.{fold-hit}
use Rattle.laws.specs.Counting.{count-le}
use Rattle.laws.specs.DoubleCounting.{fold-ext}
use Rattle.laws.specs.Whole.{eq_z-true, eq-eq_z, ne-eq_z}
use Rattle.board.specs.Hits.{bit_at}
use Rattle.likelihood.specs.SumLaws.{sum-size}
use Rattle.terms.specs.Terms.{agrees, term_sum}
use Rattle.terms.specs.TermsLaws.{three-at, same-term}
use Rattle.sum_terms.specs.SumTerms.{places_z, term_z, TermsZ, some_sum}

-- ---- terms
-- one group more: the match sum stands from `from` on, the mismatch sum from `also` on, and b is the pattern's bit
module _ (a : List ℤ) (from also p s j : ℕ) where
  pub term-more : term_z (j + 1) (places_z from a) (places_z also a) p s
      ≡ term_z j (places_z from a) (places_z also a) p s +ℤ cond (agrees p s j) (places_z from a j) (places_z also a j)
  unfolding term_sum
  term-more = fold-hit ◌+ℤ◌ (pos 0) all _ j refl

  pub read-match : (b start : ℕ) → b ≡ bit_at p ((s + j / 2) % 3) → b ≡ j % 2 → start ≡ from → get_or a (start + j) (pos 0) ≡ cond (agrees p s j) (places_z from a j) (places_z also a j)
  read-match b start e h q = ap (λ x. get_or a (x + j) (pos 0)) q ∙ sym (rw (eq-eqb (bit_at p ((s + j / 2) % 3)) (j % 2) (sym e ∙ h)))

  pub read-mismatch : (b start : ℕ) → b ≡ bit_at p ((s + j / 2) % 3) → (b ≡ j % 2 → ⊥) → start ≡ also → get_or a (start + j) (pos 0) ≡ cond (agrees p s j) (places_z from a j) (places_z also a j)
  read-mismatch b start e h q = ap (λ x. get_or a (x + j) (pos 0)) q ∙ sym (rw (ne_eqb (bit_at p ((s + j / 2) % 3)) (j % 2) (λ r. h (e ∙ r))))

-- the size of a term of n groups
pub term-small : (m u : ℕ → ℤ) (n p s : ℕ) → ((j : ℕ) → j < n → (nat_abs (m j) ≤ 2 ^ 53) × (nat_abs (u j) ≤ 2 ^ 53)) → n ≤ 6 → nat_abs (term_z n m u p s) ≤ 6 * 2 ^ 53
unfolding term_sum
term-small m u n p s h l =
    let a = sum-size (2 ^ 53) n all (λ j. cond (agrees p s j) (m j) (u j)) (λ j k e. either (agrees p s j) j k) in
    let b : count n all ≤ n = count-le all n in
    omega arith
  where
    either : (t : Bool) (j : ℕ) → j < n → nat_abs (cond t (m j) (u j)) ≤ 2 ^ 53
    either true j k = (h j k).0
    either false j k = (h j k).1

pub terms-at_z : (m u : ℕ → ℤ) (t : List (List ℤ)) (p s : ℕ) → TermsZ m u t → p < 8 → s < 3 → get_or (get_or t p []) s (pos 0) ≡ term_z 6 m u p s
terms-at_z m u t p s T h k = ap (λ r. get_or r s (pos 0)) (T.rows p h) ∙ three-at (term_z 6 m u p) (pos 0) s k

-- groups that hold the same have the same terms
pub same-term_z : (n : ℕ) (m m' u u' : ℕ → ℤ) (p s : ℕ) → ((j : ℕ) → j < n → m j ≡ m' j) → ((j : ℕ) → j < n → u j ≡ u' j) → term_z n m u p s ≡ term_z n m' u' p s
same-term_z n m m' u u' p s e f = same-term n one one p s (λ j h. refl) ◌+ℤ◌ (pos 0) true _ _ (λ b j h. ap₂ (λ x y. cond b x y) (e j h) (f j h))

-- ---- a family whose twelve sums are all 0
module _ (m u : ℕ → ℤ) where
  pub some-sum-none : some_sum 0 m u ≡ false
  unfolding some_sum
  some-sum-none = refl

  -- two sums of 0 more
  pub some-sum-more : (n : ℕ) → some_sum n m u ≡ false → m n ≡ pos 0 → u n ≡ pos 0 → some_sum (n + 1) m u ≡ false
  unfolding some_sum
  some-sum-more n h a b = rw (add-one, h, eq-eq_z (m n) (pos 0) a, eq-eq_z (u n) (pos 0) b)

  -- one that is not 0
  here : (a b : ℤ) → (a ≡ pos 0 → ⊥) ⊎ (b ≡ pos 0 → ⊥) → not (eq_z a (pos 0) && eq_z b (pos 0)) ≡ true
  here a b (inl h) = rw (ne-eq_z a (pos 0) h)
  here a b (inr h) = ap (λ q. not q) (and_comm (eq_z a (pos 0)) (eq_z b (pos 0))) ∙ rw (ne-eq_z b (pos 0) h)

  pub some-sum-here : (n j : ℕ) → j < n → (m j ≡ pos 0 → ⊥) ⊎ (u j ≡ pos 0 → ⊥) → some_sum n m u ≡ true
  unfolding some_sum
  some-sum-here zero j l h = absurd (omega arith)
  some-sum-here (suc n) j l h = ⊎_elim last (λ k. ap (λ q. q || not (eq_z (m n) (pos 0) && eq_z (u n) (pos 0))) (some-sum-here n j k h)) (split j n l)
    where
      or_right : (p : Bool) → (p || true) ≡ true
      or_right true = refl
      or_right false = refl

      last : j ≡ n → (some_sum n m u || not (eq_z (m n) (pos 0) && eq_z (u n) (pos 0))) ≡ true
      last e = ap (λ q. some_sum n m u || q) (here (m n) (u n) (subst (λ (k : ℕ). (m k ≡ pos 0 → ⊥) ⊎ (u k ≡ pos 0 → ⊥)) e h)) ∙ or_right (some_sum n m u)

  -- none: all are 0
  no-sum : (n : ℕ) → some_sum n m u ≡ false → (j : ℕ) → j < n → (m j ≡ pos 0) × (u j ≡ pos 0)
  unfolding some_sum
  no-sum zero e j l = absurd (omega arith)
  no-sum (suc n) e j l = ⊎_elim last (λ k. no-sum n (or-false (some_sum n m u) (not (eq_z (m n) (pos 0) && eq_z (u n) (pos 0))) e).0 j k) (split j n l)
    where
      not-false : (b : Bool) → not b ≡ false → b ≡ true
      not-false true h = refl
      not-false false h = absurd (true≢false h)

      zeros : (eq_z (m n) (pos 0) ≡ true) × (eq_z (u n) (pos 0) ≡ true)
      zeros = and-true (eq_z (m n) (pos 0)) (eq_z (u n) (pos 0)) (not-false (eq_z (m n) (pos 0) && eq_z (u n) (pos 0)) (or-false (some_sum n m u) (not (eq_z (m n) (pos 0) && eq_z (u n) (pos 0))) e).1)

      last : j ≡ n → (m j ≡ pos 0) × (u j ≡ pos 0)
      last q = (ap m q ∙ eq_z-true (m n) (pos 0) zeros.0, ap u q ∙ eq_z-true (u n) (pos 0) zeros.1)

pub no-term_z : (m u : ℕ → ℤ) → some_sum 6 m u ≡ false → (p s : ℕ) → term_z 6 m u p s ≡ pos 0
unfolding term_sum fold
no-term_z m u e p s = fold-ext ◌+ℤ◌ (pos 0) 6 all all (λ j. cond (agrees p s j) (m j) (u j)) (λ j. pos 0) (λ j h. refl) (λ j h. either (agrees p s j) (m j) (u j) (no-sum m u 6 e j h).0 (no-sum m u 6 e j h).1)
  where
    either : (b : Bool) (x y : ℤ) → x ≡ pos 0 → y ≡ pos 0 → cond b x y ≡ pos 0
    either true x y e d = e
    either false x y e d = d
