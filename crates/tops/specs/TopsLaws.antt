-- What the best and the second best of n numbers are: the best is had at its place, and no other is greater than the second, which another has.
use Rattle.std.specs.Prelude.{◌≡◌, Bool, true, false, cond, ◌⊎◌, ltb}
use Rattle.std.proofs.Math.Path.{refl, sym, ap, ap₂}
use Rattle.std.proofs.Common.{◌∙◌, inl, inr, ⊎_elim, lit<, ltb-true, ltb-false}
use Prim.Native.Nat.{ℕ, zero, suc, ◌+◌, ◌*◌, ◌≤◌, ◌<◌}
use Rattle.std.proofs.Math.Numerals.{add-one}
use native.Mathlib.Omega.{arith}
use Rattle.laws.specs.Tests.{split, decided}
use Rattle.board.specs.Hits.{EdgeList, Board}
use Rattle.classes.specs.declared.Three.{Three}
use Rattle.classes.specs.Classes.{class_hits, three_of}
use Rattle.classes.specs.ClassesLaws.{class-at}
use Rattle.tops.specs.declared.Top.{Top}
use Rattle.tops.specs.Tops.{pushed, no_top, top_to, pushed_three, larger, most, raised, short_tops}

-- the best and the second best of n numbers
pub record IsTop (f : ℕ → ℕ) (n : ℕ) (T : Top) : Type 0 where
  pub in-range : T.at < n
  pub attained : f T.at ≡ T.best
  pub under : T.next ≤ T.best
  pub others : (j : ℕ) → j < n → (j ≡ T.at → ⊥) → f j ≤ T.next
  pub had : (T.next ≡ 0) ⊎ ((j : ℕ) × (j < n) × (j ≡ T.at → ⊥) × (f j ≡ T.next))

module _ (f : ℕ → ℕ) where
  first-top : IsTop f 1 (pushed no_top 0 (f 0))
  first-top = go (ltb 0 (f 0)) refl
    where
      go : (b : Bool) → ltb 0 (f 0) ≡ b → IsTop f 1 (cond b (record { best = f 0; at = 0; next = 0 }) (cond b (record { best = 0; at = 0; next = f 0 }) no_top))
      go true e = record { in-range = lit< tt; attained = refl; under = omega arith; others = λ j l n. absurd (omega arith); had = inl refl }
      go false e = record { in-range = lit< tt; attained = omega (arith, ltb-false 0 (f 0) e); under = omega arith; others = λ j l n. absurd (omega arith); had = inl refl }

  more-top : (n : ℕ) (T : Top) → IsTop f n T → IsTop f (suc n) (pushed T n (f n))
  more-top n T I = go (ltb T.best (f n)) (ltb T.next (f n)) refl refl
    where
      go : (b d : Bool) → ltb T.best (f n) ≡ b → ltb T.next (f n) ≡ d → IsTop f (suc n) (cond b (record { best = f n; at = n; next = T.best }) (cond d (record { best = T.best; at = T.at; next = f n }) T))
      go true d e g = record {
        in-range = omega arith;
        attained = refl;
        under = omega (arith, ltb-true T.best (f n) e);
        others = λ j l ne. ⊎_elim (λ q. absurd (ne q)) (λ m. ⊎_elim (λ q. omega (arith, ap f q, I.attained)) (λ q. omega (arith, I.others j m q, I.under)) (decided j T.at)) (split j n l);
        had = inr (T.at, omega (arith, I.in-range), (λ q. omega (arith, I.in-range, q)), I.attained);
      }
      go false true e g = record {
        in-range = omega (arith, I.in-range);
        attained = I.attained;
        under = ltb-false T.best (f n) e;
        others = λ j l ne. ⊎_elim (λ q. omega (arith, ap f q)) (λ m. omega (arith, I.others j m ne, ltb-true T.next (f n) g)) (split j n l);
        had = inr (n, omega arith, (λ q. omega (arith, I.in-range, q)), refl);
      }
      go false false e g = record {
        in-range = omega (arith, I.in-range);
        attained = I.attained;
        under = I.under;
        others = λ j l ne. ⊎_elim (λ q. omega (arith, ap f q, ltb-false T.next (f n) g)) (λ m. I.others j m ne) (split j n l);
        had = ⊎_elim inl (λ w. inr (w.0, omega (arith, w.1), w.2, w.3)) I.had;
      }

  is-top : (n : ℕ) → IsTop f (suc n) (top_to f (suc n))
  unfolding top_to
  is-top zero = first-top
  is-top (suc n) = more-top (suc n) (top_to f (suc n)) (is-top n)

  -- of two or more, another has the second best
  pub top : (n : ℕ) → 1 < n → IsTop f n (top_to f n)
  top (suc n) h = is-top n
  top zero h = absurd (omega arith)

  pub second-had : (n : ℕ) → 1 < n → (j : ℕ) × (j < n) × (j ≡ (top_to f n).at → ⊥) × (f j ≡ (top_to f n).next)
  second-had n h = ⊎_elim (λ z. other z (decided (top_to f n).at 0)) (λ w. w) I.had
    where
      I : IsTop f n (top_to f n)
      I = top n h

      other : (top_to f n).next ≡ 0 → ((top_to f n).at ≡ 0) ⊎ ((top_to f n).at ≡ 0 → ⊥) → (j : ℕ) × (j < n) × (j ≡ (top_to f n).at → ⊥) × (f j ≡ (top_to f n).next)
      other z (inl q) = (1, h, (λ e. omega (arith, e, q)), omega (arith, z, I.others 1 h (λ e. omega (arith, e, q))))
      other z (inr q) = (0, omega arith, (λ e. q (sym e)), omega (arith, z, I.others 0 (omega arith) (λ e. q (sym e))))

  -- ---- one number more
  pub top-more : (n : ℕ) → top_to f (n + 1) ≡ pushed (top_to f n) n (f n)
  unfolding top_to
  top-more n = rw add-one

-- ---- the three classes of one long residue more
module _ (B : Board) (E : EdgeList) (t : ℕ) (s : Bool) where
  abbrev f : ℕ → ℕ
  f = class_hits B E t s

  pub top-none : no_top ≡ top_to f (0 * 3)
  unfolding top_to
  top-none = refl

  pub top-three : (l : ℕ) (T r : Top) (x : Three) → T ≡ top_to f (l * 3) → x ≡ three_of B E t s l → r ≡ pushed_three T l x → r ≡ top_to f ((l + 1) * 3)
  unfolding pushed_three three_of
  top-three l T r x e q k =
      k ∙ ap₂ (λ (y : Top) (z : Three). pushed_three y l z) e q
      ∙ sym (ap (top_to f) past ∙ top-more f (l * 3 + 2)
      ∙ ap₂ (λ (y : Top) (z : ℕ). pushed y (l * 3 + 2) z) (ap (top_to f) (omega arith) ∙ top-more f (l * 3 + 1)
      ∙ ap₂ (λ (y : Top) (z : ℕ). pushed y (l * 3 + 1) z) (top-more f (l * 3) ∙ ap (λ (z : ℕ). pushed (top_to f (l * 3)) (l * 3) z) (ap f (omega arith) ∙ class-at B E t s l 0 (lit< tt))) (class-at B E t s l 1 (lit< tt))) (class-at B E t s l 2 (lit< tt)))
    where
      past : (l + 1) * 3 ≡ l * 3 + 2 + 1
      past = omega arith

-- ---- the larger of two
pub larger-left : (a b : ℕ) → a ≤ larger a b
unfolding larger
larger-left a b = go (ltb a b) refl
  where
    go : (d : Bool) → ltb a b ≡ d → a ≤ cond d b a
    go true e = omega (arith, ltb-true a b e)
    go false e = omega arith

pub larger-right : (a b : ℕ) → b ≤ larger a b
unfolding larger
larger-right a b = go (ltb a b) refl
  where
    go : (d : Bool) → ltb a b ≡ d → b ≤ cond d b a
    go true e = omega arith
    go false e = ltb-false a b e

pub larger-is : (a b : ℕ) → (larger a b ≡ a) ⊎ (larger a b ≡ b)
unfolding larger
larger-is a b = go (ltb a b)
  where
    go : (d : Bool) → (cond d b a ≡ a) ⊎ (cond d b a ≡ b)
    go true = inr refl
    go false = inl refl

-- no number is greater than the greatest
pub most-le : (f : ℕ → ℕ) (n j : ℕ) → j < n → f j ≤ most f n
unfolding most
most-le f zero j h = absurd (omega arith)
most-le f (suc n) j h = ⊎_elim (λ q. omega (arith, ap f q, larger-right (most f n) (f n))) (λ m. omega (arith, most-le f n j m, larger-left (most f n) (f n))) (split j n h)

-- it is at most what bounds them all
pub most-bound : (f : ℕ → ℕ) (b : ℕ) → ((i : ℕ) → f i ≤ b) → (n : ℕ) → most f n ≤ b
unfolding most
most-bound f b h zero = omega arith
most-bound f b h (suc n) = ⊎_elim (λ e. omega (arith, e, most-bound f b h n)) (λ e. omega (arith, e, h n)) (larger-is (most f n) (f n))

module _ (B : Board) (E : EdgeList) (t : ℕ) where
  pub short_none : record { a = 0; b = 0; c = 0 } ≡ short_tops B E t 0
  unfolding short_tops most
  short_none = refl

  pub short-more : (n : ℕ) (T r x : Three) → T ≡ short_tops B E t n → x ≡ three_of B E t false n → r ≡ raised T x → r ≡ short_tops B E t (n + 1)
  unfolding short_tops most raised three_of
  short-more n T r x e q k = k ∙ ap₂ raised e q ∙ sym (rw (add-one n))
