-- Laws of terms: one group more, the term of a class in a table of terms, and terms of groups that hold the same.
use Rattle.std.specs.Prelude.{◌≡◌, refl, Bool, true, not, ◌&&◌, ◌||◌, List, [], ◌∷◌, eqb, get_or, Float}
use Rattle.std.proofs.Common.{sym, ap, ◌∙◌, add-zero, arith, eq-eqb, ne_eqb}
use Rattle.std.proofs.Math.Bool.{false}
use Prim.Native.Nat.{ℕ, zero, suc, ◌+◌, ◌/◌, ◌%◌, ◌≤◌, ◌<◌}
use Rattle.std.specs.Float.{binary32}
use Rattle.std.specs.Float.Ieee.{add}
use Rattle.laws.specs.Words.{fold, all, zero_f}
use Rattle.laws.specs.Fold.{fold-hit, fold-miss, sum-some, sum_mono}
use Rattle.laws.specs.DoubleCounting.{fold-ext}
use Rattle.board.specs.Hits.{bit_at}
use Rattle.terms.specs.declared.FamilyTerm.{FamilyTerm}
use Rattle.terms.specs.Terms.{agrees, adds, term_sum, term_c, term_w, term, Terms, no_term, places_n}

-- ---- one group more: c j edges of weight w j, b the pattern's bit
module _ (c : ℕ → ℕ) (w : ℕ → Float) (p s j : ℕ) where
  -- the pair of sums, with the group j taken and not
  abbrev pub Taken : Type 0
  Taken = (term_c (j + 1) c p s ≡ term_c j c p s + c j) × (term_w (j + 1) c w p s ≡ add binary32 (term_w j c w p s) (w j))

  abbrev pub Passed : Type 0
  Passed = (term_c (j + 1) c p s ≡ term_c j c p s) × (term_w (j + 1) c w p s ≡ term_w j c w p s)

  taken : adds false c p s j ≡ true → Taken
  unfolding term_sum
  taken h = (fold-hit ◌+◌ 0 (adds false c p s) c j h, fold-hit (add binary32) zero_f (adds false c p s) w j h)

  passed : adds false c p s j ≡ false → Passed
  unfolding term_sum
  passed h = (fold-miss ◌+◌ 0 (adds false c p s) c j h, fold-miss (add binary32) zero_f (adds false c p s) w j h)

  pub term-empty : c j ≡ 0 → Passed
  term-empty h = passed (ap (λ x. not (eqb x 0) && agrees p s j) h)

  pub term-no : (b : ℕ) → (c j ≡ 0 → ⊥) → b ≡ bit_at p ((s + j / 2) % 3) → (b ≡ j % 2 → ⊥) → Passed
  term-no b h e k = passed (rw (ne_eqb (c j) 0 h, ne_eqb (bit_at p ((s + j / 2) % 3)) (j % 2) (λ q. k (e ∙ q))))

  pub term-yes : (b : ℕ) → (c j ≡ 0 → ⊥) → b ≡ bit_at p ((s + j / 2) % 3) → b ≡ j % 2 → Taken
  term-yes b h e k = taken (rw (ne_eqb (c j) 0 h, eq-eqb (bit_at p ((s + j / 2) % 3)) (j % 2) (sym e ∙ k)))

-- what there is so far, and one group more, is at most all six together
pub so_far : (c : ℕ → ℕ) (p s j : ℕ) → j < 6 → term_c j c p s + c j ≤ fold ◌+◌ 0 6 all c
unfolding term_sum
so_far c p s j h =
    let a : fold ◌+◌ 0 j (adds false c p s) c ≤ fold ◌+◌ 0 j all c = sum-some (adds false c p s) c j in
    let b : fold ◌+◌ 0 (j + 1) all c ≤ fold ◌+◌ 0 6 all c = sum_mono all c (j + 1) 6 (omega arith) in
    let d : fold ◌+◌ 0 (j + 1) all c ≡ fold ◌+◌ 0 j all c + c j = fold-hit ◌+◌ 0 all c j refl in
    omega arith

-- ---- a table of terms, read by pattern and short class
-- the s-th of three
pub three-at : {X : Type 0} (f : ℕ → X) (d : X) (s : ℕ) → s < 3 → get_or (f 0 ∷ f 1 ∷ f 2 ∷ []) s d ≡ f s
three-at f d zero h = refl
three-at f d (suc zero) h = refl
three-at f d (suc (suc zero)) h = refl
three-at f d (suc (suc (suc s))) h = absurd (past s h)
  where
    past : (n : ℕ) → suc (suc (suc n)) < 3 → ⊥
    past n h = omega arith

pub terms-at : (c : ℕ → ℕ) (w : ℕ → Float) (t : List (List FamilyTerm)) (p s : ℕ) → Terms c w t → p < 8 → s < 3 → get_or (get_or t p []) s no_term ≡ term c w p s
terms-at c w t p s T h k = ap (λ r. get_or r s no_term) (T.rows p h) ∙ three-at (term c w p) no_term s k

-- ---- groups that hold the same have the same terms
module _ (n : ℕ) (c c' : ℕ → ℕ) (p s : ℕ) (e : (j : ℕ) → j < n → c j ≡ c' j) where
  same-adds : (misses : Bool) (j : ℕ) → j < n → adds misses c p s j ≡ adds misses c' p s j
  same-adds misses j h = ap (λ x. not (eqb x 0) && (misses || agrees p s j)) (e j h)

  pub same-term : {A : Type 0} (op : A → A → A) (z : A) (misses : Bool) (x x' : Bool → ℕ → A) → ((b : Bool) (j : ℕ) → j < n → x b j ≡ x' b j)
      → term_sum op z misses n c x p s ≡ term_sum op z misses n c' x' p s
  unfolding term_sum
  same-term op z misses x x' f = fold-ext op z n (adds misses c p s) (adds misses c' p s) (λ j. x (agrees p s j) j) (λ j. x' (agrees p s j) j) (same-adds misses) (λ j h. f (agrees p s j) j h)

-- ---- six groups together
pub six-sum : (l : List ℕ) (from : ℕ)
    → fold ◌+◌ 0 6 all (places_n from l) ≡ get_or l from 0 + get_or l (from + 1) 0 + (get_or l (from + 2) 0 + get_or l (from + 3) 0) + (get_or l (from + 4) 0 + get_or l (from + 5) 0)
unfolding fold
six-sum l from = ap (λ x. 0 + get_or l x 0 + get_or l (from + 1) 0 + get_or l (from + 2) 0 + get_or l (from + 3) 0 + get_or l (from + 4) 0 + get_or l (from + 5) 0) (add-zero from) ∙ six (get_or l from 0) (get_or l (from + 1) 0) (get_or l (from + 2) 0) (get_or l (from + 3) 0) (get_or l (from + 4) 0) (get_or l (from + 5) 0)
  where
    six : (a b c d e f : ℕ) → 0 + a + b + c + d + e + f ≡ a + b + (c + d) + (e + f)
    six a b c d e f = omega arith

-- ---- groups that hold no edge add nothing
module _ (c : ℕ → ℕ) (none : fold ◌+◌ 0 6 all c ≡ 0) (p s : ℕ) where
  no_edge : (j : ℕ) → j < 6 → c j ≡ 0
  no_edge j h =
      let b : fold ◌+◌ 0 (j + 1) all c ≤ fold ◌+◌ 0 6 all c = sum_mono all c (j + 1) 6 (omega arith) in
      let d : fold ◌+◌ 0 (j + 1) all c ≡ fold ◌+◌ 0 j all c + c j = fold-hit ◌+◌ 0 all c j refl in
      omega arith

  left_out : (misses : Bool) (j : ℕ) → j < 6 → adds misses c p s j ≡ false
  left_out misses j h = ap (λ x. not (eqb x 0) && (misses || agrees p s j)) (no_edge j h)

  pub no-term : {A : Type 0} (op : A → A → A) (z : A) (misses : Bool) (x : Bool → ℕ → A) → term_sum op z misses 6 c x p s ≡ z
  unfolding term_sum fold
  no-term op z misses x = fold-ext op z 6 (adds misses c p s) (λ j. false) (λ j. x (agrees p s j) j) (λ j. x (agrees p s j) j) (left_out misses) (λ j h. refl)
