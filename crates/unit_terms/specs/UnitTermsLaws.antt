-- Laws of the terms of values: a group more in a term, and the term of a class in a table of terms.
use Rattle.std.specs.Prelude.{◌≡◌, refl, List, [], ℕ, ◌+◌, ◌/◌, ◌%◌, ◌≤◌, ◌<◌, get_or}
use Rattle.std.proofs.Common.{sym, ap, ◌∙◌, ⊎_elim, add-zero, arith}
use Rattle.laws.specs.Tests.{decided}
use Rattle.laws.specs.Words.{fold, all, zero_f}
use Rattle.laws.specs.Fold.{fold-hit, sum_mono}
use Rattle.board.specs.Hits.{bit_at}
use Rattle.terms.specs.Terms.{term_c}
use Rattle.terms.specs.TermsLaws.{term-empty, term-no, term-yes, three-at}
use Rattle.unit_terms.specs.UnitTerms.{ValueTerms}

-- one group more, where b is the pattern's bit: one that agrees is added, also where it is empty, and another is not
module _ (v : ℕ → ℕ) (p s j b : ℕ) (e : b ≡ bit_at p ((s + j / 2) % 3)) where
  pub value-agrees : b ≡ j % 2 → term_c (j + 1) v p s ≡ term_c j v p s + v j
  value-agrees h =
      ⊎_elim
      (λ z. (term-empty v (λ i. zero_f) p s j z).0 ∙ sym (ap (λ x. term_c j v p s + x) z ∙ add-zero (term_c j v p s)))
      (λ n. (term-yes v (λ i. zero_f) p s j b n e h).0)
      (decided (v j) 0)

  pub value-misses : (b ≡ j % 2 → ⊥) → term_c (j + 1) v p s ≡ term_c j v p s
  value-misses h = ⊎_elim (λ z. (term-empty v (λ i. zero_f) p s j z).0) (λ n. (term-no v (λ i. zero_f) p s j b n e h).0) (decided (v j) 0)

pub value-terms-at : (v : ℕ → ℕ) (t : List (List ℕ)) (p s : ℕ) → ValueTerms v t → p < 8 → s < 3 → get_or (get_or t p []) s 0 ≡ term_c 6 v p s
value-terms-at v t p s T h k = ap (λ r. get_or r s 0) (T.rows p h) ∙ three-at (term_c 6 v p) 0 s k

-- one group more, of all
pub held_more : (v : ℕ → ℕ) (i : ℕ) → fold ◌+◌ 0 (i + 1) all v ≡ fold ◌+◌ 0 i all v + v i
held_more v i = fold-hit ◌+◌ 0 all v i refl

-- the first ones hold no more than all six
pub held-few : (v : ℕ → ℕ) (i : ℕ) → i < 6 → fold ◌+◌ 0 i all v + v i ≤ fold ◌+◌ 0 6 all v
held-few v i h = let m : fold ◌+◌ 0 (i + 1) all v ≤ fold ◌+◌ 0 6 all v = sum_mono all v (i + 1) 6 (omega arith) in omega (arith, held_more v i)
