-- The sums determine the choice: at most one placing is first, at most one is second to it, and so two choices that hold first and second place are equal.
use Rattle.margin.specs.declared.slots.SoftCandidate.{SoftCandidate}
use Rattle.std.specs.Prelude.{◌≡◌, false, ◌⊎◌, ℕ, ◌*◌, ◌<◌, ℤ, Some}
use Rattle.std.proofs.Common.{sym, ap₂, subst, ◌∙◌, inl, inr, ⊎_elim, arith}
use Rattle.std.specs.Int.Signed.{lt_z}
use Rattle.laws.specs.Tests.{clash, cases, apart, decided}
use Rattle.laws.specs.Words.{Grid, origins}
use Rattle.laws.specs.GridLaws.{Laws}
use Rattle.best.specs.CellTables.{Period}
use Rattle.grid.specs.BoardGrid.{grid}
use Rattle.soft.specs.TotalOrderLaws.{not-less, less-through}
use Rattle.soft.specs.BestPlacing.{OwnBest, NotAfter, Across, Down, OwnSecond, FirstPlace, SecondPlace, candidate_at, BestTwo}
use Rattle.margin.specs.Kinds.{SoftChoice}

-- ---- one transform
-- one origin is its own best
pub own-only : (G : Grid) (s : ℕ → ℤ) (k j : ℕ) → OwnBest G s k → OwnBest G s j → k ≡ j
own-only G s k j A B =
    ⊎_elim (λ e. e)
    (⊎_elim (λ l. clash (B.first k l) (A.largest j B.key)) (λ l. clash (A.first j l) (B.largest k A.key)))
    (apart k j)

module _ (G : Grid) (hn vn : ℕ) (E : Laws G hn vn) (s : ℕ → ℤ) (k : ℕ) where
  -- two origins of the same cells are one
  same-cells : (i j : ℕ) → i < G.none → j < G.none → G.h_of i ≡ G.h_of j → G.v_of i ≡ G.v_of j → i ≡ j
  same-cells i j l m h v = sym (E.back i l) ∙ ap₂ G.key h v ∙ E.back j m

  same_place : (i j : ℕ) → i < G.none → j < G.none → NotAfter G i j → NotAfter G j i → i ≡ j
  same_place i j l m (inl a) (inl b) = absurd (omega arith)
  same_place i j l m (inl a) (inr b) = absurd (omega (arith, b.0))
  same_place i j l m (inr a) (inl b) = absurd (omega (arith, a.0))
  same_place i j l m (inr a) (inr b) = let e : G.v_of i ≡ G.v_of j = omega (arith, a.1, b.1) in same-cells i j l m a.0 e

  module _ (i j : ℕ) (A : OwnSecond G s k i) (B : OwnSecond G s k j) where
    no_less : lt_z (s i) (s j) ≡ false
    no_less = A.largest j B.key B.other

    no-less-back : lt_z (s j) (s i) ≡ false
    no-less-back = B.largest i A.key A.other

    both-across : Across G s k i → Across G s k j → i ≡ j
    both-across a b =
        ⊎_elim (λ e. same-cells i j A.key B.key e (a.shared ∙ sym b.shared))
        (⊎_elim (λ l. clash (b.first i A.key A.other a.shared l) no_less) (λ l. clash (a.first j B.key B.other b.shared l) no-less-back))
        (apart (G.h_of i) (G.h_of j))

    both-down : Down G s k i → Down G s k j → i ≡ j
    both-down a b =
        ⊎_elim (λ e. same-cells i j A.key B.key (a.shared ∙ sym b.shared) e)
        (⊎_elim (λ l. clash (b.first i A.key A.other a.shared l) no_less) (λ l. clash (a.first j B.key B.other b.shared l) no-less-back))
        (apart (G.v_of i) (G.v_of j))

    both-alone : Across G s k i ⊎ Down G s k i → Across G s k j ⊎ Down G s k j → i ≡ j
    both-alone (inl a) (inl b) = both-across a b
    both-alone (inl a) (inr b) = clash (b.greater i A.key A.other a.shared) no_less
    both-alone (inr a) (inl b) = clash (a.greater j B.key B.other b.shared) no-less-back
    both-alone (inr a) (inr b) = both-down a b

    -- one origin is the second there
    pub own-second-only : i ≡ j
    own-second-only = ⊎_elim
        (λ e. both-alone (A.alone e) (B.alone (less-through (s j) (s i) (s k) e no_less)))
        (λ e. let d : lt_z (s j) (s k) ≡ false = not-less (s j) (s i) (s k) no-less-back e in same_place i j A.key B.key (A.tied e j B.key B.other d) (B.tied d i A.key A.other e))
        (cases (lt_z (s i) (s k)))

-- ---- the list
module _ (G : Grid) (n : ℕ) (S : ℕ → ℕ → ℤ) where
  -- one placing is first
  pub first-only : (p k q j : ℕ) → FirstPlace G n S p k → FirstPlace G n S q j → (p ≡ q) × (k ≡ j)
  first-only p k q j A B = ⊎_elim
      (λ e. (e, own-only G (S p) k j A.own (subst (λ (r : ℕ). OwnBest G (S r) j) (sym e) B.own)))
      (⊎_elim (λ l. clash (B.earliest p k l A.own.key) (A.greatest q j B.listed B.own.key)) (λ l. clash (A.earliest q j l B.own.key) (B.greatest p k A.listed A.own.key)))
      (apart p q)

  -- one placing is second to it
  pub second-only : (hn vn : ℕ) → Laws G hn vn → (p k q j r i : ℕ) → SecondPlace G n S p k q j → SecondPlace G n S p k r i → (q ≡ r) × (j ≡ i)
  second-only hn vn E p k q j r i A B = ⊎_elim
      (λ e. (e, inner (subst (λ (x : ℕ). SecondPlace G n S p k x i) (sym e) B)))
      (⊎_elim (λ l. clash (B.earliest q j l A.key A.other) (A.greatest r i B.listed B.key B.other)) (λ l. clash (A.earliest r i l B.key B.other) (B.greatest q j A.listed A.key A.other)))
      (apart q r)
    where
      inner : SecondPlace G n S p k q i → j ≡ i
      inner C = ⊎_elim
          (λ d. own-second-only G hn vn E (S q) k j i (A.inside d) (C.inside d))
          (λ d. own-only G (S q) j i (A.elsewhere d) (C.elsewhere d))
          (decided q p)

-- ---- the choice
-- the sums determine the choice
pub best-two-only : (L M n : ℕ) → Period L → Period M → (S : ℕ → ℕ → ℤ) (a b : SoftChoice) → BestTwo L M n S a → BestTwo L M n S b → a ≡ b
best-two-only L M n u v S a b A B =
    let f = first-only (origins L M) n S A.p A.k B.p B.k A.first B.first in
    let s = second-only (origins L M) n S (3 * L) (3 * M) (grid L M u v) B.p B.k A.q A.j B.q B.j (moved f.0 f.1) B.second in
    A.chosen ∙ ap₂ (λ (x y : SoftCandidate). Some (x, y)) (ap₂ (candidate_at M S) f.0 f.1) (ap₂ (candidate_at M S) s.0 s.1) ∙ sym B.chosen
  where
    moved : A.p ≡ B.p → A.k ≡ B.k → SecondPlace (origins L M) n S B.p B.k A.q A.j
    moved e d = subst (λ (x : ℕ). SecondPlace (origins L M) n S x B.k A.q A.j) e (subst (λ (x : ℕ). SecondPlace (origins L M) n S A.p x A.q A.j) d A.second)
