-- The theorem of soft selection: whatever tables are given, of sums of at most 2^53 in size, the choice of a list of at least one transform holds the first and the
-- second of all placings, by their whole sums. With BestPlacingUnique there is no other such choice.
use Rattle.std.specs.Prelude.{◌≡◌, cond, ◌⊎◌, eqb, ℤ, Some}
use Rattle.std.proofs.Math.Path.{refl, ap₂}
use Rattle.std.proofs.Common.{sym, ap, subst, ◌∙◌, inl, inr}
use Prim.Native.Nat.{ℕ, zero, suc, ◌*◌, ◌/◌, ◌%◌, ◌-◌, ◌<◌}
use native.Mathlib.Omega.{arith}
use Rattle.std.specs.Int.Signed.{lt_z}
use Rattle.std.specs.Float.Ieee.{lt}
use Rattle.laws.specs.Best.{Weak}
use Rattle.laws.specs.Words.{Grid, origins}
use Rattle.likelihood.specs.Likelihood.{dequantised}
use Rattle.best.specs.CellTables.{Period}
use Rattle.level.specs.Sums.{SumTables, SumsOk, sum_at}
use Rattle.pair.specs.Pair.{winner_of, second_of}
use Rattle.margin.specs.Choice.{choice_of, soft_chosen}
use Rattle.soft.specs.Scan.{soft_candidate, soft_offered, soft_empty, soft_folded, soft_selected}
use Rattle.soft.specs.ScanLaws.{folded-with, soft-selected-count}
use Rattle.soft.specs.SeparationLaws.{OnGrid, on-grid, sum-under}
use Rattle.soft.specs.SecondLaws.{winner-own, second-own}
use Rattle.soft.specs.BestPlacing.{OwnBest, Across, Down, OwnSecond, candidate_at, BestTwo}
use Rattle.soft.specs.SlotLaws.{above, SlotsIn, slots-two, slots-more}
use Rattle.soft.specs.PlaceLaws.{offers-weak, places}
use Rattle.margin.specs.declared.slots.SoftCandidate.{SoftCandidate}
use Rattle.margin.specs.declared.slots.SoftScan.{SoftScan}
use Rattle.margin.specs.Kinds.{SoftChoice}

-- ---- the offers: winner and second of each list position in turn
unfoldable pair_of : (ℕ → ℕ) → (ℕ → ℕ) → ℕ → ℕ
pair_of W R m = cond (eqb (m % 2) 0) (W (m / 2)) (R (m / 2))

unfoldable offer_of : ℕ → (ℕ → ℕ → ℤ) → (ℕ → ℕ) → (ℕ → ℕ) → ℕ → SoftCandidate
unfolding pair_of
offer_of M S W R m = candidate_at M S (m / 2) (pair_of W R m)

even-half : (r : ℕ) → (2 * r) / 2 ≡ r
even-half r = omega arith

even-rest : (r : ℕ) → (2 * r) % 2 ≡ 0
even-rest r = omega arith

odd-half : (r : ℕ) → suc (2 * r) / 2 ≡ r
odd-half r = omega arith

odd-rest : (r : ℕ) → suc (2 * r) % 2 ≡ 1
odd-rest r = omega arith

module _ (M : ℕ) (S : ℕ → ℕ → ℤ) (W R : ℕ → ℕ) where
  offer-even : (r : ℕ) → offer_of M S W R (2 * r) ≡ candidate_at M S r (W r)
  unfolding offer_of pair_of
  offer-even r = rw (even-half r, even-rest r)

  offer-odd : (r : ℕ) → offer_of M S W R (suc (2 * r)) ≡ candidate_at M S r (R r)
  unfolding offer_of pair_of
  offer-odd r = rw (odd-half r, odd-rest r)

-- ---- the tables of n list positions
module _ (L M : ℕ) (u : Period L) (v : Period M) (tab : ℕ → SumTables) (n : ℕ) (ok : (r : ℕ) → r < n → SumsOk L M (tab r).hs (tab r).vs) where
  -- the whole sum of a placing by its two cells, and the winner and the second of a position
  abbrev pub table_sum : ℕ → ℕ → ℤ
  table_sum r k = sum_at (origins L M) (tab r).hs (tab r).vs k

  abbrev W : ℕ → ℕ
  W r = winner_of (origins L M) (tab r).hs (tab r).vs

  abbrev R : ℕ → ℕ
  R r = second_of (origins L M) (tab r).hs (tab r).vs

  abbrev off : ℕ → SoftCandidate
  off = offer_of M table_sum W R

  board : (r : ℕ) → r < n → OnGrid (origins L M) (tab r).hs (tab r).vs
  board r l = on-grid L M u v (tab r).hs (tab r).vs (ok r l)

  weak : Weak (2 * n) (above off)
  weak = offers-weak M (origins L M) n table_sum W R (λ r l. winner-own (board r l)) (λ r l. second-own (board r l)) (λ r k l m. sum-under (board r l) k) off (offer-even M table_sum W R) (offer-odd M table_sum W R)

  -- ---- the scan
  -- a candidate is a placing with its total
  candidate-is : (r k : ℕ) → soft_candidate L M (tab r) r k ≡ candidate_at M table_sum r k
  unfolding soft_candidate
  candidate-is r k = refl

  folded-slots : (s : SoftScan) (r : ℕ) → s.count ≡ r → (m : ℕ) → SlotsIn off m (soft_offered (soft_offered s (off (2 * r))) (off (suc (2 * r)))) → SlotsIn off m (soft_folded L M (tab r) s)
  folded-slots s r e m h =
      subst (λ (x : SoftScan). SlotsIn off m x)
      (sym (folded-with L M (tab r) s (off (2 * r)) (off (suc (2 * r)))
      (ap (λ (c : ℕ). soft_candidate L M (tab r) c (W r)) e ∙ candidate-is r (W r) ∙ sym (offer-even M table_sum W R r))
      (ap (λ (c : ℕ). soft_candidate L M (tab r) c (R r)) e ∙ candidate-is r (R r) ∙ sym (offer-odd M table_sum W R r))))
      h

  scan-slots : (m : ℕ) → m < n → SlotsIn off (2 * suc m) (soft_selected L M tab (suc m))
  unfolding soft_selected soft_empty
  scan-slots zero l = folded-slots soft_empty 0 refl 2 (slots-two off (2 * n) weak (omega arith))
  scan-slots (suc m) l =
      let s = soft_selected L M tab (suc m) in
      let e : suc (suc (2 * suc m)) ≡ 2 * suc (suc m) = omega arith in
      let one = slots-more off (2 * n) weak (2 * suc m) (omega arith) s (scan-slots m (omega arith)) in
      let both = slots-more off (2 * n) weak (suc (2 * suc m)) (omega arith) (soft_offered s (off (2 * suc m))) one in
      folded-slots s (suc m) (soft-selected-count L M tab (suc m)) (2 * suc (suc m))
      (subst (λ (x : ℕ). SlotsIn off x (soft_offered (soft_offered s (off (2 * suc m))) (off (suc (2 * suc m))))) e both)

  -- after at least one transform
  full : 0 < n → SlotsIn off (2 * n) (soft_selected L M tab n)
  full l =
      let e : suc (n - 1) ≡ n = omega arith in
      subst (λ (x : ℕ). SlotsIn off (2 * x) (soft_selected L M tab x)) e (scan-slots (n - 1) (omega arith))

  -- the choice holds the first and the second of all placings, by the sums of their cells
  pub table-best : 0 < n → BestTwo L M n table_sum (soft_chosen (soft_selected L M tab n))
  unfolding soft_chosen
  table-best l =
      let s = soft_selected L M tab n in
      let P = places M (origins L M) n table_sum W R (λ r l. winner-own (board r l)) (λ r l. second-own (board r l)) (λ r k l m. sum-under (board r l) k) off (offer-even M table_sum W R) (offer-odd M table_sum W R) s.first s.second (full l) in
      record { p = P.p; k = P.k; q = P.q; j = P.j; chosen = ap₂ choice_of P.x_held P.y_held; first = P.first; second = P.second }

-- ---- the same sums, said another way
module _ (G : Grid) (s t : ℕ → ℤ) (e : (i : ℕ) → i < G.none → t i ≡ s i) where
  lt_same : (i j : ℕ) → i < G.none → j < G.none → lt_z (t i) (t j) ≡ lt_z (s i) (s j)
  lt_same i j l m = ap₂ lt_z (e i l) (e j m)

  own_same : (k : ℕ) → OwnBest G s k → OwnBest G t k
  own_same k A = record {
    key = A.key;
    largest = λ i l. lt_same k i A.key l ∙ A.largest i l;
    first = λ i l. lt_same i k (omega (arith, A.key)) A.key ∙ A.first i l;
  }

  alone-same : (k j : ℕ) → j < G.none → Across G s k j ⊎ Down G s k j → Across G t k j ⊎ Down G t k j
  alone-same k j m (inl a) = inl (record { shared = a.shared; first = λ i l n x y. lt_same i j l m ∙ a.first i l n x y })
  alone-same k j m (inr a) = inr (record { shared = a.shared; first = λ i l n x y. lt_same i j l m ∙ a.first i l n x y; greater = λ i l n x. lt_same i j l m ∙ a.greater i l n x })

  second-same : (k j : ℕ) → k < G.none → OwnSecond G s k j → OwnSecond G t k j
  second-same k j l A = record {
    key = A.key;
    other = A.other;
    largest = λ i m n. lt_same j i A.key m ∙ A.largest i m n;
    tied = λ h i m n d. A.tied (sym (lt_same j k A.key l) ∙ h) i m n (sym (lt_same i k m l) ∙ d);
    alone = λ h. alone-same k j A.key (A.alone (sym (lt_same j k A.key l) ∙ h));
  }

module _ (L M n : ℕ) (S T : ℕ → ℕ → ℤ) (e : (r k : ℕ) → r < n → k < 3 * L * (3 * M) → T r k ≡ S r k) (choice : SoftChoice) (B : BestTwo L M n S choice) where
  total-same : (r k : ℕ) → r < n → k < 3 * L * (3 * M) → dequantised (T r k) ≡ dequantised (S r k)
  total-same r k l m = ap dequantised (e r k l m)

  candidate-same : (r k : ℕ) → r < n → k < 3 * L * (3 * M) → candidate_at M S r k ≡ candidate_at M T r k
  candidate-same r k l m = rw (e r k l m)

  -- two ways of counting that agree have the same first and second
  pub best-two-same : BestTwo L M n T choice
  best-two-same =
      let a = B.first in
      let b = B.second in
      let f = a.own.key in
      let g = b.key in
      record {
        p = B.p;
        k = B.k;
        q = B.q;
        j = B.j;
        chosen = B.chosen ∙ ap₂ (λ (x y : SoftCandidate). Some (x, y)) (candidate-same B.p B.k a.listed f) (candidate-same B.q B.j b.listed g);
        first = record {
          listed = a.listed;
          own = own_same (origins L M) (S B.p) (T B.p) (λ i l. e B.p i a.listed l) B.k a.own;
          greatest = λ r i l m. ap₂ lt (total-same B.p B.k a.listed f) (total-same r i l m) ∙ a.greatest r i l m;
          earliest = λ r i l m. ap₂ lt (total-same r i (omega (arith, a.listed)) m) (total-same B.p B.k a.listed f) ∙ a.earliest r i l m;
        };
        second = record {
          listed = b.listed;
          key = g;
          other = b.other;
          greatest = λ r i l m n. ap₂ lt (total-same B.q B.j b.listed g) (total-same r i l m) ∙ b.greatest r i l m n;
          earliest = λ r i l m n. ap₂ lt (total-same r i (omega (arith, b.listed)) m) (total-same B.q B.j b.listed g) ∙ b.earliest r i l m n;
          elsewhere = λ n. own_same (origins L M) (S B.q) (T B.q) (λ i l. e B.q i b.listed l) B.j (b.elsewhere n);
          inside = λ z. second-same (origins L M) (S B.q) (T B.q) (λ i l. e B.q i b.listed l) B.k B.j f (b.inside z);
        };
      }

-- ---- the theorem: whatever the whole sums are counted by, where the tables hold them the choice is the best two placings
pub soft-best : (L M : ℕ) → Period L → Period M → (tab : ℕ → SumTables) (n : ℕ) → 0 < n → ((r : ℕ) → r < n → SumsOk L M (tab r).hs (tab r).vs)
    → (S : ℕ → ℕ → ℤ) → ((r k : ℕ) → r < n → k < 3 * L * (3 * M) → S r k ≡ sum_at (origins L M) (tab r).hs (tab r).vs k)
    → BestTwo L M n S (soft_chosen (soft_selected L M tab n))
soft-best L M u v tab n l ok S e = best-two-same L M n (λ r k. sum_at (origins L M) (tab r).hs (tab r).vs k) S e (soft_chosen (soft_selected L M tab n)) (table-best L M u v tab n ok l)
