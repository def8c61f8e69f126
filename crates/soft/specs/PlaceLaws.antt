-- From offers to placings: of n list positions each winner and then each second is offered, and first and second place are then first and second of all
-- placings, offered or not.
use Rattle.std.specs.Prelude.{◌≡◌, true, false, ◌⊎◌, ℕ, suc, ◌*◌, ◌/◌, ◌%◌, ◌≤◌, ◌<◌, ℤ, Some}
use Rattle.std.proofs.Common.{sym, ap, ap₂, subst, ◌∙◌, inl, inr, ⊎_elim, arith}
use Rattle.std.specs.Float.Ieee.{lt}
use Rattle.laws.specs.Tests.{clash, split, decided}
use Rattle.laws.specs.Best.{Weak}
use Rattle.laws.specs.Words.{Grid}
use Rattle.likelihood.specs.Likelihood.{dequantised}
use Rattle.soft.specs.TotalOrderLaws.{Small, total_mono, total-less-not, total-not-less, total-less-through}
use Rattle.soft.specs.BestPlacing.{OwnBest, OwnSecond, FirstPlace, SecondPlace, candidate_at}
use Rattle.soft.specs.SlotLaws.{above, Slots}
use Rattle.margin.specs.declared.slots.SoftCandidate.{SoftCandidate}
use Rattle.margin.specs.Kinds.{Slot}

-- x holds first place and y second place, of all placings
pub record Places (M : ℕ) (G : Grid) (n : ℕ) (S : ℕ → ℕ → ℤ) (x y : Slot) : Type 0 where
  pub p : ℕ
  pub k : ℕ
  pub q : ℕ
  pub j : ℕ
  pub x_held : x ≡ Some (candidate_at M S p k)
  pub y_held : y ≡ Some (candidate_at M S q j)
  pub first : FirstPlace G n S p k
  pub second : SecondPlace G n S p k q j

-- an offer is a winner's or a second's
parity : (m : ℕ) → ((r : ℕ) × (m ≡ 2 * r)) ⊎ ((r : ℕ) × (m ≡ suc (2 * r)))
parity m = ⊎_elim (λ e. inr (m / 2, omega arith)) (λ l. inl (m / 2, omega arith)) (split (m % 2) 1 (omega arith))

-- position r has the winner W r and the second R r, offered one after the other
module _ (M : ℕ) (G : Grid) (n : ℕ) (S : ℕ → ℕ → ℤ) (W R : ℕ → ℕ)
    (own : (r : ℕ) → r < n → OwnBest G (S r) (W r)) (run : (r : ℕ) → r < n → OwnSecond G (S r) (W r) (R r)) (small : (r k : ℕ) → r < n → k < G.none → Small (S r k))
    (off : ℕ → SoftCandidate) (even : (r : ℕ) → off (2 * r) ≡ candidate_at M S r (W r)) (odd : (r : ℕ) → off (suc (2 * r)) ≡ candidate_at M S r (R r)) where
  w-small : (r : ℕ) → r < n → Small (S r (W r))
  w-small r l = small r (W r) l (own r l).key

  r_small : (r : ℕ) → r < n → Small (S r (R r))
  r_small r l = small r (R r) l (run r l).key

  even-total : (r : ℕ) → (off (2 * r)).total ≡ dequantised (S r (W r))
  even-total r = ap (λ (c : SoftCandidate). c.total) (even r)

  odd-total : (r : ℕ) → (off (suc (2 * r))).total ≡ dequantised (S r (R r))
  odd-total r = ap (λ (c : SoftCandidate). c.total) (odd r)

  -- each offer's total is that of a small sum
  from : (m : ℕ) → m < 2 * n → (z : ℤ) × Small z × ((off m).total ≡ dequantised z)
  from m l = ⊎_elim
      (λ o. (S o.0 (W o.0), w-small o.0 (omega (arith, o.1)), rw o.1 (even-total o.0)))
      (λ o. (S o.0 (R o.0), r_small o.0 (omega (arith, o.1)), rw o.1 (odd-total o.0)))
      (parity m)

  pub offers-weak : Weak (2 * n) (above off)
  offers-weak = record {
    asym = λ i j hi hj h.
        let a = from i hi in
        let b = from j hj in
        ap₂ lt a.2 b.2 ∙ total-less-not b.0 a.0 b.1 a.1 (sym (ap₂ lt b.2 a.2) ∙ h);
    neg = λ i j k hi hj hk h g.
        let a = from i hi in
        let b = from j hj in
        let c = from k hk in
        ap₂ lt b.2 a.2 ∙ total-less-through b.0 c.0 a.0 b.1 c.1 a.1 (sym (ap₂ lt c.2 a.2) ∙ h) (sym (ap₂ lt c.2 b.2) ∙ g);
  }

  -- no origin of a transform has a greater total than its winner, and none but the winner a greater one than its second
  under-winner : (r i : ℕ) → r < n → i < G.none → lt (dequantised (S r (W r))) (dequantised (S r i)) ≡ false
  under-winner r i l m = total_mono (S r (W r)) (S r i) (w-small r l) (small r i l m) ((own r l).largest i m)

  under-second : (r i : ℕ) → r < n → i < G.none → (i ≡ W r → ⊥) → lt (dequantised (S r (R r))) (dequantised (S r i)) ≡ false
  under-second r i l m ne = total_mono (S r (R r)) (S r i) (r_small r l) (small r i l m) ((run r l).largest i m ne)

  module _ (x y : Slot) (F : Slots off (2 * n) x y) where
    -- ---- first place is held by a winner
    first-even : (r : ℕ) × (F.f ≡ 2 * r)
    first-even = ⊎_elim (λ o. o) (λ o. let l : o.0 < n = omega (arith, F.f_in, o.1) in clash (late o.0 o.1) (under-winner o.0 (R o.0) l (run o.0 l).key)) (parity F.f)
      where
        late : (r : ℕ) → F.f ≡ suc (2 * r) → lt (dequantised (S r (W r))) (dequantised (S r (R r))) ≡ true
        late r e = sym (ap₂ lt (even-total r) (ap (λ (m : ℕ). (off m).total) e ∙ odd-total r)) ∙ F.early (2 * r) (omega arith)

    abbrev P : ℕ
    P = first-even.0

    P-in : P < n
    P-in = omega (arith, F.f_in, first-even.1)

    first-total : (off F.f).total ≡ dequantised (S P (W P))
    first-total = ap (λ (m : ℕ). (off m).total) first-even.1 ∙ even-total P

    first-place : FirstPlace G n S P (W P)
    first-place = record {
      listed = P-in;
      own = own P P-in;
      greatest = λ r i l m.
          total-not-less (S P (W P)) (S r (W r)) (S r i) (w-small P P-in) (w-small r l) (small r i l m)
          (sym (ap₂ lt first-total (even-total r)) ∙ F.top (2 * r) (omega arith)) (under-winner r i l m);
      earliest = λ r i l m.
          let k : r < n = omega (arith, P-in) in
          total-less-through (S r i) (S r (W r)) (S P (W P)) (small r i k m) (w-small r k) (w-small P P-in)
          (sym (ap₂ lt (even-total r) first-total) ∙ F.early (2 * r) (omega (arith, first-even.1))) (under-winner r i k m);
    }

    -- a winner's offer that is not first is no placing but the first
    even-other : (r i : ℕ) → i ≡ W r → ((r ≡ P) × (i ≡ W P) → ⊥) → 2 * r ≡ F.f → ⊥
    even-other r i e ne z = let d : r ≡ P = omega (arith, first-even.1) in ne (d, e ∙ ap W d)

    odd-other : (r : ℕ) → suc (2 * r) ≡ F.f → ⊥
    odd-other r z = omega (arith, first-even.1)

    -- ---- second place, held by (q, j)
    module _ (q j : ℕ) (q-in : q < n) (j-in : j < G.none) (held : (off F.g).total ≡ dequantised (S q j)) (late : 2 * q ≤ F.g) where
      s-small : Small (S q j)
      s-small = small q j q-in j-in

      not-over : (r i : ℕ) → r < n → i < G.none → ((r ≡ P) × (i ≡ W P) → ⊥) → lt (dequantised (S q j)) (dequantised (S r i)) ≡ false
      not-over r i l m ne = ⊎_elim
          (λ e. rw e (sym (ap₂ lt held (even-total r)) ∙ F.second_top (2 * r) (omega arith) (even-other r i e ne)))
          (λ d. total-not-less (S q j) (S r (R r)) (S r i) s-small (r_small r l) (small r i l m) (sym (ap₂ lt held (odd-total r)) ∙ F.second_top (suc (2 * r)) (omega arith) (odd-other r)) (under-second r i l m d))
          (decided i (W r))

      under : (r i : ℕ) → r < q → i < G.none → ((r ≡ P) × (i ≡ W P) → ⊥) → lt (dequantised (S r i)) (dequantised (S q j)) ≡ true
      under r i l m ne =
          let k : r < n = omega (arith, q-in) in
          ⊎_elim
          (λ e. rw e (sym (ap₂ lt (even-total r) held) ∙ F.second-early (2 * r) (omega arith) (even-other r i e ne)))
          (λ d. total-less-through (S r i) (S r (R r)) (S q j) (small r i k m) (r_small r k) s-small (sym (ap₂ lt (odd-total r) held) ∙ F.second-early (suc (2 * r)) (omega arith) (odd-other r)) (under-second r i k m d))
          (decided i (W r))

      second-place : ((q ≡ P) × (j ≡ W P) → ⊥) → ((q ≡ P → ⊥) → OwnBest G (S q) j) → (q ≡ P → OwnSecond G (S q) (W P) j) → SecondPlace G n S P (W P) q j
      second-place other elsewhere inside = record { listed = q-in; key = j-in; other = other; greatest = not-over; earliest = under; elsewhere = elsewhere; inside = inside }

    -- by the winner of another position
    by-winner : (r : ℕ) → F.g ≡ 2 * r → SecondPlace G n S P (W P) r (W r)
    by-winner r e =
        let l : r < n = omega (arith, F.g_in) in
        second-place r (W r) l (own r l).key (ap (λ (m : ℕ). (off m).total) e ∙ even-total r) (omega arith)
        (λ z. not_first z.0) (λ n. own r l) (λ z. absurd (not_first z))
      where
        not_first : r ≡ P → ⊥
        not_first z = F.two (omega (arith, first-even.1))

    -- or by the second of the first's
    by-second : (r : ℕ) → F.g ≡ suc (2 * r) → SecondPlace G n S P (W P) r (R r)
    by-second r e =
        let l : r < n = omega (arith, F.g_in) in
        second-place r (R r) l (run r l).key (ap (λ (m : ℕ). (off m).total) e ∙ odd-total r) (omega arith)
        (λ z. (run r l).other (z.1 ∙ ap W (sym z.0))) (λ z. clash (winner-less z) (under-winner r (R r) l (run r l).key)) (λ z. subst (λ (k : ℕ). OwnSecond G (S r) k (R r)) (ap W z) (run r l))
      where
        winner-less : (r ≡ P → ⊥) → lt (dequantised (S r (W r))) (dequantised (S r (R r))) ≡ true
        winner-less z =
            sym (ap₂ lt (even-total r) (ap (λ (m : ℕ). (off m).total) e ∙ odd-total r))
            ∙ F.second-early (2 * r) (omega arith) (λ d. let c : r ≡ P = omega (arith, first-even.1) in z c)

    -- ---- both
    x-is : x ≡ Some (candidate_at M S P (W P))
    x-is = F.first ∙ ap (λ (m : ℕ). Some (off m)) first-even.1 ∙ ap Some (even P)

    pub places : Places M G n S x y
    places = ⊎_elim
        (λ o. record {
          p = P;
          k = W P;
          q = o.0;
          j = W o.0;
          x_held = x-is;
          y_held = F.second ∙ ap (λ (m : ℕ). Some (off m)) o.1 ∙ ap Some (even o.0);
          first = first-place;
          second = by-winner o.0 o.1;
        })
        (λ o. record {
          p = P;
          k = W P;
          q = o.0;
          j = R o.0;
          x_held = x-is;
          y_held = F.second ∙ ap (λ (m : ℕ). Some (off m)) o.1 ∙ ap Some (odd o.0);
          first = first-place;
          second = by-second o.0 o.1;
        })
        (parity F.g)
