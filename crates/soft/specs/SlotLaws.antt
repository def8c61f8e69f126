-- First and second place after any number of offers: the earliest offer of greatest total, and the earliest of greatest total of the others.
use Rattle.std.specs.Prelude.{◌≡◌, Bool, true, false, cond, ◌⊎◌, ℕ, suc, ◌≤◌, ◌<◌, Some}
use Rattle.std.proofs.Math.Path.{refl}
use Rattle.std.proofs.Common.{subst, ◌∙◌, arith}
use Rattle.std.proofs.Math.Logic.{inl, inr, ⊎_elim}
use Rattle.std.specs.Float.Ieee.{lt}
use Rattle.laws.specs.Tests.{split}
use Rattle.laws.specs.Best.{Weak, irrefl}
use Rattle.soft.specs.Scan.{yields, soft_offered, soft_empty}
use Rattle.soft.specs.ScanLaws.{offer-first, offer-second, offer-none}
use Rattle.margin.specs.declared.slots.SoftCandidate.{SoftCandidate}
use Rattle.margin.specs.declared.slots.SoftScan.{SoftScan}
use Rattle.margin.specs.Kinds.{Slot}

-- offer i has a strictly greater total than offer j
abbrev pub above : (ℕ → SoftCandidate) → ℕ → ℕ → Bool
above off i j = lt (off j).total (off i).total

-- of the first n offers, f holds first place x and g second place y
pub record Slots (off : ℕ → SoftCandidate) (n : ℕ) (x y : Slot) : Type 0 where
  pub f : ℕ
  pub g : ℕ
  pub f_in : f < n
  pub g_in : g < n
  pub two : g ≡ f → ⊥
  pub first : x ≡ Some (off f)
  pub second : y ≡ Some (off g)
  pub top : (j : ℕ) → j < n → above off j f ≡ false
  pub early : (j : ℕ) → j < f → above off f j ≡ true
  pub second_top : (j : ℕ) → j < n → (j ≡ f → ⊥) → above off j g ≡ false
  pub second-early : (j : ℕ) → j < g → (j ≡ f → ⊥) → above off g j ≡ true

-- the places of a scan
abbrev pub SlotsIn : (ℕ → SoftCandidate) → ℕ → SoftScan → Type 0
SlotsIn off n s = Slots off n s.first s.second

module _ (off : ℕ → SoftCandidate) (N : ℕ) (W : Weak N (above off)) where
  same : (i : ℕ) → i < N → above off i i ≡ false
  same = irrefl (above off) N W

  -- ---- the first two offers
  pub slots-two : 2 ≤ N → SlotsIn off 2 (soft_offered (soft_offered soft_empty (off 0)) (off 1))
  unfolding soft_offered soft_empty yields
  slots-two le = go (lt (off 0).total (off 1).total) refl
    where
      zero-or-one : (j : ℕ) → j < 2 → (j ≡ 0) ⊎ (j ≡ 1)
      zero-or-one j h = ⊎_elim (λ e. inr e) (λ l. inl (omega arith)) (split j 1 h)

      go : (t : Bool) → lt (off 0).total (off 1).total ≡ t
          → SlotsIn off 2 (cond t (record { first = Some (off 1); second = Some (off 0); count = 0 }) (record { first = Some (off 0); second = Some (off 1); count = 0 }))
      go true e = record {
        f = 1;
        g = 0;
        f_in = omega arith;
        g_in = omega arith;
        two = λ z. omega arith;
        first = refl;
        second = refl;
        top = λ j h. ⊎_elim (λ z. rw z (W.asym 1 0 (omega arith) (omega arith) e)) (λ z. rw z (same 1 (omega arith))) (zero-or-one j h);
        early = λ j h. let z : j ≡ 0 = omega arith in rw z e;
        second_top = λ j h ne. ⊎_elim (λ z. rw z (same 0 (omega arith))) (λ z. absurd (ne z)) (zero-or-one j h);
        second-early = λ j h ne. absurd (omega arith);
      }
      go false e = record {
        f = 0;
        g = 1;
        f_in = omega arith;
        g_in = omega arith;
        two = λ z. omega arith;
        first = refl;
        second = refl;
        top = λ j h. ⊎_elim (λ z. rw z (same 0 (omega arith))) (λ z. rw z e) (zero-or-one j h);
        early = λ j h. absurd (omega arith);
        second_top = λ j h ne. ⊎_elim (λ z. absurd (ne z)) (λ z. rw z (same 1 (omega arith))) (zero-or-one j h);
        second-early = λ j h ne. let z : j ≡ 0 = omega arith in absurd (ne z);
      }

  -- ---- one offer more
  module _ (n : ℕ) (hn : n < N) (s : SoftScan) (S : SlotsIn off n s) where
    -- n is above what i is not below, where it is above i
    over : (i j : ℕ) → i < n → j < n → above off n i ≡ true → above off j i ≡ false → above off n j ≡ true
    over i j hi hj p q = W.neg n j i hn (omega arith) (omega arith) p q

    at_slot : (x : Slot) (i : ℕ) → x ≡ Some (off i) → yields x (off n).total ≡ above off n i
    unfolding yields
    at_slot x i e = rw e

    pub slots-more : SlotsIn off (suc n) (soft_offered s (off n))
    slots-more = go (above off n S.f) (above off n S.g) refl refl
      where
        first-yields : (t : Bool) → above off n S.f ≡ t → yields s.first (off n).total ≡ t
        first-yields t e = at_slot s.first S.f S.first ∙ e

        second-yields : (t : Bool) → above off n S.g ≡ t → yields s.second (off n).total ≡ t
        second-yields t e = at_slot s.second S.g S.second ∙ e

        go : (t u : Bool) → above off n S.f ≡ t → above off n S.g ≡ u → SlotsIn off (suc n) (soft_offered s (off n))
        go true u e d = subst (λ (x : SoftScan). SlotsIn off (suc n) x) (offer-first s (off n) (first-yields true e)) (record {
          f = n;
          g = S.f;
          f_in = omega arith;
          g_in = omega (arith, S.f_in);
          two = λ z. omega (arith, S.f_in);
          first = refl;
          second = S.first;
          top = λ j h. ⊎_elim (λ z. rw z (same n hn)) (λ l. W.asym n j hn (omega arith) (over S.f j S.f_in l e (S.top j l))) (split j n h);
          early = λ j h. over S.f j S.f_in h e (S.top j h);
          second_top = λ j h ne. ⊎_elim (λ z. absurd (ne z)) (λ l. S.top j l) (split j n h);
          second-early = λ j h ne. S.early j h;
        })
        go false true e d = subst (λ (x : SoftScan). SlotsIn off (suc n) x) (offer-second s (off n) (first-yields false e) (second-yields true d)) (record {
          f = S.f;
          g = n;
          f_in = omega (arith, S.f_in);
          g_in = omega arith;
          two = λ z. omega (arith, S.f_in);
          first = S.first;
          second = refl;
          top = λ j h. ⊎_elim (λ z. rw z e) (λ l. S.top j l) (split j n h);
          early = S.early;
          second_top = λ j h ne. ⊎_elim (λ z. rw z (same n hn)) (λ l. W.asym n j hn (omega arith) (over S.g j S.g_in l d (S.second_top j l ne))) (split j n h);
          second-early = λ j h ne. over S.g j S.g_in h d (S.second_top j h ne);
        })
        go false false e d = subst (λ (x : SoftScan). SlotsIn off (suc n) x) (offer-none s (off n) (first-yields false e) (second-yields false d)) (record {
          f = S.f;
          g = S.g;
          f_in = omega (arith, S.f_in);
          g_in = omega (arith, S.g_in);
          two = S.two;
          first = S.first;
          second = S.second;
          top = λ j h. ⊎_elim (λ z. rw z e) (λ l. S.top j l) (split j n h);
          early = S.early;
          second_top = λ j h ne. ⊎_elim (λ z. rw z d) (λ l. S.second_top j l ne) (split j n h);
          second-early = S.second-early;
        })
