-- What is kept of the numbers below n is the winner and the runner-up (`walk-leads`).
use Rattle.std.specs.Prelude.{◌≡◌, Bool, cond, ◌&&◌}
use Rattle.std.proofs.Math.Path.{refl}
use Rattle.std.proofs.Common.{sym, ap, subst, ◌∙◌}
use Rattle.std.proofs.Math.Bool.{true, false}
use Rattle.std.proofs.Math.Logic.{⊎_elim}
use Prim.Native.Nat.{ℕ, zero, suc, ◌+◌, ◌≤◌, ◌<◌}
use native.Mathlib.Omega.{arith}
use Rattle.std.proofs.Math.Dec.{eqb, ltb}
use borrow.Author.Tests.{ltb-true, ltb-false, eqb-true, eqb-false}
use Rattle.laws.specs.Tests.{clash, decided, split}
use Rattle.values.specs.Values.{hits_of}
use Rattle.values.specs.ValuesLaws.{more-hits}
use Rattle.part_scan.specs.declared.kept.Offer.{Offer}
use Rattle.part_scan.specs.declared.kept.PartKept.{PartKept}
use Rattle.part_scan.specs.declared.kept.PartKept.TheVariants.{Nobody, One, Two}
use Rattle.part_scan.specs.Kept.{hits_in, second_of, next_of, offered_one, offered_two, offered, walked, Wins, RunsUp, Leads}

module _ (inside : ℕ → Bool) (value : ℕ → ℕ) where
  -- ---- a number that is not inside changes nothing
  wins-skip : (n : ℕ) (w : Offer) → inside n ≡ false → Wins inside value n w → Wins inside value (suc n) w
  wins-skip n w o W = record {
    under = omega (arith, W.under);
    here = W.here;
    at = W.at;
    most = λ k l t. ⊎_elim (λ e. clash (sym (ap inside e) ∙ t) o) (λ m. W.most k m t) (split k n l);
    first = λ k l t v. ⊎_elim (λ e. clash (sym (ap inside e) ∙ t) o) (λ m. W.first k m t v) (split k n l);
  }

  runs_skip : (n m : ℕ) (r : Offer) → inside n ≡ false → RunsUp inside value n m r → RunsUp inside value (suc n) m r
  runs_skip n m r o R = record {
    under = omega (arith, R.under);
    here = R.here;
    at = R.at;
    other = R.other;
    most = λ k l t d. ⊎_elim (λ e. clash (sym (ap inside e) ∙ t) o) (λ b. R.most k b t d) (split k n l);
    first = λ k l t d v. ⊎_elim (λ e. clash (sym (ap inside e) ∙ t) o) (λ b. R.first k b t d v) (split k n l);
  }

  skips : (n : ℕ) (S : PartKept) → inside n ≡ false → Leads inside value n S → Leads inside value (suc n) S
  skips n Nobody o L = λ k l t. ⊎_elim (λ e. clash (sym (ap inside e) ∙ t) o) (λ m. L k m t) (split k n l)
  skips n (One w) o L = (wins-skip n w o L.0, λ k l t. ⊎_elim (λ e. clash (sym (ap inside e) ∙ t) o) (λ m. L.1 k m t) (split k n l))
  skips n (Two w r) o L = (wins-skip n w o L.0, runs_skip n w.number r o L.1)

  -- ---- a number that is inside, as an offer
  module _ (n : ℕ) (t : inside n ≡ true) where
    abbrev c : Offer
    c = record { value = value n; number = n }

    -- it has a greater value, and wins
    new-wins : (w : Offer) → Wins inside value n w → w.value < value n → Wins inside value (suc n) c
    new-wins w W g = record {
      under = omega arith;
      here = t;
      at = refl;
      most = λ k l i. ⊎_elim (λ e. omega (arith, ap value e)) (λ m. omega (arith, W.most k m i)) (split k n l);
      first = λ k l i v. ⊎_elim (λ e. omega arith) (λ m. absurd (omega (arith, W.most k m i))) (split k n l);
    }

    -- it has no greater value, and the winner stays
    old-wins : (w : Offer) → Wins inside value n w → value n ≤ w.value → Wins inside value (suc n) w
    old-wins w W g = record {
      under = omega (arith, W.under);
      here = W.here;
      at = W.at;
      most = λ k l i. ⊎_elim (λ e. omega (arith, ap value e)) (λ m. W.most k m i) (split k n l);
      first = λ k l i v. ⊎_elim (λ e. omega (arith, W.under)) (λ m. W.first k m i v) (split k n l);
    }

    -- the first number inside
    first-wins : ((k : ℕ) → k < n → inside k ≡ true → ⊥) → Wins inside value (suc n) c
    first-wins none = record {
      under = omega arith;
      here = t;
      at = refl;
      most = λ k l i. ⊎_elim (λ e. omega (arith, ap value e)) (λ m. absurd (none k m i)) (split k n l);
      first = λ k l i v. ⊎_elim (λ e. omega arith) (λ m. absurd (none k m i)) (split k n l);
    }

    -- ---- the runner-up
    -- the only number so far, behind a new winner
    one-behind : (w : Offer) → Wins inside value n w → ((k : ℕ) → k < n → inside k ≡ true → k ≡ w.number) → RunsUp inside value (suc n) n w
    one-behind w W only = record {
      under = omega (arith, W.under);
      here = W.here;
      at = W.at;
      other = λ e. omega (arith, W.under);
      most = λ k l i d. ⊎_elim (λ e. absurd (d e)) (λ m. more-hits (value k) w.value (W.most k m i)) (split k n l);
      first = λ k l i d v. ⊎_elim (λ e. absurd (d e)) (λ m. omega (arith, only k m i)) (split k n l);
    }

    -- the new number, behind the only one so far
    new-behind : (w : Offer) → Wins inside value n w → ((k : ℕ) → k < n → inside k ≡ true → k ≡ w.number) → RunsUp inside value (suc n) w.number c
    new-behind w W only = record {
      under = omega arith;
      here = t;
      at = refl;
      other = λ e. omega (arith, W.under);
      most = λ k l i d. ⊎_elim (λ e. omega (arith, ap (λ (x : ℕ). hits_of (value x)) e)) (λ m. absurd (d (only k m i))) (split k n l);
      first = λ k l i d v. ⊎_elim (λ e. omega arith) (λ m. absurd (d (only k m i))) (split k n l);
    }

    -- the old winner, behind a new one: where the old runner-up has fewer hits or stands later
    winner-behind : (w r : Offer) → Wins inside value n w → RunsUp inside value n w.number r → (hits_in w ≡ hits_in r → w.number ≤ r.number) → RunsUp inside value (suc n) n w
    winner-behind w r W R later = record {
      under = omega (arith, W.under);
      here = W.here;
      at = W.at;
      other = λ e. omega (arith, W.under);
      most = λ k l i d. ⊎_elim (λ e. absurd (d e)) (λ m. more-hits (value k) w.value (W.most k m i)) (split k n l);
      first = λ k l i d v. ⊎_elim (λ e. absurd (d e)) (λ m. early k m i v) (split k n l);
    }
      where
        early : (k : ℕ) → k < n → inside k ≡ true → hits_of (value k) ≡ hits_in w → w.number ≤ k
        early k m i v = ⊎_elim (λ e. omega (arith, e)) (λ d. behind (R.most k m i d) (more-hits r.value w.value (subst (λ (x : ℕ). x ≤ w.value) (sym R.at) (W.most r.number R.under R.here))) d) (decided k w.number)
          where
            behind : hits_of (value k) ≤ hits_in r → hits_in r ≤ hits_in w → (k ≡ w.number → ⊥) → w.number ≤ k
            behind a b d =
                let e : hits_in w ≡ hits_in r = omega (arith, a, b, v) in
                omega (arith, later e, R.first k m i d (v ∙ e))

    -- the old runner-up, behind a new winner: where it has as many hits as the old winner, and stands earlier
    runner-behind : (w r : Offer) → Wins inside value n w → RunsUp inside value n w.number r → hits_in w ≡ hits_in r → r.number < w.number → RunsUp inside value (suc n) n r
    runner-behind w r W R h b = record {
      under = omega (arith, R.under);
      here = R.here;
      at = R.at;
      other = λ e. omega (arith, R.under);
      most = λ k l i d. ⊎_elim (λ e. absurd (d e)) (λ m. omega (arith, h, more-hits (value k) w.value (W.most k m i))) (split k n l);
      first = λ k l i d v. ⊎_elim (λ e. absurd (d e)) (λ m. ⊎_elim (λ e. omega (arith, e, b)) (λ f. R.first k m i f v) (decided k w.number)) (split k n l);
    }

    -- the new number, which has more hits than the old runner-up, and does not win
    new-next : (w r : Offer) → Wins inside value n w → RunsUp inside value n w.number r → hits_in r < hits_of (value n) → RunsUp inside value (suc n) w.number c
    new-next w r W R g = record {
      under = omega arith;
      here = t;
      at = refl;
      other = λ e. omega (arith, W.under);
      most = λ k l i d. ⊎_elim (λ e. omega (arith, ap (λ (x : ℕ). hits_of (value x)) e)) (λ m. omega (arith, R.most k m i d, g)) (split k n l);
      first = λ k l i d v. ⊎_elim (λ e. omega arith) (λ m. absurd (omega (arith, R.most k m i d, g, v))) (split k n l);
    }

    -- the old runner-up, where the new number has no more hits
    old-next : (w r : Offer) → RunsUp inside value n w.number r → hits_of (value n) ≤ hits_in r → RunsUp inside value (suc n) w.number r
    old-next w r R g = record {
      under = omega (arith, R.under);
      here = R.here;
      at = R.at;
      other = R.other;
      most = λ k l i d. ⊎_elim (λ e. omega (arith, g, ap (λ (x : ℕ). hits_of (value x)) e)) (λ m. R.most k m i d) (split k n l);
      first = λ k l i d v. ⊎_elim (λ e. omega (arith, R.under)) (λ m. R.first k m i d v) (split k n l);
    }

    -- ---- put together
    second-right : (w r : Offer) → Wins inside value n w → RunsUp inside value n w.number r → RunsUp inside value (suc n) n (second_of w r)
    unfolding second_of
    second-right w r W R = go (eqb (hits_in w) (hits_in r)) (ltb r.number w.number) refl refl
      where
        go : (a b : Bool) → eqb (hits_in w) (hits_in r) ≡ a → ltb r.number w.number ≡ b → RunsUp inside value (suc n) n (cond (a && b) r w)
        go true true e d = runner-behind w r W R (eqb-true (hits_in w) (hits_in r) e) (ltb-true r.number w.number d)
        go true false e d = winner-behind w r W R (λ h. ltb-false r.number w.number d)
        go false b e d = winner-behind w r W R (λ h. absurd (eqb-false (hits_in w) (hits_in r) e h))

    next-right : (w r : Offer) → Wins inside value n w → RunsUp inside value n w.number r → RunsUp inside value (suc n) w.number (next_of r c)
    unfolding next_of
    next-right w r W R = go (ltb (hits_in r) (hits_in c)) refl
      where
        go : (a : Bool) → ltb (hits_in r) (hits_in c) ≡ a → RunsUp inside value (suc n) w.number (cond a c r)
        go true e = new-next w r W R (ltb-true (hits_in r) (hits_in c) e)
        go false e = old-next w r R (ltb-false (hits_in r) (hits_in c) e)

    offers : (S : PartKept) → Leads inside value n S → Leads inside value (suc n) (offered S c)
    unfolding offered_one offered_two
    offers Nobody L = (first-wins L, λ k l i. ⊎_elim (λ e. e) (λ m. absurd (L k m i)) (split k n l))
    offers (One w) L = go (ltb w.value (value n)) refl
      where
        go : (a : Bool) → ltb w.value (value n) ≡ a → Leads inside value (suc n) (cond a (Two c w) (Two w c))
        go true e = (new-wins w L.0 (ltb-true w.value (value n) e), one-behind w L.0 L.1)
        go false e = (old-wins w L.0 (ltb-false w.value (value n) e), new-behind w L.0 L.1)
    offers (Two w r) L = go (ltb w.value (value n)) refl
      where
        go : (a : Bool) → ltb w.value (value n) ≡ a → Leads inside value (suc n) (cond a (Two c (second_of w r)) (Two w (next_of r c)))
        go true e = (new-wins w L.0 (ltb-true w.value (value n) e), second-right w r L.0 L.1)
        go false e = (old-wins w L.0 (ltb-false w.value (value n) e), next-right w r L.0 L.1)

  -- WHAT IS KEPT OF THE NUMBERS BELOW n IS THE WINNER AND THE RUNNER-UP
  pub walk-leads : (n : ℕ) → Leads inside value n (walked inside value Nobody 0 n)
  unfolding walked
  walk-leads zero = λ k l t. omega arith
  walk-leads (suc n) = let z : 0 + n ≡ n = omega arith in rw z (go (inside n) refl (walk-leads n))
    where
      go : (a : Bool) → inside n ≡ a → Leads inside value n (walked inside value Nobody 0 n) → Leads inside value (suc n) (cond a (offered (walked inside value Nobody 0 n) (record { value = value n; number = n })) (walked inside value Nobody 0 n))
      go true e L = offers n e (walked inside value Nobody 0 n) L
      go false e L = skips n (walked inside value Nobody 0 n) e L
