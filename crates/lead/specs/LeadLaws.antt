-- What the lead over n + 1 list positions is, by the hits of every placing: the first placing with most hits, the most hits of any other, and the first position that has another with them.
use Rattle.std.specs.Prelude.{◌≡◌, refl, Bool, true, false, cond, List, ◌⊎◌, ltb, get_or, length}
use Rattle.std.proofs.Common.{sym, ap, ap₂, ◌∙◌, inl, inr, ⊎_elim, arith, ltb-true, ltb-false}
use Prim.Native.Nat.{ℕ, zero, suc, ◌+◌, ◌-◌, ◌≤◌, ◌<◌}
use Rattle.laws.specs.Tests.{split, decided}
use Rattle.laws.specs.Words.{origins}
use Rattle.board.specs.Hits.{EdgeList, Board}
use Rattle.board.specs.Sides.{period_of}
use Rattle.board.specs.Domain.{BoardOk}
use Rattle.lead.specs.declared.Peak.{Peak}
use Rattle.lead.specs.declared.Lead.{Lead}
use Rattle.lead.specs.Lead.{started, merged, lead_after, peaks}
use Rattle.lead.specs.PeakLaws.{IsPeak, key_hits, peak}

-- n positions with the keys below `none`
pub record Leading (n none : ℕ) (hit : ℕ → ℕ → ℕ) (S : Lead) : Type 0 where
  pub listed_in : S.listed < n
  pub key_in : S.key < none
  pub at : hit S.listed S.key ≡ S.best
  pub under : S.next ≤ S.best
  pub others : (q j : ℕ) → q < n → j < none → ((q ≡ S.listed) × (j ≡ S.key) → ⊥) → hit q j ≤ S.next
  pub from_in : S.from < n
  pub had : (j : ℕ) × (j < none) × ((S.from ≡ S.listed) × (j ≡ S.key) → ⊥) × (hit S.from j ≡ S.next)
  pub first : (q j : ℕ) → q < S.listed → j < none → hit q j < S.best
  pub early : (q j : ℕ) → q < S.from → j < none → ((q ≡ S.listed) × (j ≡ S.key) → ⊥) → hit q j < S.next

module _ (none : ℕ) (hit : ℕ → ℕ → ℕ) where
  lead-starts : (P : Peak) → IsPeak none (hit 0) P → Leading 1 none hit (started P)
  lead-starts P I = record {
    listed_in = omega arith;
    key_in = I.key_in;
    at = I.at;
    under = I.under;
    others = λ q j h k ne. let z : q ≡ 0 = omega arith in rw z (I.others j k (λ e. ne (z, e)));
    from_in = omega arith;
    had = let w = I.had in (w.0, w.1, (λ x. w.2 x.1), w.3);
    first = λ q j h k. absurd (omega arith);
    early = λ q j h k ne. absurd (omega arith);
  }

  -- a placing of the positions so far has at most the best
  best_of_lem : (n : ℕ) (S : Lead) → Leading n none hit S → (q j : ℕ) → q < n → j < none → hit q j ≤ S.best
  best_of_lem n S A q j h k = go (decided q S.listed) (decided j S.key)
    where
      go : (q ≡ S.listed) ⊎ (q ≡ S.listed → ⊥) → (j ≡ S.key) ⊎ (j ≡ S.key → ⊥) → hit q j ≤ S.best
      go (inl e) (inl d) = omega (arith, ap₂ hit e d, A.at)
      go (inl e) (inr d) = omega (arith, A.others q j h k (λ x. d x.1), A.under)
      go (inr e) d = omega (arith, A.others q j h k (λ x. e x.0), A.under)

  peak-of : (n : ℕ) (P : Peak) → IsPeak none (hit n) P → (j : ℕ) → j < none → hit n j ≤ P.best
  peak-of n P I j k = ⊎_elim (λ e. omega (arith, ap (hit n) e, I.at)) (λ e. omega (arith, I.others j k e, I.under)) (decided j P.key)

  lead-more : (n : ℕ) (S : Lead) (P : Peak) → Leading n none hit S → IsPeak none (hit n) P → Leading (suc n) none hit (merged S n P)
  lead-more n S P A I = go (ltb S.best P.best) (ltb S.best P.next) (ltb S.next P.best) refl refl refl
    where
      go : (a b c : Bool) → ltb S.best P.best ≡ a → ltb S.best P.next ≡ b → ltb S.next P.best ≡ c
          → Leading (suc n) none hit
          (cond a
          (cond b
          (record { best = P.best; listed = n; key = P.key; next = P.next; from = n })
          (record { best = P.best; listed = n; key = P.key; next = S.best; from = S.listed }))
          (cond c
          (record { best = S.best; listed = S.listed; key = S.key; next = P.best; from = n })
          S))
      go true true c e d f =
          let m = ltb-true S.best P.next d in
          record {
            listed_in = omega arith;
            key_in = I.key_in;
            at = I.at;
            under = I.under;
            others = λ q j h k ne. ⊎_elim (λ z. rw z (I.others j k (λ x. ne (z, x)))) (λ l. omega (arith, best_of_lem n S A q j l k, m)) (split q n h);
            from_in = omega arith;
            had = let w = I.had in (w.0, w.1, (λ x. w.2 x.1), w.3);
            first = λ q j h k. omega (arith, best_of_lem n S A q j h k, ltb-true S.best P.best e);
            early = λ q j h k ne. omega (arith, best_of_lem n S A q j h k, m);
          }
      go true false c e d f =
          let m = ltb-false S.best P.next d in
          record {
            listed_in = omega arith;
            key_in = I.key_in;
            at = I.at;
            under = omega (arith, ltb-true S.best P.best e);
            others = λ q j h k ne. ⊎_elim (λ z. rw z (omega (arith, I.others j k (λ x. ne (z, x)), m))) (λ l. best_of_lem n S A q j l k) (split q n h);
            from_in = omega (arith, A.listed_in);
            had = (S.key, A.key_in, (λ x. omega (arith, x.0, A.listed_in)), A.at);
            first = λ q j h k. omega (arith, best_of_lem n S A q j h k, ltb-true S.best P.best e);
            early = λ q j h k ne. A.first q j h k;
          }
      go false b true e d f =
          let m = ltb-true S.next P.best f in
          record {
            listed_in = omega (arith, A.listed_in);
            key_in = A.key_in;
            at = A.at;
            under = ltb-false S.best P.best e;
            others = λ q j h k ne. ⊎_elim (λ z. rw z (peak-of n P I j k)) (λ l. omega (arith, A.others q j l k ne, m)) (split q n h);
            from_in = omega arith;
            had = (P.key, I.key_in, (λ x. omega (arith, x.0, A.listed_in)), I.at);
            first = A.first;
            early = λ q j h k ne. omega (arith, A.others q j h k ne, m);
          }
      go false b false e d f =
          let m = ltb-false S.next P.best f in
          record {
            listed_in = omega (arith, A.listed_in);
            key_in = A.key_in;
            at = A.at;
            under = A.under;
            others = λ q j h k ne. ⊎_elim (λ z. rw z (omega (arith, peak-of n P I j k, m))) (λ l. A.others q j l k ne) (split q n h);
            from_in = omega (arith, A.from_in);
            had = A.had;
            first = A.first;
            early = A.early;
          }

  lead_after_lem : (P : ℕ → Peak) → ((p : ℕ) → IsPeak none (hit p) (P p)) → (n : ℕ) → Leading (suc n) none hit (lead_after P n)
  unfolding lead_after
  lead_after_lem P h zero = lead-starts (P 0) (h 0)
  lead_after_lem P h (suc n) = lead-more (suc n) (lead_after P n) (P (suc n)) (lead_after_lem P h n) (h (suc n))

-- ---- of a board, a list and its transforms: THE LEAD IS WHAT IT SAYS, by the hits of every placing
pub leading : (B : Board) (E : EdgeList) (ts : List ℕ) → BoardOk B → 0 < length ts
    → Leading (length ts) (origins (period_of B true) (period_of B false)).none (λ p k. key_hits B E (get_or ts p 0) k) (lead_after (peaks B E ts) (length ts - 1))
leading B E ts ok some =
    let e : suc (length ts - 1) ≡ length ts = omega arith in
    rw e at (lead_after_lem (origins (period_of B true) (period_of B false)).none (λ p k. key_hits B E (get_or ts p 0) k) (peaks B E ts) (λ p. peak B E (get_or ts p 0) ok) (length ts - 1))

-- ---- one position more
pub lead-next : (P : ℕ → Peak) (p : ℕ) (S r : Lead) (x : Peak) → 0 < p → S ≡ lead_after P (p - 1) → x ≡ P p → r ≡ merged S p x → r ≡ lead_after P (p + 1 - 1)
unfolding lead_after
lead-next P zero S r x some e q k = absurd (omega arith)
lead-next P (suc p) S r x some e q k =
    let z : suc p - 1 ≡ p = omega arith in
    let y : suc p + 1 - 1 ≡ suc p = omega arith in
    k ∙ ap₂ (λ (a : Lead) (b : Peak). merged a (suc p) b) (e ∙ ap (lead_after P) z) q ∙ sym (ap (lead_after P) y)

pub lead-first : (P : ℕ → Peak) (r : Lead) (x : Peak) → x ≡ P 0 → r ≡ started x → r ≡ lead_after P (1 - 1)
unfolding lead_after
lead-first P r x e k = k ∙ ap started e
