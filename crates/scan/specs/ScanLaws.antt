-- What offering a candidate comes to, case by case, and what the runner-up is.
use Rattle.std.specs.Prelude.{◌≡◌, Bool, List, ◌⊎◌, ltb, Float, set, None, Some}
use Rattle.std.proofs.Math.Path.{refl, ap}
use Rattle.std.proofs.Common.{sym, ◌∙◌, inr, ⊎_elim, add-one, get_or-set_same, get_or-set_other}
use Rattle.std.proofs.Math.Bool.{true, false, cond}
use Rattle.std.proofs.Math.Logic.{inl}
use Prim.Native.Nat.{ℕ, zero, suc, ◌≤◌, ◌<◌}
use native.Mathlib.Omega.{arith}
use Rattle.std.proofs.Math.Dec.{eqb}
use Rattle.std.proofs.Math.ListN.{get_or, length, length-set, length-replicate}
use borrow.Author.Tests.{ltb-true, ltb-false, le-ltb, eqb-true, eqb-false, ne_eqb}
use Rattle.laws.specs.Tests.{clash, split}
use Rattle.scan.specs.Scan.{over_limit, takes, behind, replaced, offered_within, no_summary, empty_scan, pushed, stepped, runner_up_of}
use Rattle.scan.specs.declared.scan.Candidate.{Candidate}
use Rattle.scan.specs.declared.scan.TransformSummary.{TransformSummary}
use Rattle.scan.specs.declared.scan.RunnerUp.{RunnerUp}
use Rattle.scan.specs.declared.scan.HardScan.{HardScan}
use Rattle.scan.specs.Kinds.{Kept}

-- with fewer hits than the kept one it does not replace it
pub behind-left : (kept : Kept) (hits : ℕ) (score : Float) → behind kept hits ≡ true → takes kept hits score ≡ false
unfolding behind takes
behind-left None hits score e = clash refl (sym e)
behind-left (Some k) hits score e =
    let l : hits < k.hits = ltb-true hits k.hits e in
    rw (le-ltb k.hits hits (omega arith), ne_eqb hits k.hits (λ p. omega arith))

module _ (edges : ℕ) (limit : Float) (kept : Kept) (c : Candidate) where
  pub offered-over : over_limit edges limit c.hits ≡ true → offered_within edges limit kept c ≡ kept
  unfolding offered_within
  offered-over e = rw e

  pub offered-left : takes kept c.hits c.score ≡ false → offered_within edges limit kept c ≡ kept
  unfolding offered_within replaced
  offered-left e = rw e (go (over_limit edges limit c.hits))
    where
      go : (t : Bool) → cond t kept kept ≡ kept
      go true = refl
      go false = refl

  pub offered-taken : takes kept c.hits c.score ≡ true → over_limit edges limit c.hits ≡ false → offered_within edges limit kept c ≡ Some c
  unfolding offered_within replaced
  offered-taken e d = rw (d, e)

-- ---- transforms added one after the other: position p has the summary s p, whatever was kept
module _ (h : ℕ → HardScan) (s : ℕ → TransformSummary) (start : h 0 ≡ empty_scan) (next : (n : ℕ) → h (suc n) ≡ pushed (h n) (s n) (h (suc n)).best) where
  -- the count is the number of list positions
  pub pushed-count : (n : ℕ) → (h n).count ≡ n
  unfolding pushed empty_scan
  pushed-count zero = ap (λ (x : HardScan). x.count) start
  pushed-count (suc n) = ap (λ (x : HardScan). x.count) (next n) ∙ rw (pushed-count n) (add-one n)

  eight : (n : ℕ) → length (h n).summaries ≡ 8
  unfolding pushed empty_scan
  eight zero = ap (λ (x : HardScan). length x.summaries) start ∙ length-replicate 8 no_summary
  eight (suc n) = ap (λ (x : HardScan). length x.summaries) (next n) ∙ length-set (h n).summaries (h n).count (s n) ∙ eight n

  -- each position's summary stays where it was stored
  pub pushed-summary : (n p : ℕ) → p < n → n ≤ 8 → get_or (h n).summaries p no_summary ≡ s p
  unfolding pushed
  pushed-summary zero p l few = absurd (omega arith)
  pushed-summary (suc n) p l few = ap (λ (x : HardScan). get_or x.summaries p no_summary) (next n) ∙ rw (pushed-count n) (go (λ k. pushed-summary n p k (omega arith)) (split p n l))
    where
      apart : (i j : ℕ) → i < j → i ≡ j → ⊥
      apart i j k e = omega arith

      go : (p < n → get_or (h n).summaries p no_summary ≡ s p) → (p ≡ n) ⊎ (p < n) → get_or (set (h n).summaries n (s n)) p no_summary ≡ s p
      go ih (inl e) = rw e (get_or-set_same (h n).summaries n (s n) no_summary (omega (arith, eight n)))
      go ih (inr k) = get_or-set_other (h n).summaries n p (s n) no_summary (apart p n k) ∙ ih k

-- ---- the runner-up: at least what the winner's transform offers and what each other position has, and one of these
module _ (ss : List TransformSummary) (w : ℕ) where
  abbrev at : ℕ → TransformSummary
  at p = get_or ss p no_summary

  either : (r : RunnerUp) (s : TransformSummary) → ((stepped r s false ≡ s.best) × (r.hits < s.best.hits)) ⊎ ((stepped r s false ≡ r) × (s.best.hits ≤ r.hits))
  either r s = go (ltb r.hits s.best.hits) refl
    where
      go : (t : Bool) → ltb r.hits s.best.hits ≡ t → ((cond t s.best r ≡ s.best) × (r.hits < s.best.hits)) ⊎ ((cond t s.best r ≡ r) × (s.best.hits ≤ r.hits))
      go true e = inl (refl, ltb-true r.hits s.best.hits e)
      go false e = inr (refl, ltb-false r.hits s.best.hits e)

  -- one step: no fewer hits than before, nor than the other position has
  step-up : (r : RunnerUp) (s : TransformSummary) → (r.hits ≤ (stepped r s false).hits) × (s.best.hits ≤ (stepped r s false).hits)
  step-up r s = ⊎_elim (λ a. rw a.0 (omega (arith, a.1), omega arith)) (λ a. rw a.0 (omega arith, a.1)) (either r s)

  pub runner-up-own : (n : ℕ) → (at w).within.hits ≤ (runner_up_of ss w n).hits
  unfolding runner_up_of
  runner-up-own zero = omega arith
  runner-up-own (suc n) = go (eqb n w) (runner-up-own n)
    where
      go : (t : Bool) → (at w).within.hits ≤ (runner_up_of ss w n).hits → (at w).within.hits ≤ (stepped (runner_up_of ss w n) (at n) t).hits
      go true h = h
      go false h = omega (arith, (step-up (runner_up_of ss w n) (at n)).0)

  pub runner-up-other : (n p : ℕ) → p < n → (p ≡ w → ⊥) → (at p).best.hits ≤ (runner_up_of ss w n).hits
  unfolding runner_up_of
  runner-up-other zero p h ne = absurd (omega arith)
  runner-up-other (suc n) p h ne = go (eqb n w) refl (λ l. runner-up-other n p l ne) (split p n h)
    where
      go : (t : Bool) → eqb n w ≡ t → (p < n → (at p).best.hits ≤ (runner_up_of ss w n).hits) → (p ≡ n) ⊎ (p < n) → (at p).best.hits ≤ (stepped (runner_up_of ss w n) (at n) t).hits
      go true e ih (inl q) = absurd (ne (q ∙ eqb-true n w e))
      go true e ih (inr l) = ih l
      go false e ih (inl q) = rw q (step-up (runner_up_of ss w n) (at n)).1
      go false e ih (inr l) = omega (arith, ih l, (step-up (runner_up_of ss w n) (at n)).0)

  pub runner-up-is : (n : ℕ) → (runner_up_of ss w n ≡ (at w).within) ⊎ ((p : ℕ) × (p < n) × (p ≡ w → ⊥) × (runner_up_of ss w n ≡ (at p).best))
  unfolding runner_up_of
  runner-up-is zero = inl refl
  runner-up-is (suc n) = go (eqb n w) refl (runner-up-is n)
    where
      Is : ℕ → RunnerUp → Type 0
      Is m r = (r ≡ (at w).within) ⊎ ((p : ℕ) × (p < m) × (p ≡ w → ⊥) × (r ≡ (at p).best))

      later : (r : RunnerUp) → Is n r → Is (suc n) r
      later r (inl e) = inl e
      later r (inr u) = inr (u.0, omega (arith, u.1), u.2, u.3)

      go : (t : Bool) → eqb n w ≡ t → Is n (runner_up_of ss w n) → Is (suc n) (stepped (runner_up_of ss w n) (at n) t)
      go true e h = later (runner_up_of ss w n) h
      go false e h = ⊎_elim (λ a. inr (n, omega arith, eqb-false n w e, a.0)) (λ a. rw a.0 (later (runner_up_of ss w n) h)) (either (runner_up_of ss w n) (at n))
