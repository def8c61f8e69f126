-- There is one right outcome, and it depends on the hits of the placings alone.
use Rattle.std.specs.Prelude.{◌≡◌, refl, ℕ, ◌<◌, Float}
use Rattle.std.proofs.Common.{sym, ap, ap₂, ◌∙◌, ⊎_elim, arith}
use Rattle.laws.specs.Tests.{clash, decided}
use Rattle.scan.specs.Scan.{over_limit}
use Rattle.hard.specs.Placings.{Outcome, none-within-limit, not-far-ahead, found, Sole, MostOther, Right}

module _ (n none edges : ℕ) (limit : Float) (hit : ℕ → ℕ → ℕ) where
  -- at most one placing is ahead of every other
  pub sole-only : (p k q j : ℕ) → Sole n none edges limit hit p k → Sole n none edges limit hit q j → (p ≡ q) × (k ≡ j)
  sole-only p k q j S R = ⊎_elim (λ e. ⊎_elim (λ d. (e, d)) (λ d. absurd (both (λ x. d (sym x.1)))) (decided k j)) (λ e. absurd (both (λ x. e (sym x.0)))) (decided p q)
    where
      both : ((q ≡ p) × (j ≡ k) → ⊥) → ⊥
      both ne = omega (arith, S.ahead q j R.listed R.key ne, R.ahead p k S.listed S.key (λ x. ne (sym x.0, sym x.1)))

  -- the most hits of any other placing is one number
  pub most-other-one : (p k r s : ℕ) → MostOther n none edges limit hit p k r → MostOther n none edges limit hit p k s → r ≡ s
  most-other-one p k r s A B =
      let a = A.reached in
      let b = B.reached in
      omega (arith, a.5, b.5, B.most a.0 a.1 a.2 a.3 a.4, A.most b.0 b.1 b.2 b.3 b.4)

  pub right_unique : (u v : Outcome) → Right n none edges limit hit u → Right n none edges limit hit v → u ≡ v
  right_unique none-within-limit none-within-limit a b = refl
  right_unique none-within-limit not-far-ahead a b = let w = b.0 in clash (a w.0 w.1 w.2 w.3) w.4
  right_unique none-within-limit (found p k h r) a b = let S = b.0 in clash (a p k S.listed S.key) S.allowed
  right_unique not-far-ahead none-within-limit a b = let w = a.0 in clash (b w.0 w.1 w.2 w.3) w.4
  right_unique not-far-ahead not-far-ahead a b = refl
  right_unique not-far-ahead (found p k h r) a b = absurd (a.1 p k b.0)
  right_unique (found p k h r) none-within-limit a b = let S = a.0 in clash (b p k S.listed S.key) S.allowed
  right_unique (found p k h r) not-far-ahead a b = absurd (b.1 p k a.0)
  right_unique (found p k h r) (found q j g s) a b =
      let o = sole-only p k q j a.0 b.0 in
      let e : h ≡ g = a.1 ∙ ap₂ hit o.0 o.1 ∙ sym b.1 in
      let d : r ≡ s = most-other-one q j r s (rw (o.0, o.1) at a.2) b.2 in
      rw (o.0, o.1, e, d)

-- ---- hits that are counted in two ways, and agree on every placing
module _ (n none edges : ℕ) (limit : Float) (hit hit' : ℕ → ℕ → ℕ) (same : (p k : ℕ) → p < n → k < none → hit p k ≡ hit' p k) where
  pub sole-ext : (p k : ℕ) → Sole n none edges limit hit p k → Sole n none edges limit hit' p k
  sole-ext p k S = record {
    listed = S.listed;
    key = S.key;
    allowed = ap (over_limit edges limit) (sym (same p k S.listed S.key)) ∙ S.allowed;
    ahead = λ q j hq hj ne. omega (arith, S.ahead q j hq hj ne, same q j hq hj, same p k S.listed S.key);
  }

  pub most-other-ext : (p k r : ℕ) → MostOther n none edges limit hit p k r → MostOther n none edges limit hit' p k r
  most-other-ext p k r m =
      let w = m.reached in
      record {
        reached = (w.0, w.1, w.2, w.3, w.4, sym (same w.0 w.1 w.2 w.3) ∙ w.5);
        most = λ q j hq hj ne. omega (arith, m.most q j hq hj ne, same q j hq hj);
      }

pub right-ext : (n none edges : ℕ) (limit : Float) (hit hit' : ℕ → ℕ → ℕ) → ((p k : ℕ) → p < n → k < none → hit p k ≡ hit' p k)
    → (o : Outcome) → Right n none edges limit hit o → Right n none edges limit hit' o
right-ext n none edges limit hit hit' same none-within-limit h = λ p k hp hk. ap (over_limit edges limit) (sym (same p k hp hk)) ∙ h p k hp hk
right-ext n none edges limit hit hit' same not-far-ahead h =
    let w = h.0 in (
      (w.0, w.1, w.2, w.3, ap (over_limit edges limit) (sym (same w.0 w.1 w.2 w.3)) ∙ w.4),
      λ p k S. h.1 p k (sole-ext n none edges limit hit' hit (λ i j hi hj. sym (same i j hi hj)) p k S),
    )
right-ext n none edges limit hit hit' same (found p k hits runner-up) h =
    (sole-ext n none edges limit hit hit' same p k h.0, h.1 ∙ same p k h.0.listed h.0.key, most-other-ext n none edges limit hit hit' same p k runner-up h.2)
