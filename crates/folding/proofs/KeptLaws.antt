-- What is kept of the candidates that were offered: one of them, of most hits. A set of candidates is a predicate, so that rows, transforms and lists of
-- them compose.
use Rattle.std.specs.Prelude.{◌≡◌, Bool, true, false, cond, ◌&&◌, ◌⊎◌, ltb, eqb, Float, None, Some}
use Rattle.std.proofs.Math.Path.{refl, ap}
use Rattle.std.proofs.Common.{◌∙◌, inr, zero-add, ltb-true, ltb-false, eqb-true}
use Rattle.std.proofs.Math.Logic.{inl, ⊎_elim}
use Prim.Native.Nat.{ℕ, zero, suc, ◌+◌, ◌*◌, ◌≤◌, ◌<◌}
use native.Mathlib.Omega.{arith}
use Rattle.std.specs.Float.Ieee.{lt}
use Rattle.laws.specs.Tests.{clash, cases, compared, split, or-true, or-false, and-true}
use Rattle.laws.specs.Words.{origins}
use Rattle.best.specs.CellTables.{CellTables}
use Rattle.best.specs.Lex.{lex_of}
use Rattle.scan.specs.Scan.{over_limit, takes, replaced, offered_within, empty_scan, SoundKept, SoundScan}
use Rattle.direct.specs.Direct.{pair_hits, origin_candidate, tried}
use Rattle.folding.specs.Transform.{best_origin, best_hits, best_candidate, offered_by, selected, separation_product_cap}
use Rattle.folding.specs.TransformLaws.{by-none, by-direct, by-best, selected-none, selected-count, kept_at, selected-best}
use Rattle.best.specs.declared.lex.LexMax.{LexMax}
use Rattle.scan.specs.declared.scan.Candidate.{Candidate}
use Rattle.scan.specs.Kinds.{Kept}

-- of the candidates S: nobody where there is none, else one of them, and none has more hits
abbrev pub MostOf : (Candidate → Type 0) → Kept → Type 0
MostOf S None = (c : Candidate) → S c → ⊥
MostOf S (Some c) = S c × ((d : Candidate) → S d → d.hits ≤ c.hits)

-- the same set, said another way
pub most-same : (S S' : Candidate → Type 0) (o : Kept) → MostOf S o → ((x : Candidate) → S x → S' x) → ((x : Candidate) → S' x → S x) → MostOf S' o
most-same S S' None h up down = λ c s. h c (down c s)
most-same S S' (Some k) h up down = (up k h.0, λ d s. h.1 d (down d s))

-- one candidate more is offered
pub most-more : (S S' : Candidate → Type 0) (o : Kept) (d : Candidate) → MostOf S o → S' d → ((x : Candidate) → S x → S' x) → ((x : Candidate) → S' x → S x ⊎ (x ≡ d))
    → MostOf S' (replaced o d)
unfolding replaced takes
most-more S S' None d h new up down = (new, λ x s. ⊎_elim (λ a. absurd (h x a)) (λ a. rw a (omega arith)) (down x s))
most-more S S' (Some k) d h new up down = go (takes (Some k) d.hits d.score) refl
  where
    go : (t : Bool) → takes (Some k) d.hits d.score ≡ t → MostOf S' (cond t (Some d) (Some k))
    go true e =
        let l : k.hits ≤ d.hits = ⊎_elim
        (λ a. omega (arith, ltb-true k.hits d.hits a))
        (λ a. omega (arith, eqb-true d.hits k.hits (and-true (eqb d.hits k.hits) (lt k.score d.score) a).0))
        (or-true (ltb k.hits d.hits) (eqb d.hits k.hits && lt k.score d.score) e) in
        (new, λ x s. ⊎_elim (λ a. omega (arith, h.1 x a)) (λ a. rw a (omega arith)) (down x s))
    go false e =
        let l = ltb-false k.hits d.hits (or-false (ltb k.hits d.hits) (eqb d.hits k.hits && lt k.score d.score) e).0 in
        (up k h.0, λ x s. ⊎_elim (λ a. h.1 x a) (λ a. rw a l) (down x s))

module _ (L M edges : ℕ) (confidence limit : Float) where
  -- ---- the direct scan
  -- the candidate of one of n origins from the key `from` on, within the limit
  abbrev Tried : ℕ → CellTables → ℕ → ℕ → Candidate → Type 0
  Tried listed X from n c = (k : ℕ) × (k < n) × (over_limit edges limit (pair_hits (origins L M) X (from + k)) ≡ false) × (c ≡ origin_candidate L M edges confidence limit listed X (from + k))

  tried-most : (listed : ℕ) (X : CellTables) (S : Candidate → Type 0) (start : Kept) → MostOf S start → (from n : ℕ)
      → MostOf (λ c. S c ⊎ Tried listed X from n c) (tried L M edges confidence limit listed X from start n)
  unfolding tried offered_within origin_candidate
  tried-most listed X S start h from zero = most-same S (λ c. S c ⊎ Tried listed X from 0 c) start h (λ x s. inl s) (λ x s. ⊎_elim (λ a. a) (λ a. absurd (omega (arith, a.1))) s)
  tried-most listed X S start h from (suc n) = go (over_limit edges limit new.hits) refl (tried-most listed X S start h from n)
    where
      new : Candidate
      new = origin_candidate L M edges confidence limit listed X (from + n)

      old : Kept
      old = tried L M edges confidence limit listed X from start n

      Before : Candidate → Type 0
      Before c = S c ⊎ Tried listed X from n c

      After : Candidate → Type 0
      After c = S c ⊎ Tried listed X from (suc n) c

      up : (x : Candidate) → Before x → After x
      up x (inl s) = inl s
      up x (inr t) = inr (t.0, omega (arith, t.1), t.2, t.3)

      -- what is new is the last of them
      down : (x : Candidate) → After x → Before x ⊎ ((x ≡ new) × (over_limit edges limit new.hits ≡ false))
      down x (inl s) = inl (inl s)
      down x (inr t) = ⊎_elim
          (λ e. inr (t.3 ∙ ap (λ (k : ℕ). origin_candidate L M edges confidence limit listed X (from + k)) e, rw e at t.2))
          (λ l. inl (inr (t.0, l, t.2, t.3)))
          (split t.0 n t.1)

      go : (t : Bool) → over_limit edges limit new.hits ≡ t → MostOf Before old → MostOf After (cond t old (replaced old new))
      go true e ih = most-same Before After old ih up (λ x s. ⊎_elim (λ a. a) (λ a. clash e a.1) (down x s))
      go false e ih =
          most-more Before After old new ih (inr (n, omega arith, e, refl)) up
          (λ x s. ⊎_elim inl (λ a. inr a.0) (down x s))

  -- the candidate of one of all origins, within the limit
  abbrev pub Among : ℕ → CellTables → Candidate → Type 0
  Among listed X c = (k : ℕ) × (k < 3 * L * (3 * M)) × (over_limit edges limit (pair_hits (origins L M) X k) ≡ false) × (c ≡ origin_candidate L M edges confidence limit listed X k)

  among : (listed : ℕ) (X : CellTables) (c : Candidate) → Tried listed X 0 (3 * L * (3 * M)) c → Among listed X c
  among listed X c t = (t.0, t.1, rw (zero-add t.0) at t.2, rw (zero-add t.0) at t.3)

  among-tried : (listed : ℕ) (X : CellTables) (c : Candidate) → Among listed X c → Tried listed X 0 (3 * L * (3 * M)) c
  among-tried listed X c t = (t.0, t.1, rw (zero-add t.0) t.2, rw (zero-add t.0) t.3)

  -- ---- one transform
  -- a candidate of the transform at a list position: its best origin, or from 1,025 optimal pairs on one of its origins within the limit
  abbrev pub Offers : ℕ → CellTables → Candidate → Type 0
  Offers listed X c =
      let a = lex_of X.hc X.hw in
      let b = lex_of X.vc X.vw in
      (over_limit edges limit (best_hits a b) ≡ false)
      × (((a.optimal * b.optimal ≤ separation_product_cap) × (c ≡ best_candidate M confidence listed a b (best_origin (origins L M) X)))
      ⊎ ((separation_product_cap < a.optimal * b.optimal) × Among listed X c))

  transform-most : (listed : ℕ) (X : CellTables) (S : Candidate → Type 0) (kept : Kept) → MostOf S kept
      → MostOf (λ c. S c ⊎ Offers listed X c) (offered_by L M edges confidence limit listed X (lex_of X.hc X.hw) (lex_of X.vc X.vw) (best_origin (origins L M) X) kept)
  transform-most listed X S kept h = ⊎_elim none-offered (λ e. ⊎_elim (scanned e) (single e) (compared separation_product_cap (a.optimal * b.optimal))) (cases (over_limit edges limit (best_hits a b)))
    where
      a : LexMax
      a = lex_of X.hc X.hw

      b : LexMax
      b = lex_of X.vc X.vw

      first : ℕ
      first = best_origin (origins L M) X

      After : Candidate → Type 0
      After c = S c ⊎ Offers listed X c

      none-offered : over_limit edges limit (best_hits a b) ≡ true → MostOf After (offered_by L M edges confidence limit listed X a b first kept)
      none-offered e =
          rw (by-none L M edges confidence limit listed X a b first kept e)
          (most-same S After kept h (λ x s. inl s) (λ x s. ⊎_elim (λ t. t) (λ t. clash e t.0) s))

      scanned : over_limit edges limit (best_hits a b) ≡ false → separation_product_cap < a.optimal * b.optimal → MostOf After (offered_by L M edges confidence limit listed X a b first kept)
      scanned e l =
          rw (by-direct L M edges confidence limit listed X a b first kept e l)
          (most-same (λ c. S c ⊎ Tried listed X 0 (3 * L * (3 * M)) c) After (tried L M edges confidence limit listed X 0 kept (3 * L * (3 * M))) (tried-most listed X S kept h 0 (3 * L * (3 * M)))
          (λ x s. ⊎_elim inl (λ t. inr (e, inr (l, among listed X x t))) s)
          (λ x s. ⊎_elim inl (λ t. ⊎_elim (λ u. absurd (omega (arith, u.0))) (λ u. inr (among-tried listed X x u.1)) t.1) s))

      single : over_limit edges limit (best_hits a b) ≡ false → a.optimal * b.optimal ≤ separation_product_cap → MostOf After (offered_by L M edges confidence limit listed X a b first kept)
      single e l =
          rw (by-best L M edges confidence limit listed X a b first kept e l)
          (most-more S After kept (best_candidate M confidence listed a b first) h (inr (e, inl (l, refl))) (λ x s. inl s)
          (λ x s. ⊎_elim inl (λ t. ⊎_elim (λ u. inr u.1) (λ u. absurd (omega (arith, u.0))) t.1) s))

  -- ---- the list
  module _ (ts : ℕ → ℕ) (tab : ℕ → CellTables) where
    -- a candidate of one of the first n list positions
    abbrev pub Listed : ℕ → Candidate → Type 0
    Listed n c = (p : ℕ) × (p < n) × Offers p (tab p) c

    pub kept-most : (n : ℕ) → MostOf (Listed n) (selected L M edges confidence limit ts tab n).best
    unfolding empty_scan
    kept-most zero = rw (selected-none L M edges confidence limit ts tab) (λ c s. omega (arith, s.1))
    kept-most (suc n) =
        rw (selected-best L M edges confidence limit ts tab n)
        (most-same (λ c. Listed n c ⊎ Offers n (tab n) c) (Listed (suc n)) (kept_at L M edges confidence limit tab n (selected L M edges confidence limit ts tab n).best) (transform-most n (tab n) (Listed n) (selected L M edges confidence limit ts tab n).best (kept-most n)) up down)
      where
        up : (x : Candidate) → Listed n x ⊎ Offers n (tab n) x → Listed (suc n) x
        up x (inl s) = (s.0, omega (arith, s.1), s.2)
        up x (inr s) = (n, omega arith, s)

        down : (x : Candidate) → Listed (suc n) x → Listed n x ⊎ Offers n (tab n) x
        down x s = ⊎_elim (λ e. inr (rw e at s.2)) (λ l. inl (s.0, l, s.2)) (split s.0 n s.1)

    -- a candidate stands at the list position that offered it
    pub offers-place : (p : ℕ) (c : Candidate) → Offers p (tab p) c → c.placing.listed ≡ p
    unfolding origin_candidate
    offers-place p c o = ⊎_elim (λ u. ap (λ (d : Candidate). d.placing.listed) u.1) (λ u. ap (λ (d : Candidate). d.placing.listed) u.1.3) o.1

    -- so the scan is one that `finish` takes
    pub selected-sound : (n : ℕ) → n ≤ 8 → SoundScan (selected L M edges confidence limit ts tab n)
    selected-sound n l = rw (selected-count L M edges confidence limit ts tab n) (l, go (selected L M edges confidence limit ts tab n).best (kept-most n))
      where
        go : (o : Kept) → MostOf (Listed n) o → SoundKept o n
        go None h = tt
        go (Some c) h = omega (arith, h.0.1, offers-place h.0.0 c h.0.2)
