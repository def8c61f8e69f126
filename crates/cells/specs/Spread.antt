-- A list in which n places, e 0, .., e (n - 1), had something added each, and no other place changed.
use Rattle.std.specs.Prelude.{◌≡◌, refl, ◌⊎◌, List, ℕ, ◌+◌, ◌-◌, ◌≤◌, ◌<◌, length, get_or, set}
use Rattle.std.proofs.Common.{sym, ap, ap₂, subst, ◌∙◌, inl, inr, arith, length-set, get_or-set_same, get_or-set_other}
use Rattle.laws.specs.Tests.{compared, split}
use Rattle.laws.specs.Zone.{Zone}

module _ {A : Type 0} (d : A) (op : A → A → A) where
  pub record Spread (e : ℕ → ℕ) (T : ℕ → A) (n : ℕ) (old new : List A) : Type 0 where
    pub len : length new ≡ length old
    pub front : (j : ℕ) → j < n → get_or new (e j) d ≡ op (get_or old (e j) d) (T j)
    pub rest : (k : ℕ) → ((j : ℕ) → j < n → k ≡ e j → ⊥) → get_or new k d ≡ get_or old k d

  -- what adding T 0, .., T (n - 1) at the places e 0, .., e (n - 1) asks: the places are there, no two are one, and each takes what it is given
  pub record Fits (takes : A → A → Type 0) (e : ℕ → ℕ) (T : ℕ → A) (n : ℕ) (l : List A) : Type 0 where
    pub inside : (j : ℕ) → j < n → e j < length l
    pub apart : (i j : ℕ) → i < n → j < n → e i ≡ e j → i ≡ j
    pub taken : (j : ℕ) → j < n → takes (get_or l (e j) d) (T j)

  pub spread_none : (e : ℕ → ℕ) (T : ℕ → A) (l : List A) → Spread e T 0 l l
  spread_none e T l = record { len = refl; front = λ j h. absurd (none j h); rest = λ k h. refl }
    where
      none : (j : ℕ) → j < 0 → ⊥
      none j h = omega arith

  pub spread-ext : (e e' : ℕ → ℕ) (T T' : ℕ → A) (n : ℕ) (old new : List A) → ((j : ℕ) → j < n → e j ≡ e' j) → ((j : ℕ) → j < n → T j ≡ T' j)
      → Spread e T n old new → Spread e' T' n old new
  spread-ext e e' T T' n old new p q s = record {
    len = s.len;
    front = λ j h. ap (λ x. get_or new x d) (sym (p j h)) ∙ s.front j h ∙ ap₂ (λ x y. op (get_or old x d) y) (p j h) (q j h);
    rest = λ k h. s.rest k (λ j l r. h j l (r ∙ p j l));
  }

  -- n places, and m more
  pub spread-then : (e : ℕ → ℕ) (T : ℕ → A) (n m : ℕ) (old mid new : List A) → ((i j : ℕ) → i < n + m → j < n + m → e i ≡ e j → i ≡ j)
      → Spread e T n old mid → Spread (λ j. e (n + j)) (λ j. T (n + j)) m mid new → Spread e T (n + m) old new
  spread-then e T n m old mid new inj s u = record {
    len = u.len ∙ s.len;
    front = λ j h. at j h (compared j n);
    rest = λ k h. u.rest k (λ j l r. h (n + j) (omega arith) r) ∙ s.rest k (λ j l r. h j (omega arith) r);
  }
    where
      apart : (i j : ℕ) → i < n → j < m → e i ≡ e (n + j) → ⊥
      apart i j h l q = let z = inj i (n + j) (omega arith) (omega arith) q in omega arith

      at : (j : ℕ) → j < n + m → (j < n) ⊎ (n ≤ j) → get_or new (e j) d ≡ op (get_or old (e j) d) (T j)
      at j h (inl l) = u.rest (e j) (λ i b q. apart j i l b q) ∙ s.front j l
      at j h (inr l) =
          let i = j - n in
          let q : n + i ≡ j = omega arith in
          let b : i < m = omega arith in
          ap (λ x. get_or new (e x) d) (sym q)
          ∙ u.front i b
          ∙ ap (λ x. op x (T (n + i))) (s.rest (e (n + i)) (λ a b' r. apart a i b' b (sym r)))
          ∙ ap (λ x. op (get_or old (e x) d) (T x)) q

  -- one place more
  pub spread-more : (e : ℕ → ℕ) (T : ℕ → A) (n : ℕ) (old new : List A) (x : A) → Spread e T n old new → ((j : ℕ) → j < n → e n ≡ e j → ⊥) → e n < length old → x ≡ T n
      → Spread e T (n + 1) old (set new (e n) (op (get_or new (e n) d) x))
  spread-more e T n old new x s apart room q = record {
    len = length-set new (e n) _ ∙ s.len;
    front = λ j h. at j (split j n (omega arith));
    rest = λ k h. get_or-set_other new (e n) k _ d (h n (omega arith)) ∙ s.rest k (λ j l r. h j (omega arith) r);
  }
    where
      at : (j : ℕ) → (j ≡ n) ⊎ (j < n) → get_or (set new (e n) (op (get_or new (e n) d) x)) (e j) d ≡ op (get_or old (e j) d) (T j)
      at j (inl r) = rw r (get_or-set_same new (e n) _ d (omega (arith, s.len)) ∙ ap₂ op (s.rest (e n) apart) q)
      at j (inr l) = get_or-set_other new (e n) (e j) _ d (λ r. apart j l (sym r)) ∙ s.front j l

  -- the places are those of a zone, in an order of their own: `place j` is the zone's place that is the j-th, `turn k` when place k has its turn
  pub spread-zone : (place turn : ℕ → ℕ) (at n : ℕ) (T : ℕ → A) (old new : List A)
      → ((j : ℕ) → j < n → place j < n) → ((k : ℕ) → k < n → (turn k < n) × (place (turn k) ≡ k))
      → Spread (λ j. at + place j) T n old new → Zone d (λ k. op (get_or old (at + k) d) (T (turn k))) at n old new
  spread-zone place turn at n T old new inside back s = record {
    len = s.len;
    inside = λ k h.
        let e : at + place (turn k) ≡ at + k = ap (λ x. at + x) (back k h).1 in
        ap (λ x. get_or new x d) (sym e) ∙ s.front (turn k) (back k h).0 ∙ ap (λ x. op (get_or old x d) (T (turn k))) e;
    below = λ k h. s.rest k (λ j l r. omega arith);
    above = λ k h. s.rest k (λ j l r. omega (arith, inside j l));
  }

  -- the same places in another order: the j-th is the one that was the `turn j`-th, and `back` finds each of them
  module _ (e e' : ℕ → ℕ) (T T' : ℕ → A) (n : ℕ) (turn back : ℕ → ℕ) (to : (j : ℕ) → j < n → (turn j < n) × (back (turn j) ≡ j)) (from : (i : ℕ) → i < n → (back i < n) × (turn (back i) ≡ i))
      (places : (j : ℕ) → j < n → e (turn j) ≡ e' j) (terms : (j : ℕ) → j < n → T (turn j) ≡ T' j) where
    pub fits-perm : (takes : A → A → Type 0) (l : List A) → Fits takes e T n l → Fits takes e' T' n l
    fits-perm takes l F = record {
      inside = λ j h. subst (λ x. x < length l) (places j h) (F.inside (turn j) (to j h).0);
      apart = λ i j h m r. sym (to i h).1 ∙ ap back (F.apart (turn i) (turn j) (to i h).0 (to j m).0 (places i h ∙ r ∙ sym (places j m))) ∙ (to j m).1;
      taken = λ j h. subst (λ x. takes (get_or l x d) (T' j)) (places j h) (subst (takes (get_or l (e (turn j)) d)) (terms j h) (F.taken (turn j) (to j h).0));
    }

    pub spread-perm : (old new : List A) → Spread e' T' n old new → Spread e T n old new
    spread-perm old new s = record {
      len = s.len;
      front = λ i h.
          let b = from i h in
          let p : e i ≡ e' (back i) = ap e (sym b.1) ∙ places (back i) b.0 in
          let t : T' (back i) ≡ T i = sym (terms (back i) b.0) ∙ ap T b.1 in
          ap (λ x. get_or new x d) p ∙ s.front (back i) b.0 ∙ ap₂ (λ x y. op (get_or old x d) y) (sym p) t;
      rest = λ k h. s.rest k (λ j l r. h (turn j) (to j l).0 (r ∙ sym (places j l)));
    }

  -- where n additions fit and the first q are made
  module _ (takes : A → A → Type 0) (e : ℕ → ℕ) (T : ℕ → A) (n : ℕ) (old : List A) (F : Fits takes e T n old) (q : ℕ) (mid : List A) (s : Spread e T q old mid) where
    -- a later place is as it was
    fresh : (j : ℕ) → q ≤ j → j < n → get_or mid (e j) d ≡ get_or old (e j) d
    fresh j a h = s.rest (e j) (λ i l r. let z = F.apart j i h (omega arith) r in omega arith)

    -- the next m, said in their own way
    module _ (e' : ℕ → ℕ) (T' : ℕ → A) (m : ℕ) (room : q + m ≤ n) (places : (j : ℕ) → j < m → e (q + j) ≡ e' j) (terms : (j : ℕ) → j < m → T (q + j) ≡ T' j) where
      -- they fit
      pub fits_next : Fits takes e' T' m mid
      fits_next = record {
        inside = λ j h. subst (λ x. x < length mid) (places j h) (within j h);
        apart = λ i j h l r. cancel i j (F.apart (q + i) (q + j) (omega arith) (omega arith) (places i h ∙ r ∙ sym (places j l)));
        taken = λ j h.
            subst (λ x. takes (get_or mid x d) (T' j)) (places j h)
            (subst (takes (get_or mid (e (q + j)) d)) (terms j h) (subst (λ x. takes x (T (q + j))) (sym (fresh (q + j) (omega arith) (omega arith))) (F.taken (q + j) (omega arith))));
      }
        where
          within : (j : ℕ) → j < m → e (q + j) < length mid
          within j h = let a = F.inside (q + j) (omega arith) in omega (arith, s.len)

          cancel : (i j : ℕ) → q + i ≡ q + j → i ≡ j
          cancel i j r = omega arith

      -- and make q + m
      pub spread-next : (n' : ℕ) → n' ≡ q + m → (new : List A) → Spread e' T' m mid new → Spread e T n' old new
      spread-next n' r new u =
          rw r (spread-then e T q m old mid new (λ i j h l. F.apart i j (omega arith) (omega arith)) s
          (spread-ext e' (λ j. e (q + j)) T' (λ j. T (q + j)) m mid new (λ j h. sym (places j h)) (λ j h. sym (terms j h)) u))

    -- the next one: x, at place k
    module _ (k : ℕ) (x : A) (here : q < n) (ek : k ≡ e q) (ex : x ≡ T q) where
      pub place-takes : (k < length mid) × takes (get_or mid k d) x
      place-takes = (within, subst (λ y. takes (get_or mid k d) y) (sym ex) (subst (λ y. takes (get_or mid y d) (T q)) (sym ek) (subst (λ y. takes y (T q)) (sym (fresh q (omega arith) here)) (F.taken q here))))
        where
          within : k < length mid
          within = let a = F.inside q here in omega (arith, s.len, ek)

      pub place-more : (q' : ℕ) → q' ≡ q + 1 → (new : List A) → new ≡ set mid k (op (get_or mid k d) x) → Spread e T q' old new
      place-more q' r new p = rw (r, p, ek) (spread-more e T q old mid x s apart (F.inside q here) ex)
        where
          apart : (j : ℕ) → j < q → e q ≡ e j → ⊥
          apart j h r = let z = F.apart q j here (omega arith) r in omega arith
