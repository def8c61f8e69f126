-- The first n places of a list set to one value.
use Rattle.std.specs.Prelude.{◌≡◌, refl, List, ◌∷◌, ◌++◌, ℕ, zero, suc, ◌+◌, ◌-◌, ◌≤◌, ◌<◌, length, drop, set, get_or, replicate}
use Rattle.std.proofs.Common.{sym, ap, ◌∙◌, length-append, length-drop, length-set, arith, add-one, drop-cons, get_or-append-add, get_or-drop}
use Rattle.std.proofs.lemmas.List.{length-replicate, set_at}
use Rattle.std.proofs.Math.ListN.{get_or-append}
use Rattle.laws.specs.Written.{Written, written-unique}
use Rattle.laws.specs.Words.{surplus, cleared}

-- one place more: the place n of a list whose first n places are cleared
pub cleared_more : {A : Type 0} (a : A) (n : ℕ) (l : List A) → n < length l → set (cleared a n l) n a ≡ cleared a (n + 1) l
unfolding cleared surplus
cleared_more a n l h =
    rw (add-one, drop-cons l n a) (set_at (replicate n a) (get_or l n a) (drop (suc n) l) a n (length-replicate n a) ∙ sym (more n))
  where
    more : (k : ℕ) → replicate (suc k) a ++ drop (suc n) l ≡ replicate k a ++ a ∷ drop (suc n) l
    more zero = refl
    more (suc k) = ap (a ∷◌) (more k)

pub cleared-none : {A : Type 0} (a : A) (l : List A) → cleared a 0 l ≡ l
unfolding cleared surplus
cleared-none a l = refl

pub length-cleared : {A : Type 0} (a : A) (n : ℕ) (l : List A) → n ≤ length l → length (cleared a n l) ≡ length l
unfolding cleared surplus
length-cleared a n l h = simp (length-append, length-replicate, length-drop) (omega arith)

-- by index
pub cleared-written : {A : Type 0} (d a : A) (n : ℕ) (l : List A) → n ≤ length l → Written d (λ k. a) l (cleared a n l) n
unfolding cleared surplus
cleared-written d a n l h = record {
  len = length-cleared a n l h;
  front = λ k b. get_or-append (replicate n a) (drop n l) d k (omega (arith, length-replicate n a)) ∙ held n k b;
  back = λ k b.
      let m : n + (k - n) ≡ k = omega arith in
      ap (λ i. get_or (replicate n a ++ drop n l) i d) (sym (ap (λ x. x + (k - n)) (length-replicate n a) ∙ m))
      ∙ get_or-append-add (replicate n a) (drop n l) (k - n) d
      ∙ get_or-drop n l (k - n) d
      ∙ ap (λ i. get_or l i d) m;
}
  where
    held : (n k : ℕ) → k < n → get_or (replicate n a) k d ≡ a
    held zero k b = absurd (omega arith)
    held (suc n) zero b = refl
    held (suc n) (suc k) b = held n k (omega arith)

-- ---- a loop that clears, after i places of n
pub record Clearing {A : Type 0} (a : A) (n : ℕ) (old new : List A) (i : ℕ) : Type 0 where
  pub inside : i ≤ n
  pub len : length new ≡ length old
  pub so_far : new ≡ cleared a i old

module _ {A : Type 0} (a : A) (n : ℕ) (old : List A) where
  pub clearing-none : Clearing a n old old 0
  clearing-none = record { inside = omega arith; len = refl; so_far = sym (cleared-none a old) }

  pub clearing-more : (new : List A) (i : ℕ) → n ≤ length old → i < n → Clearing a n old new i → Clearing a n old (set new i a) (i + 1)
  clearing-more new i room h c = record {
    inside = omega arith;
    len = length-set new i a ∙ c.len;
    so_far = ap (λ l. set l i a) c.so_far ∙ cleared_more a i old (omega arith);
  }

  pub clearing-done : (new : List A) (i : ℕ) → n ≤ i → Clearing a n old new i → new ≡ cleared a n old
  clearing-done new i h c = let e : i ≡ n = omega (arith, c.inside) in c.so_far ∙ ap (λ k. cleared a k old) e

-- ---- a list that is as it was from place n on
pub record SameBeyond {A : Type 0} (d : A) (n : ℕ) (old new : List A) : Type 0 where
  pub len : length new ≡ length old
  pub same : (k : ℕ) → n ≤ k → get_or new k d ≡ get_or old k d

module _ {A : Type 0} (d : A) (n : ℕ) where
  pub beyond-refl : (l : List A) → SameBeyond d n l l
  beyond-refl l = record { len = refl; same = λ k h. refl }

  pub beyond-trans : (a b c : List A) → SameBeyond d n a b → SameBeyond d n b c → SameBeyond d n a c
  beyond-trans a b c p q = record { len = q.len ∙ p.len; same = λ k h. q.same k h ∙ p.same k h }

  -- once its first n places are cleared, nothing tells that they were used
  pub cleared-forgets : (a : A) (old new : List A) → n ≤ length old → SameBeyond d n old new → cleared a n new ≡ cleared a n old
  cleared-forgets a old new room s =
      let w = cleared-written d a n new (omega (arith, s.len)) in
      written-unique d (λ k. a) old (cleared a n new) (cleared a n old) n (record { len = w.len ∙ s.len; front = w.front; back = λ k h. w.back k h ∙ s.same k h }) (cleared-written d a n old room)
