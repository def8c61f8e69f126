-- A list that is written in one zone: the n places from `at` on hold Q, and the others what they held.
use Rattle.std.specs.Prelude.{◌≡◌, refl, Bool, true, false, List, ℕ, ◌+◌, ◌-◌, ◌≤◌, ◌<◌, eqb, length, get_or, set, take, drop}
use Rattle.std.proofs.Common.{sym, ap, ◌∙◌, arith, eqb-true, length-set, get_or-set_same, get_or-set_other, get_or-take, get_or-drop, length-take-le}
use Rattle.std.proofs.lemmas.Bool.{eqb-false}
use Rattle.std.proofs.Math.ListN.{get_or-append}
use Rattle.laws.specs.Part.{view, patch, view-length, drop-patch}

module _ {A : Type 0} (d : A) where
  -- a new list of the same length, changed in the zone only
  pub record Zone (Q : ℕ → A) (at n : ℕ) (old new : List A) : Type 0 where
    pub len : length new ≡ length old
    pub inside : (k : ℕ) → k < n → get_or new (at + k) d ≡ Q k
    pub below : (k : ℕ) → k < at → get_or new k d ≡ get_or old k d
    pub above : (k : ℕ) → at + n ≤ k → get_or new k d ≡ get_or old k d

  -- where nothing is written yet
  pub zone-none : (Q : ℕ → A) (at n : ℕ) (l : List A) → ((k : ℕ) → k < n → get_or l (at + k) d ≡ Q k) → Zone Q at n l l
  zone-none Q at n l h = record { len = refl; inside = h; below = λ k b. refl; above = λ k b. refl }

  pub zone-ext : (Q Q' : ℕ → A) (at n : ℕ) (old new : List A) → ((k : ℕ) → k < n → Q k ≡ Q' k) → Zone Q at n old new → Zone Q' at n old new
  zone-ext Q Q' at n old new e z = record { len = z.len; inside = λ k h. z.inside k h ∙ e k h; below = z.below; above = z.above }

  -- one place of the zone is written anew
  pub zone-set : (Q Q' : ℕ → A) (at n : ℕ) (old new : List A) (p : ℕ) (x : A) → Zone Q at n old new → p < n → at + n ≤ length old
      → x ≡ Q' p → ((k : ℕ) → (k ≡ p → ⊥) → Q' k ≡ Q k) → Zone Q' at n old (set new (at + p) x)
  zone-set Q Q' at n old new p x z h room e same = record {
    len = length-set new (at + p) x ∙ z.len;
    inside = λ k b. at_place k b (eqb k p) refl;
    below = λ k b. get_or-set_other new (at + p) k x d (under k b) ∙ z.below k b;
    above = λ k b. get_or-set_other new (at + p) k x d (over k b) ∙ z.above k b;
  }
    where
      cancel : (k : ℕ) → at + k ≡ at + p → k ≡ p
      cancel k r = omega arith

      at_place : (k : ℕ) → k < n → (t : Bool) → eqb k p ≡ t → get_or (set new (at + p) x) (at + k) d ≡ Q' k
      at_place k b true q =
          let q' : k ≡ p = eqb-true k p q in
          ap (λ j. get_or (set new (at + p) x) (at + j) d) q' ∙ get_or-set_same new (at + p) x d (omega (arith, z.len)) ∙ e ∙ ap Q' (sym q')
      at_place k b false q = get_or-set_other new (at + p) (at + k) x d (λ r. eqb-false k p q (cancel k r)) ∙ z.inside k b ∙ sym (same k (eqb-false k p q))

      under : (k : ℕ) → k < at → k ≡ at + p → ⊥
      under k b r = omega arith

      over : (k : ℕ) → at + n ≤ k → k ≡ at + p → ⊥
      over k b r = omega arith

  -- a part that was put in anew is a zone
  module _ (at n : ℕ) (l l' : List A) (fits : at + n ≤ length l) (e : l' ≡ patch at n l (view at n l')) (same : length l' ≡ length l) where
    part-long : length (view at n l') ≡ n
    part-long = view-length at n l' (omega arith)

    pub zone-part : (Q : ℕ → A) → ((k : ℕ) → k < n → get_or (view at n l') k d ≡ Q k) → Zone Q at n l l'
    zone-part Q h = record {
      len = same;
      inside = λ k b. sym (get_or-drop at l' k d) ∙ sym (get_or-take n (drop at l') k d b) ∙ h k b;
      below = λ k b. ap (λ x. get_or x k d) e ∙ get_or-append (take at l) _ d k (omega (arith, length-take-le at l (omega arith))) ∙ get_or-take at l k d b;
      above = λ k b.
          let m : at + n + (k - (at + n)) ≡ k = omega arith in
          ap (λ j. get_or l' j d) (sym m)
          ∙ sym (get_or-drop (at + n) l' (k - (at + n)) d)
          ∙ ap (λ x. get_or (drop (at + n) x) (k - (at + n)) d) e
          ∙ ap (λ x. get_or x (k - (at + n)) d) (drop-patch at n l fits (view at n l') part-long (at + n) (omega arith))
          ∙ get_or-drop (at + n) l (k - (at + n)) d
          ∙ ap (λ j. get_or l j d) m;
    }
