-- A part of a list put in anew: what a lent part `&mut s[a..a + n]` leaves of the whole.
use Rattle.std.specs.Prelude.{◌≡◌, List, ◌++◌, ℕ, ◌+◌, ◌-◌, ◌≤◌, length, take, drop}
use Rattle.std.proofs.Common.{sym, ap, ◌∙◌, arith, length-take, length-drop, length-append, take-append-drop, take_at, drop_at, drop-drop, length-take-le}

-- the n places from a on
abbrev pub view {ℓ} : {A : Type ℓ} → ℕ → ℕ → List A → List A
view a n l = take n (drop a l)

-- the list with v in their place
abbrev pub patch {ℓ} : {A : Type ℓ} → ℕ → ℕ → List A → List A → List A
patch a n l v = take a l ++ (v ++ drop n (drop a l))

module _ {A : Type 0} (a n : ℕ) (l : List A) (fits : a + n ≤ length l) where
  head-length : length (take a l) ≡ a
  head-length = length-take-le a l (omega arith)

  pub view-length : length (view a n l) ≡ n
  view-length = simp (length-take, length-drop) (omega arith)

  -- the part itself put in: nothing changes
  pub patch-self : patch a n l (view a n l) ≡ l
  patch-self = ap (λ x. take a l ++ x) (take-append-drop n (drop a l)) ∙ take-append-drop a l

  module _ (v : List A) (size : length v ≡ n) where
    after-head : drop a (patch a n l v) ≡ v ++ drop n (drop a l)
    after-head = drop_at (take a l) (v ++ drop n (drop a l)) a head-length

    -- what was put in is there
    pub view-patch : view a n (patch a n l v) ≡ v
    view-patch = rw after-head (take_at v (drop n (drop a l)) n size)

    -- put in again
    pub patch-patch : (u : List A) → patch a n (patch a n l v) u ≡ patch a n l u
    patch-patch u = rw (after-head, take_at (take a l) (v ++ drop n (drop a l)) a head-length, drop_at v (drop n (drop a l)) n size)

    -- what follows stays
    pub drop-patch : (m : ℕ) → a + n ≤ m → drop m (patch a n l v) ≡ drop m l
    drop-patch m h =
        let e : a + (n + (m - (a + n))) ≡ m = omega arith in
        let k = m - (a + n) in
        ap (λ i. drop i (patch a n l v)) (sym e)
        ∙ sym (drop-drop (n + k) a (patch a n l v))
        ∙ ap (drop (n + k)) after-head
        ∙ sym (drop-drop k n (v ++ drop n (drop a l)))
        ∙ ap (drop k) (drop_at v (drop n (drop a l)) n size)
        ∙ drop-drop k n (drop a l)
        ∙ drop-drop (n + k) a l
        ∙ ap (λ i. drop i l) e

    pub length-patch : length (patch a n l v) ≡ length l
    length-patch = simp (length-append, length-drop, length-take) (omega arith)
