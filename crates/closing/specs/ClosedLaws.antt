-- A column that closed up, by index; and a loop that closes it up, one place a turn.
use Rattle.std.specs.Prelude.{◌≡◌, refl, cond, List, ◌∷◌, ◌++◌, ℕ, suc, ◌+◌, ◌-◌, ◌≤◌, ◌<◌, ltb, length, get_or, set, take, drop}
use Rattle.std.proofs.Math.Path.{sym}
use Rattle.std.proofs.Common.{ap, ◌∙◌, arith, lt-ltb, le-ltb, length-append, length-drop, get_or-append-add, get_or-take, get_or-drop, length-take-le}
use Rattle.std.proofs.Math.Logic.{⊎_elim}
use Rattle.std.proofs.Math.ListN.{length-take, get_or-append}
use Rattle.laws.specs.Tests.{compared}
use Rattle.laws.specs.Written.{Written, written-more, written-unique}
use Rattle.closing.specs.Closed.{closed}

module _ {A : Type 0} (d z : A) (p n : ℕ) (l : List A) where
  -- what place k of the front holds afterwards
  abbrev pub closed_at : ℕ → A
  closed_at k = cond (ltb k p) (get_or l k d) (cond (ltb (suc k) n) (get_or l (suc k) d) z)

  pub before_at : (k : ℕ) → k < p → closed_at k ≡ get_or l k d
  before_at k h = rw (lt-ltb k p h)

  pub after-at : (k : ℕ) → p ≤ k → suc k < n → closed_at k ≡ get_or l (suc k) d
  after-at k h m = rw (le-ltb k p h, lt-ltb (suc k) n m)

  pub freed-at : (k : ℕ) → p ≤ k → n ≤ suc k → closed_at k ≡ z
  freed-at k h m = rw (le-ltb k p h, le-ltb (suc k) n m)

  -- a loop that closes up, before place i
  pub record Closing (new : List A) (i : ℕ) : Type 0 where
    pub from : p ≤ i
    pub upto : i ≤ n - 1
    pub so_far : Written d closed_at l new i

  reach : (new : List A) (i j : ℕ) → i ≡ j → Written d closed_at l new i → Written d closed_at l new j
  reach new i j e w = rw (sym e) w

  module _ (inside : p < n) (room : n ≤ length l) where
    head-length : length (take p l) ≡ p
    head-length = length-take-le p l (omega arith)

    tail-length : length (take (n - suc p) (drop (suc p) l)) ≡ n - suc p
    tail-length = simp (length-take, length-drop) (omega arith)

    abbrev rest : List A
    rest = take (n - suc p) (drop (suc p) l) ++ z ∷ drop n l

    -- from p on
    from-p : (k : ℕ) → get_or (take p l ++ rest) (p + k) d ≡ get_or rest k d
    from-p k = ap (λ (i : ℕ). get_or (take p l ++ rest) (i + k) d) (sym head-length) ∙ get_or-append-add (take p l) rest k d

    -- from the freed place on
    from_last : (k : ℕ) → get_or (take p l ++ rest) (n - 1 + k) d ≡ get_or (z ∷ drop n l) k d
    from_last k =
        let e : n - 1 + k ≡ p + (n - suc p + k) = omega arith in
        ap (λ (i : ℕ). get_or (take p l ++ rest) i d) e
        ∙ from-p (n - suc p + k)
        ∙ ap (λ (i : ℕ). get_or rest (i + k) d) (sym tail-length)
        ∙ get_or-append-add (take (n - suc p) (drop (suc p) l)) (z ∷ drop n l) k d

    front_below : (k : ℕ) → k < p → get_or (take p l ++ rest) k d ≡ get_or l k d
    front_below k h = get_or-append (take p l) rest d k (omega (arith, head-length)) ∙ get_or-take p l k d h

    front-moved : (k : ℕ) → p ≤ k → suc k < n → get_or (take p l ++ rest) k d ≡ get_or l (suc k) d
    front-moved k h m =
        let j = k - p in
        let e : k ≡ p + j = omega arith in
        let f : suc p + j ≡ suc k = omega arith in
        ap (λ (i : ℕ). get_or (take p l ++ rest) i d) e
        ∙ from-p j
        ∙ get_or-append (take (n - suc p) (drop (suc p) l)) (z ∷ drop n l) d j (omega (arith, tail-length))
        ∙ get_or-take (n - suc p) (drop (suc p) l) j d (omega arith)
        ∙ get_or-drop (suc p) l j d
        ∙ ap (λ (i : ℕ). get_or l i d) f

    front-freed : (k : ℕ) → k < n → n ≤ suc k → get_or (take p l ++ rest) k d ≡ z
    front-freed k h m = let e : k ≡ n - 1 + 0 = omega arith in ap (λ (i : ℕ). get_or (take p l ++ rest) i d) e ∙ from_last 0

    behind : (k : ℕ) → n ≤ k → get_or (take p l ++ rest) k d ≡ get_or l k d
    behind k h =
        let j = k - n in
        let e : k ≡ n - 1 + suc j = omega arith in
        let f : n + j ≡ k = omega arith in
        ap (λ (i : ℕ). get_or (take p l ++ rest) i d) e ∙ from_last (suc j) ∙ get_or-drop n l j d ∙ ap (λ (i : ℕ). get_or l i d) f

    -- THE COLUMN BY INDEX: its first n places are as `closed_at` says, the others as they were
    pub closed-written : Written d closed_at l (closed z p n l) n
    unfolding closed
    closed-written = record {
      len = simp (length-append, length-take, length-drop) (omega arith);
      front = λ k h. ⊎_elim (λ b. front_below k b ∙ sym (before_at k b)) (λ b. ⊎_elim (λ m. front-moved k b m ∙ sym (after-at k b m)) (λ m. front-freed k h m ∙ sym (freed-at k b m)) (compared (suc k) n)) (compared k p);
      back = λ k h. behind k h;
    }

    -- ---- the turns of the loop
    pub closing-none : Closing l p
    closing-none = record { from = omega arith; upto = omega arith; so_far = record { len = refl; front = λ k h. sym (before_at k h); back = λ k h. refl } }

    pub closing-more : (new : List A) (i : ℕ) (x : A) → Closing new i → i < n - 1 → x ≡ get_or new (i + 1) d → Closing (set new i x) (i + 1)
    closing-more new i x c h e =
        let s : i + 1 ≡ suc i = omega arith in
        record {
          from = omega (arith, c.from);
          upto = omega arith;
          so_far = written-more d closed_at l new i x c.so_far (omega arith) (e ∙ c.so_far.back (i + 1) (omega arith) ∙ ap (λ (k : ℕ). get_or l k d) s ∙ sym (after-at i c.from (omega arith)));
        }

    pub closing-done : (new : List A) (i : ℕ) → Closing new i → n - 1 ≤ i → set new (n - 1) z ≡ closed z p n l
    closing-done new i c h =
        let e : i ≡ n - 1 = omega (arith, c.upto) in
        let m : n - 1 + 1 ≡ n = omega arith in
        written-unique d closed_at l (set new (n - 1) z) (closed z p n l) n
        (reach (set new (n - 1) z) (n - 1 + 1) n m (written-more d closed_at l new (n - 1) z (reach new i (n - 1) e c.so_far) (omega arith) (sym (freed-at (n - 1) (omega arith) (omega arith)))))
        closed-written
