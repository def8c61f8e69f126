-- Double counting: what the groups hold, added up over the chosen groups, is what the edges hold, added up over the edges of the chosen groups.
-- For any sum with a zero that may be taken in any order: of numbers, and of integers.
use Rattle.std.specs.Prelude.{◌≡◌, Bool, ◌&&◌, cond, ltb}
use Rattle.std.proofs.Math.Path.{refl, sym, ap, ap₂}
use Rattle.std.proofs.Common.{◌∙◌, zero-mul, suc-mul, div-add-mod', arith, lt-ltb, le-ltb, eq-eqb, ne_eqb, eqb-true}
use Rattle.std.proofs.Math.Bool.{true, false, not}
use Prim.Native.Nat.{ℕ, zero, suc, ◌+◌, ◌*◌, ◌/◌, ◌%◌, ◌<◌}
use Rattle.std.proofs.Math.Nat.{add-zero, add-suc}
use Rattle.std.proofs.Math.Decide.{dec_lt}
use Rattle.std.proofs.Math.Dec.{eqb}
use Rattle.std.proofs.Math.Arith.{digits_div, digits_mod}
use Rattle.std.proofs.lemmas.Bool.{eqb-false}
use Rattle.laws.specs.Tests.{and_assoc}
use Rattle.laws.specs.Words.{put, fold, all}
use Rattle.laws.specs.Fold.{fold-zero}

-- folds that choose the same and add the same are the same
module _ {A : Type 0} (op : A → A → A) (z : A) where
  pub fold-ext : (n : ℕ) (p q : ℕ → Bool) (f g : ℕ → A) → ((i : ℕ) → i < n → p i ≡ q i) → ((i : ℕ) → i < n → f i ≡ g i) → fold op z n p f ≡ fold op z n q g
  unfolding fold
  fold-ext zero p q f g h k = refl
  fold-ext (suc n) p q f g h k =
      let ih = fold-ext n p q f g (λ i l. h i (omega arith)) (λ i l. k i (omega arith)) in
      let a = h n (omega arith) in
      let b = k n (omega arith) in
      cc (ih, a, b)

  -- only what is chosen need be the same
  pub fold-where : (n : ℕ) (p : ℕ → Bool) (f g : ℕ → A) → ((i : ℕ) → i < n → p i ≡ true → f i ≡ g i) → fold op z n p f ≡ fold op z n p g
  unfolding fold
  fold-where zero p f g h = refl
  fold-where (suc n) p f g h = chosen (p n) (fold op z n p f) (fold op z n p g) (f n) (g n) (fold-where n p f g (λ i l. h i (omega arith))) (h n (omega arith))
    where
      chosen : (b : Bool) (a c x y : A) → a ≡ c → (b ≡ true → x ≡ y) → put op b a x ≡ put op b c y
      chosen true a c x y e k = ap₂ op e (k refl)
      chosen false a c x y e k = e

module _ {A : Type 0} (op : A → A → A) (z : A) (unit : (a : A) → op a z ≡ a) (assoc : (a b c : A) → op (op a b) c ≡ op a (op b c)) (comm : (a b : A) → op a b ≡ op b a) where
  swap : (a b c : A) → op (op a b) c ≡ op (op a c) b
  swap a b c = assoc a b c ∙ ap (op a) (comm b c) ∙ sym (assoc a c b)

  put-assoc : (b : Bool) (a x y : A) → put op b (op a x) y ≡ op a (put op b x y)
  put-assoc true a x y = assoc a x y
  put-assoc false a x y = refl

  put-swap : (b c : Bool) (a x y : A) → put op c (put op b a x) y ≡ put op b (put op c a y) x
  put-swap true true a x y = swap a x y
  put-swap true false a x y = refl
  put-swap false c a x y = refl

  put_same : (b : Bool) (a x y : A) → put op b a (op x y) ≡ put op b (put op b a x) y
  put_same true a x y = sym (assoc a x y)
  put_same false a x y = refl

  hit-all : (n : ℕ) (f : ℕ → A) → fold op z (suc n) all f ≡ op (fold op z n all f) (f n)
  unfolding fold
  hit-all n f = refl

  -- of the first m, and then of the next k
  pub fold-append : (m k : ℕ) (p : ℕ → Bool) (f : ℕ → A) → fold op z (m + k) p f ≡ op (fold op z m p f) (fold op z k (λ j. p (m + j)) (λ j. f (m + j)))
  unfolding fold
  fold-append m zero p f = rw add-zero (sym (unit (fold op z m p f)))
  fold-append m (suc k) p f =
      rw add-suc (ap (λ a. put op (p (m + k)) a (f (m + k))) (fold-append m k p f) ∙ put-assoc (p (m + k)) (fold op z m p f) (fold op z k (λ j. p (m + j)) (λ j. f (m + j))) (f (m + k)))

  -- one entry more by x: the sum more by x, if the entry is in it
  module _ (N s : ℕ) (h : ℕ → Bool) (g : ℕ → A) (x F F' : A) (e : F' ≡ put op (ltb s N && h s) F x) where
    abbrev Step : Type 0
    Step = put op (h N) F' (put op (eqb s N) (g N) x) ≡ put op (ltb s (suc N) && h s) (put op (h N) F (g N)) x

    here : s ≡ N → Step
    here q =
        let a : eqb s N ≡ true = eq-eqb s N q in
        let b : ltb s N ≡ false = le-ltb s N (omega arith) in
        let d : ltb s (suc N) ≡ true = lt-ltb s (suc N) (omega arith) in
        ap (λ t. put op (h N) F' (put op t (g N) x)) a
        ∙ ap (λ y. put op (h N) y (op (g N) x)) (e ∙ ap (λ t. put op (t && h s) F x) b)
        ∙ put_same (h N) F (g N) x
        ∙ ap (λ t. put op t (put op (h N) F (g N)) x) (sym (ap (λ t. t && h s) d ∙ ap h q))

    further : (s ≡ N → ⊥) → ltb s (suc N) ≡ ltb s N
    further n = elim (dec_lt s N) [
      | yes l ↦ lt-ltb s (suc N) (omega arith) ∙ sym (lt-ltb s N l)
      | no l ↦ le-ltb s (suc N) (omega arith) ∙ sym (le-ltb s N (omega arith))
    ]

    elsewhere : (s ≡ N → ⊥) → Step
    elsewhere n =
        ap (λ t. put op (h N) F' (put op t (g N) x)) (ne_eqb s N n)
        ∙ ap (λ y. put op (h N) y (g N)) e
        ∙ put-swap (ltb s N && h s) (h N) F x (g N)
        ∙ ap (λ t. put op (t && h s) (put op (h N) F (g N)) x) (sym (further n))

    step : (b : Bool) → eqb s N ≡ b → Step
    step true q = here (eqb-true s N q)
    step false q = elsewhere (eqb-false s N q)

  pub bump : (N s : ℕ) (h : ℕ → Bool) (g : ℕ → A) (x : A) → fold op z N h (λ k. put op (eqb s k) (g k) x) ≡ put op (ltb s N && h s) (fold op z N h g) x
  unfolding fold
  bump zero s h g x = rw (le-ltb s 0 (omega arith))
  bump (suc N) s h g x = step N s h g x (fold op z N h g) (fold op z N h (λ k. put op (eqb s k) (g k) x)) (bump N s h g x) (eqb s N) refl

  -- the same of an x that may be left out
  bump-if : (b : Bool) (N s : ℕ) (h : ℕ → Bool) (g : ℕ → A) (x : A) → fold op z N h (λ k. put op (b && eqb s k) (g k) x) ≡ put op (b && (ltb s N && h s)) (fold op z N h g) x
  bump-if true N s h g x = bump N s h g x
  bump-if false N s h g x = refl

  pub fold-zeros : (N : ℕ) (h : ℕ → Bool) → fold op z N h (λ k. z) ≡ z
  unfolding fold
  fold-zeros zero h = refl
  fold-zeros (suc N) h = ap (λ a. put op (h N) a z) (fold-zeros N h) ∙ stay (h N)
    where
      stay : (b : Bool) → put op b z z ≡ z
      stay true = unit z
      stay false = refl

  -- the chosen groups' sums, added up
  pub regroup : (N n : ℕ) (o : ℕ → Bool) (slot : ℕ → ℕ) (h : ℕ → Bool) (v : ℕ → A)
      → fold op z N h (λ k. fold op z n (λ i. o i && eqb (slot i) k) v) ≡ fold op z n (λ i. o i && (ltb (slot i) N && h (slot i))) v
  unfolding fold
  regroup N zero o slot h v = fold-zeros N h
  regroup N (suc n) o slot h v =
      bump-if (o n) N (slot n) h (λ k. fold op z n (λ i. o i && eqb (slot i) k) v) (v n)
      ∙ ap (λ a. put op (o n && (ltb (slot n) N && h (slot n))) a (v n)) (regroup N n o slot h v)

  -- L rows of one width, as one row
  pub flatten : (wide L : ℕ) (P : ℕ → ℕ → Bool) (F : ℕ → ℕ → A) → fold op z L all (λ f. fold op z wide (P f) (F f)) ≡ fold op z (L * wide) (λ k. P (k / wide) (k % wide)) (λ k. F (k / wide) (k % wide))
  flatten wide zero P F = rw zero-mul (fold-zero op z all (λ f. fold op z wide (P f) (F f)) ∙ sym (fold-zero op z (λ k. P (k / wide) (k % wide)) (λ k. F (k / wide) (k % wide))))
  flatten wide (suc L) P F = rw suc-mul (more (flatten wide L P F) ∙ sym (fold-append (L * wide) wide (λ k. P (k / wide) (k % wide)) (λ k. F (k / wide) (k % wide))))
    where
      more : fold op z L all (λ f. fold op z wide (P f) (F f)) ≡ fold op z (L * wide) (λ k. P (k / wide) (k % wide)) (λ k. F (k / wide) (k % wide))
          → fold op z (suc L) all (λ f. fold op z wide (P f) (F f))
          ≡ op (fold op z (L * wide) (λ k. P (k / wide) (k % wide)) (λ k. F (k / wide) (k % wide))) (fold op z wide (λ j. P ((L * wide + j) / wide) ((L * wide + j) % wide)) (λ j. F ((L * wide + j) / wide) ((L * wide + j) % wide)))
      more e = hit-all L (λ f. fold op z wide (P f) (F f)) ∙ ap (λ a. op a (fold op z wide (P L) (F L))) e
          ∙ ap (op (fold op z (L * wide) (λ k. P (k / wide) (k % wide)) (λ k. F (k / wide) (k % wide))))
          (fold-ext op z wide (P L) (λ j. P ((L * wide + j) / wide) ((L * wide + j) % wide)) (F L) (λ j. F ((L * wide + j) / wide) ((L * wide + j) % wide))
          (λ j h. rw (digits_div L h, digits_mod L h))
          (λ j h. rw (digits_div L h, digits_mod L h)))

  -- what L families of one width add, each group the sum of its edges: the sum over the edges
  pub edge-by-edge : (wide L n : ℕ) (o : ℕ → Bool) (slot : ℕ → ℕ) (P : ℕ → ℕ → Bool) (v : ℕ → A)
      → fold op z L all (λ f. fold op z wide (P f) (λ j. fold op z n (λ i. o i && eqb (slot i) (f * wide + j)) v))
      ≡ fold op z n (λ i. o i && (ltb (slot i) (L * wide) && P (slot i / wide) (slot i % wide))) v
  edge-by-edge wide L n o slot P v =
      flatten wide L P (λ f j. fold op z n (λ i. o i && eqb (slot i) (f * wide + j)) v)
      ∙ fold-ext op z (L * wide) (λ k. P (k / wide) (k % wide)) (λ k. P (k / wide) (k % wide))
      (λ k. fold op z n (λ i. o i && eqb (slot i) (k / wide * wide + k % wide)) v) (λ k. fold op z n (λ i. o i && eqb (slot i) k) v)
      (λ k h. refl) (λ k h. ap (λ m. fold op z n (λ i. o i && eqb (slot i) m) v) (div-add-mod' k wide))
      ∙ regroup (L * wide) n o slot (λ k. P (k / wide) (k % wide)) v

  -- what agrees adds one thing, and what does not another
  pub fold-split : (n : ℕ) (q P : ℕ → Bool) (f g : ℕ → A) → fold op z n q (λ i. cond (P i) (f i) (g i)) ≡ op (fold op z n (λ i. q i && P i) f) (fold op z n (λ i. q i && not (P i)) g)
  unfolding fold
  fold-split zero q P f g = sym (unit z)
  fold-split (suc n) q P f g =
      ap (λ a. put op (q n) a (cond (P n) (f n) (g n))) (fold-split n q P f g)
      ∙ one_more (q n) (P n) (fold op z n (λ i. q i && P i) f) (fold op z n (λ i. q i && not (P i)) g) (f n) (g n)
    where
      one_more : (b c : Bool) (x y u v : A) → put op b (op x y) (cond c u v) ≡ op (put op (b && c) x u) (put op (b && not c) y v)
      one_more true true x y u v = swap x y u
      one_more true false x y u v = assoc x y v
      one_more false c x y u v = refl

  -- the same where what does not agree adds too
  pub edge-by-edge-both : (wide L n : ℕ) (o : ℕ → Bool) (slot : ℕ → ℕ) (P : ℕ → ℕ → Bool) (v u : ℕ → A)
      → fold op z L all (λ f. fold op z wide all (λ j. cond (P f j) (fold op z n (λ i. o i && eqb (slot i) (f * wide + j)) v) (fold op z n (λ i. o i && eqb (slot i) (f * wide + j)) u)))
      ≡ fold op z n (λ i. o i && ltb (slot i) (L * wide)) (λ i. cond (P (slot i / wide) (slot i % wide)) (v i) (u i))
  edge-by-edge-both wide L n o slot P v u =
      let G : (ℕ → A) → ℕ → A = λ w k. fold op z n (λ i. o i && eqb (slot i) k) w in
      let p : ℕ → Bool = λ k. P (k / wide) (k % wide) in
      let q : ℕ → Bool = λ i. o i && ltb (slot i) (L * wide) in
      flatten wide L (λ f. all) (λ f j. cond (P f j) (G v (f * wide + j)) (G u (f * wide + j)))
      ∙ fold-ext op z (L * wide) all all (λ k. cond (p k) (G v (k / wide * wide + k % wide)) (G u (k / wide * wide + k % wide))) (λ k. cond (p k) (G v k) (G u k)) (λ k h. refl) (λ k h. ap (λ m. cond (p k) (G v m) (G u m)) (div-add-mod' k wide))
      ∙ fold-split (L * wide) all p (G v) (G u)
      ∙ ap (λ a. op a (fold op z (L * wide) (λ k. not (p k)) (G u))) (regroup (L * wide) n o slot p v ∙ fold-ext op z n (λ i. o i && (ltb (slot i) (L * wide) && p (slot i))) (λ i. q i && p (slot i)) v v (λ i h. and_assoc (o i) (ltb (slot i) (L * wide)) (p (slot i))) (λ i h. refl))
      ∙ ap (op (fold op z n (λ i. q i && p (slot i)) v)) (regroup (L * wide) n o slot (λ k. not (p k)) u ∙ fold-ext op z n (λ i. o i && (ltb (slot i) (L * wide) && not (p (slot i)))) (λ i. q i && not (p (slot i))) u u (λ i h. and_assoc (o i) (ltb (slot i) (L * wide)) (not (p (slot i)))) (λ i h. refl))
      ∙ sym (fold-split n q (λ i. p (slot i)) v u)
