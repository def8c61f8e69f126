-- The steps of the walk, and the ways in which it ends.
use Rattle.std.specs.Prelude.{◌≡◌, refl, Bool, true, false, ◌||◌, eqb, Float, Err, Ok}
use Rattle.std.proofs.Math.Path.{sym, ap, ap₂}
use Rattle.std.proofs.Common.{◌∙◌, ⊎_elim, arith}
use Rattle.std.proofs.Math.Bool.{not}
use Prim.Native.Nat.{ℕ, ◌+◌, ◌-◌, ◌≤◌, ◌<◌}
use borrow.Author.Tests.{eqb-true, not-false}
use Rattle.laws.specs.Tests.{clash, or-false, compared}
use Rattle.laws.specs.Words.{put, one}
use Rattle.laws.specs.First.{Searching, search-starts, search-goes-on, search-finds, search-ends, first-le}
use Rattle.laws.specs.Fold.{fold-zero, fold_more}
use Rattle.laws.specs.Counting.{count-le}
use Rattle.board.specs.Hits.{EdgeList, Board, size, hit}
use Rattle.refusals.specs.declared.Refusal.{Refusal}
use Rattle.refusals.specs.Admission.{Admission, accepted}
use Rattle.refusals.specs.declared.ListName.TheVariants as list
use Rattle.refusals.specs.Numbers.{edge_refusal}
use Rattle.within_answer.specs.Answers.{WithinAnswer}
use Rattle.within_admission.specs.WithinAdmission.{fault_at, within_admission}
use Rattle.within.specs.declared.Stop.{Stop}
use Rattle.within.specs.Within.{allowed, certain, concluded, hits_to, stops_at, read_to, stop_of, judged_of, or_judged, within_answer}

-- ---- certain or not
module _ (n : ℕ) (limit : Float) (i h : ℕ) where
  pub certain-yes : allowed n limit h ≡ true → true ≡ certain n limit i h
  unfolding certain
  certain-yes e = sym (rw e refl)

  pub certain-no : allowed n limit h ≡ false → (b : Bool) → b ≡ allowed n limit (h + (n - i)) → not b ≡ certain n limit i h
  unfolding certain
  certain-no e b q = sym (rw (e, sym q) refl)

  -- at the end of the list the answer is certain
  pub open-below : i ≤ n → allowed n limit h ≡ false → allowed n limit (h + (n - i)) ≡ true → i < n
  open-below l e f = ⊎_elim (λ m. m) (λ m. let q : h + (n - i) ≡ h = omega arith in clash (ap (allowed n limit) (sym q) ∙ f) e) (compared i n)

-- ---- whether reading stops before edge i
module _ (E : EdgeList) (limit : Float) (i h : ℕ) where
  pub stops-certain : true ≡ certain (size E) limit i h → true ≡ (certain (size E) limit i h || not (eqb (fault_at E i) 0))
  stops-certain e = sym (rw (sym e) refl)

  pub stops-fault : certain (size E) limit i h ≡ false → (k : ℕ) → k ≡ fault_at E i → not (eqb k 0) ≡ (certain (size E) limit i h || not (eqb (fault_at E i) 0))
  stops-fault e k q = ap (λ (x : ℕ). not (eqb x 0)) q ∙ sym (rw e refl)

-- ---- the walk
module _ (E : EdgeList) (t row col : ℕ) (B : Board) (limit : Float) where
  -- before edge i: reading has not stopped, and so many hits were counted
  pub record Walking (i h : ℕ) : Type 0 where
    pub search : Searching (stops_at E t row col B limit) (size E) i
    pub hits : h ≡ hits_to E t row col B i

  pub hits_few : (i : ℕ) → hits_to E t row col B i ≤ i
  unfolding hits_to
  hits_few i = count-le (hit B E t row col) i

  pub walk-few : (i h : ℕ) → Walking i h → h ≤ i
  walk-few i h w = omega (arith, w.hits, hits_few i)

  pub walk-starts : Walking 0 0
  unfolding hits_to
  walk-starts = record { search = search-starts (stops_at E t row col B limit) (size E); hits = sym (fold-zero ◌+◌ 0 (hit B E t row col) one) }

  -- what was asked of edge i is whether reading stops there
  pub asked_here : (i h : ℕ) → Walking i h → (b : Bool) → b ≡ (certain (size E) limit i h || not (eqb (fault_at E i) 0)) → b ≡ stops_at E t row col B limit i
  unfolding stops_at
  asked_here i h w b q = q ∙ ap (λ (k : ℕ). certain (size E) limit i k || not (eqb (fault_at E i) 0)) w.hits

  -- an edge at which reading does not stop has no fault
  pub none_here : (i : ℕ) → stops_at E t row col B limit i ≡ false → fault_at E i ≡ 0
  unfolding stops_at
  none_here i e = eqb-true (fault_at E i) 0 (not-false _ (or-false (certain (size E) limit i (hits_to E t row col B i)) _ e).1)

  pub walk-goes-on : (i h : ℕ) → i < size E → Walking i h → stops_at E t row col B limit i ≡ false → (b : Bool) (k : ℕ) → b ≡ hit B E t row col i → k ≡ put ◌+◌ b h 1 → Walking (i + 1) k
  unfolding hits_to
  walk-goes-on i h l w e b k p q = record {
    search = search-goes-on (stops_at E t row col B limit) (size E) i l w.search e;
    hits = q ∙ ap₂ (λ (x : Bool) (y : ℕ). put ◌+◌ x y 1) p w.hits ∙ sym (fold_more ◌+◌ 0 (hit B E t row col) one i);
  }

  -- left at i
  left_at : (i h : ℕ) → h ≡ hits_to E t row col B i → i ≡ read_to E t row col B limit → record { read = i; hits = h } ≡ stop_of E t row col B limit
  unfolding stop_of
  left_at i h p q = ap₂ stop q (p ∙ ap (hits_to E t row col B) q)
    where
      stop : ℕ → ℕ → Stop
      stop r k = record { read = r; hits = k }

  pub walk-stops : (i h : ℕ) → Walking i h → stops_at E t row col B limit i ≡ true → record { read = i; hits = h } ≡ stop_of E t row col B limit
  unfolding read_to
  walk-stops i h w e = left_at i h w.hits (search-finds (stops_at E t row col B limit) (size E) i w.search e)

  pub walk_ends : (i h : ℕ) → Walking i h → size E ≤ i → record { read = i; hits = h } ≡ stop_of E t row col B limit
  unfolding read_to
  walk_ends i h w l = left_at i h w.hits (search-ends (stops_at E t row col B limit) (size E) i l w.search)

  -- a stop: its hits are among the edges read, which are edges of the list
  pub stop-inside : (s : Stop) → s ≡ stop_of E t row col B limit → (s.hits ≤ s.read) × (s.read ≤ size E)
  unfolding stop_of read_to
  stop-inside s e = rw e (hits_few (read_to E t row col B limit), first-le (stops_at E t row col B limit) (size E))

-- ---- what is told
module _ (E : EdgeList) (limit : Float) (s : Stop) where
  pub told-yes : allowed (size E) limit s.hits ≡ true → Ok (record { within = true; read = s.read }) ≡ concluded E limit s
  unfolding concluded
  told-yes e = sym (rw e refl)

  module _ (e : allowed (size E) limit s.hits ≡ false) where
    pub told-fault : (k : ℕ) → k ≡ fault_at E s.read → allowed (size E) limit (s.hits + (size E - s.read)) ≡ true → Err (edge_refusal k list.Only s.read) ≡ concluded E limit s
    unfolding concluded
    told-fault k q f = ap (λ (x : ℕ). Err (edge_refusal x list.Only s.read)) q ∙ sym (rw (e, f) refl)

    pub told-no : allowed (size E) limit (s.hits + (size E - s.read)) ≡ false → Ok (record { within = false; read = s.read }) ≡ concluded E limit s
    unfolding concluded
    told-no f = sym (rw (e, f) refl)

-- ---- the two ends
module _ (E : EdgeList) (t row col : ℕ) (B : Board) (limit : Float) (a : Admission) (e : a ≡ within_admission E t row col B limit) where
  pub within-refused : (r : Refusal) → a ≡ Err r → Err r ≡ within_answer E t row col B limit
  unfolding within_answer
  within-refused r n = ap (λ (x : Admission). or_judged x (judged_of E t row col B limit)) (sym n ∙ e)

  pub within-judged : (s : Stop) (r : WithinAnswer) → a ≡ accepted → s ≡ stop_of E t row col B limit → r ≡ concluded E limit s → r ≡ within_answer E t row col B limit
  unfolding within_answer judged_of
  within-judged s r z k d = d ∙ ap (concluded E limit) k ∙ ap (λ (x : Admission). or_judged x (concluded E limit (stop_of E t row col B limit))) (sym z ∙ e)
