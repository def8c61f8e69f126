-- How the record of a list changes with the list: an edge at its end, an edge taken out, an edge whose hit turns into a miss.
use Rattle.std.specs.Prelude.{◌≡◌, Bool, not, cond, ◌⊎◌, ltb}
use Rattle.std.proofs.Math.Path.{refl}
use Rattle.std.proofs.Common.{sym, ap, ap₂, ◌∙◌, inl, inr, lt-ltb, le-ltb, ltb-true, ltb-false}
use Rattle.std.proofs.Math.Bool.{true, false}
use Prim.Native.Nat.{ℕ, zero, suc, ◌+◌, ◌-◌, ◌≤◌, ◌<◌}
use native.Mathlib.Omega.{arith}
use Rattle.laws.specs.Words.{put, fold, one, count}
use Rattle.laws.specs.Fold.{fold_more}
use Rattle.laws.specs.DoubleCounting.{fold-ext}
use Rattle.laws.specs.Tests.{split}
use Rattle.board.specs.declared.edge.Edge.{Edge}
use Rattle.board.specs.Hits.{EdgeList, Board, edge_at, edge_hit}
use Rattle.board.proofs.HitsLaws.{hit-edge}
use Rattle.answer.specs.declared.Square.{Square}
use Rattle.tally.specs.Tally.{belongs, tally, with_edge, without_edge}
use Rattle.tally.specs.Counted.{listed_as, hit_at, among, tally_of}

-- ---- counting without one number
-- the numbers in order, p left out
abbrev pub skip : ℕ → ℕ → ℕ
skip p i = cond (ltb i p) i (suc i)

swap : (a b : Bool) (n : ℕ) → put ◌+◌ a (put ◌+◌ b n 1) 1 ≡ put ◌+◌ b (put ◌+◌ a n 1) 1
swap true true n = refl
swap true false n = refl
swap false true n = refl
swap false false n = refl

-- the last one left out
skip-last : (f : ℕ → Bool) (n p : ℕ) → p ≡ n → count (suc n) f ≡ put ◌+◌ (f p) (count n (λ i. f (skip p i))) 1
unfolding fold
skip-last f n p e = rw e (ap (λ (k : ℕ). put ◌+◌ (f n) k 1) (fold-ext ◌+◌ 0 n f (λ i. f (skip n i)) one one (λ i l. ap f (sym (rw (lt-ltb i n l)))) (λ i l. refl)))

-- a count is that of the others, and the one left out
pub count-skip : (f : ℕ → Bool) (n p : ℕ) → p ≤ n → count (suc n) f ≡ put ◌+◌ (f p) (count n (λ i. f (skip p i))) 1
unfolding fold
count-skip f zero p h = skip-last f zero p (omega arith)
count-skip f (suc m) p h = go (count-skip f m p) (split p (suc m) (omega arith))
  where
    go : (p ≤ m → count (suc m) f ≡ put ◌+◌ (f p) (count m (λ i. f (skip p i))) 1) → (p ≡ suc m) ⊎ (p < suc m)
        → count (suc (suc m)) f ≡ put ◌+◌ (f p) (count (suc m) (λ i. f (skip p i))) 1
    go ih (inl e) = skip-last f (suc m) p e
    go ih (inr l) =
        let e : skip p m ≡ suc m = rw (le-ltb m p (omega arith)) in
        ap (λ (k : ℕ). put ◌+◌ (f (suc m)) k 1) (ih (omega arith))
        ∙ swap (f (suc m)) (f p) (count m (λ i. f (skip p i)))
        ∙ ap (λ (j : ℕ). put ◌+◌ (f p) (put ◌+◌ (f j) (count m (λ i. f (skip p i))) 1) 1) (sym e)

give-back : (b : Bool) (n : ℕ) → n ≡ put ◌-◌ b (put ◌+◌ b n 1) 1
give-back true n = omega arith
give-back false n = refl

-- the count without p
pub count-without : (f g : ℕ → Bool) (n p : ℕ) → p ≤ n → ((i : ℕ) → i < n → g i ≡ f (skip p i)) → count n g ≡ put ◌-◌ (f p) (count (suc n) f) 1
count-without f g n p h e =
    fold-ext ◌+◌ 0 n g (λ i. f (skip p i)) one one e (λ i l. refl)
    ∙ give-back (f p) (count n (λ i. f (skip p i)))
    ∙ ap (λ (k : ℕ). put ◌-◌ (f p) k 1) (sym (count-skip f n p h))

skipped : (p i : ℕ) → skip p i ≡ p → ⊥
skipped p i e = go (ltb i p) refl e
  where
    go : (b : Bool) → ltb i p ≡ b → cond b i (suc i) ≡ p → ⊥
    go true q e = let l = ltb-true i p q in omega arith
    go false q e = let l = ltb-false i p q in omega arith

-- the count where only p counts otherwise
pub count-other : (f g : ℕ → Bool) (n p : ℕ) → p < n → ((i : ℕ) → (i ≡ p → ⊥) → g i ≡ f i) → count n g ≡ put ◌+◌ (g p) (put ◌-◌ (f p) (count n f) 1) 1
count-other f g zero p h e = absurd (omega arith)
count-other f g (suc n) p h e =
    count-skip g n p (omega arith)
    ∙ ap (λ (k : ℕ). put ◌+◌ (g p) k 1) (count-without f (λ i. g (skip p i)) n p (omega arith) (λ i l. e (skip p i) (skipped p i)))

-- ---- the record
module _ (B : Board) (q : Square) where
  pub tally-none : (E : EdgeList) → tally q 0 0 0 0 0 ≡ tally_of B E q 0
  unfolding tally_of fold
  tally-none E = refl

  -- the next edge of the list
  pub tally-more : (E : EdgeList) (n : ℕ) → tally_of B E q (n + 1) ≡ with_edge (tally_of B E q n) (listed_as E n) (hit_at B E q n)
  unfolding tally_of with_edge
  tally-more E n = rw (fold_more ◌+◌ 0 (among B E q 0 true) one n, fold_more ◌+◌ 0 (among B E q 0 false) one n, fold_more ◌+◌ 0 (among B E q 1 true) one n, fold_more ◌+◌ 0 (among B E q 1 false) one n)

  -- an edge counts by its value alone
  pub among-edge : (E E' : EdgeList) (i j side : ℕ) (w : Bool) → edge_at E i ≡ edge_at E' j → among B E q side w i ≡ among B E' q side w j
  among-edge E E' i j side w e =
      ap (λ (h : Bool). belongs (listed_as E i) h side w) (sym (hit-edge B E q.transform q.row q.col i))
      ∙ ap (λ (x : Edge). belongs x.orientation (edge_hit B x q) side w) e
      ∙ ap (λ (h : Bool). belongs (listed_as E' j) h side w) (hit-edge B E' q.transform q.row q.col j)

  module _ (E E' : EdgeList) where
    -- lists with the same first n edges
    pub tally-same : (n : ℕ) → ((i : ℕ) → i < n → edge_at E' i ≡ edge_at E i) → tally_of B E' q n ≡ tally_of B E q n
    unfolding tally_of
    tally-same n e = rw (each 0 true, each 0 false, each 1 true, each 1 false)
      where
        each : (side : ℕ) (w : Bool) → count n (among B E' q side w) ≡ count n (among B E q side w)
        each side w = fold-ext ◌+◌ 0 n (among B E' q side w) (among B E q side w) one one (λ i l. among-edge E' E i i side w (e i l)) (λ i l. refl)

    -- edge p taken out
    each-without : (n p : ℕ) → p ≤ n → ((i : ℕ) → i < n → edge_at E' i ≡ edge_at E (skip p i)) → (side : ℕ) (w : Bool)
        → count n (among B E' q side w) ≡ put ◌-◌ (belongs (listed_as E p) (hit_at B E q p) side w) (count (suc n) (among B E q side w)) 1
    each-without n p h e side w = count-without (among B E q side w) (among B E' q side w) n p h (λ i l. among-edge E' E i (skip p i) side w (e i l))

    pub tally-without : (n p : ℕ) → p < n → ((i : ℕ) → i < n - 1 → edge_at E' i ≡ edge_at E (skip p i)) → tally_of B E' q (n - 1) ≡ without_edge (tally_of B E q n) (listed_as E p) (hit_at B E q p)
    unfolding tally_of without_edge
    tally-without zero p h e = absurd (omega arith)
    tally-without (suc n) p h e =
        let m : suc n - 1 ≡ n = omega arith in
        let k = each-without n p (omega arith) (λ i l. e i (omega arith)) in
        rw (m, k 0 true, k 0 false, k 1 true, k 1 false)

    -- edge p changed from a hit to a miss or from a miss to a hit
    module _ (n p : ℕ) (inside : p < n) (others : (i : ℕ) → (i ≡ p → ⊥) → edge_at E' i ≡ edge_at E i) (listed : listed_as E' p ≡ listed_as E p) (turned : hit_at B E' q p ≡ not (hit_at B E q p)) where
      each-other : (side : ℕ) (w : Bool)
          → count n (among B E' q side w) ≡ put ◌+◌ (belongs (listed_as E p) (not (hit_at B E q p)) side w) (put ◌-◌ (belongs (listed_as E p) (hit_at B E q p) side w) (count n (among B E q side w)) 1) 1
      each-other side w =
          count-other (among B E q side w) (among B E' q side w) n p inside (λ i l. among-edge E' E i i side w (others i l))
          ∙ ap₂ (λ (o : ℕ) (h : Bool). put ◌+◌ (belongs o h side w) (put ◌-◌ (belongs (listed_as E p) (hit_at B E q p) side w) (count n (among B E q side w)) 1) 1) listed turned

      again : n - 1 + 1 ≡ n
      again = omega arith

      pub tally-other : tally_of B E' q n ≡ with_edge (without_edge (tally_of B E q n) (listed_as E p) (hit_at B E q p)) (listed_as E p) (not (hit_at B E q p))
      unfolding tally_of with_edge without_edge
      tally-other = rw (again, each-other 0 true, each-other 0 false, each-other 1 true, each-other 1 false)
