-- The edges of one orientation: as many as are counted, with the hits that are counted; so a record is right exactly where it equals match statistics' count.
use Rattle.std.specs.Prelude.{◌≡◌, Bool, ◌&&◌, pos}
use Rattle.std.proofs.Math.Path.{refl, sym, ap, ap₂}
use Rattle.std.proofs.Common.{◌∙◌, add-one, get_or-append-add}
use Rattle.std.proofs.Math.Bool.{true, false, not}
use mathlib.Core.List.{List, [], ◌∷◌, ◌++◌}
use Prim.Native.Nat.{ℕ, zero, suc, ◌+◌, ◌<◌}
use native.Mathlib.Omega.{arith}
use Rattle.std.proofs.Math.ListN.{get_or, length, length-append, get_or-append}
use Rattle.std.specs.Float.Ieee.{nan}
use Rattle.laws.specs.Words.{put, fold, one, count}
use Rattle.laws.specs.DoubleCounting.{fold-ext}
use Rattle.answer.specs.declared.Square.{Square}
use Rattle.board.specs.declared.edge.Edge.{Edge}
use Rattle.board.specs.Hits.{EdgeList, Board, size, edge_at, edge_hit, hits}
use Rattle.board.proofs.HitsLaws.{hit-edge}
use Rattle.stats.specs.Stats.{stats_of}
use Rattle.tally.specs.declared.Tally.{Tally}
use Rattle.tally.specs.TallyLaws.{tally-eq}
use Rattle.tally.specs.Counted.{hit_at, tally_of}
use Rattle.tally_kept.specs.Listed.{picked, listed_with, of_orientation, EqualsStatistics, Right}

-- ---- a column
module _ {A : Type 0} (d : A) (p : ℕ → Bool) (l : List A) where
  pub length-picked : (n : ℕ) → length (picked d p n l) ≡ count n p
  unfolding picked fold
  length-picked zero = refl
  length-picked (suc n) = go (p n) (length-picked n)
    where
      go : (b : Bool) → length (fold ◌++◌ [] n p (λ i. get_or l i d ∷ [])) ≡ count n p → length (put ◌++◌ b (fold ◌++◌ [] n p (λ i. get_or l i d ∷ [])) (get_or l n d ∷ [])) ≡ put ◌+◌ b (count n p) 1
      go true e = length-append (fold ◌++◌ [] n p (λ i. get_or l i d ∷ [])) (get_or l n d ∷ []) ∙ ap (λ (k : ℕ). k + 1) e
      go false e = e

  -- one that is not chosen
  pub picked-no : (n : ℕ) → p n ≡ false → picked d p (suc n) l ≡ picked d p n l
  unfolding picked fold
  picked-no n h = rw h

  -- one that is: the others stay, and it stands last
  pub picked-yes : (n : ℕ) → p n ≡ true → picked d p (suc n) l ≡ picked d p n l ++ get_or l n d ∷ []
  unfolding picked fold
  picked-yes n h = rw h

  pub picked-before : (n i : ℕ) → p n ≡ true → i < count n p → get_or (picked d p (suc n) l) i d ≡ get_or (picked d p n l) i d
  picked-before n i h m = ap (λ (x : List A). get_or x i d) (picked-yes n h) ∙ get_or-append (picked d p n l) (get_or l n d ∷ []) d i (omega (arith, length-picked n))

  pub picked_last : (n : ℕ) → p n ≡ true → get_or (picked d p (suc n) l) (count n p) d ≡ get_or l n d
  picked_last n h =
      ap (λ (x : List A). get_or x (count n p) d) (picked-yes n h)
      ∙ ap (λ (k : ℕ). get_or (picked d p n l ++ get_or l n d ∷ []) k d) (sym (length-picked n) ∙ plus_none (length (picked d p n l)))
      ∙ get_or-append-add (picked d p n l) (get_or l n d ∷ []) 0 d
    where
      plus_none : (k : ℕ) → k ≡ k + 0
      plus_none k = omega arith

-- ---- the list
-- edges with equal fields
pub edge-eq : {e f : Edge} → e.row ≡ f.row → e.col ≡ f.col → e.orientation ≡ f.orientation → e.bit ≡ f.bit → e ≡ f
edge-eq {e} {f} a b c d =
    ap₂ (λ x y. record { row = x; col = y; orientation = e.orientation; bit = e.bit }) a b
    ∙ ap₂ (λ x y. record { row = f.row; col = f.col; orientation = x; bit = y }) c d

module _ (B : Board) (E : EdgeList) (q : Square) (o : ℕ) where
  abbrev p : ℕ → Bool
  p = listed_with E o

  abbrev only : ℕ → EdgeList
  only n = of_orientation o n E

  pub size-only : (n : ℕ) → size (only n) ≡ count n p
  unfolding of_orientation
  size-only n = length-picked (pos 0) p E.rows n

  only-before : (n i : ℕ) → p n ≡ true → i < count n p → edge_at (only (suc n)) i ≡ edge_at (only n) i
  unfolding of_orientation
  only-before n i h m = edge-eq (picked-before (pos 0) p E.rows n i h m) (picked-before (pos 0) p E.cols n i h m) (picked-before 0 p E.orientations n i h m) (picked-before 0 p E.bits n i h m)

  only-last : (n : ℕ) → p n ≡ true → edge_at (only (suc n)) (count n p) ≡ edge_at E n
  unfolding of_orientation
  only-last n h = edge-eq (picked_last (pos 0) p E.rows n h) (picked_last (pos 0) p E.cols n h) (picked_last 0 p E.orientations n h) (picked_last 0 p E.bits n h)

  only_no : (n : ℕ) → p n ≡ false → only (suc n) ≡ only n
  unfolding of_orientation
  only_no n h =
      rw (picked-no (pos 0) p E.rows n h, picked-no (pos 0) p E.cols n h, picked-no 0 p E.orientations n h, picked-no 0 p E.bits n h, picked-no nan p E.confidences n h)

  -- an edge is a hit by its value alone
  same-hit : (L M : EdgeList) (i j : ℕ) → edge_at L i ≡ edge_at M j → hit_at B L q i ≡ hit_at B M q j
  same-hit L M i j e = sym (hit-edge B L q.transform q.row q.col i) ∙ ap (λ (x : Edge). edge_hit B x q) e ∙ hit-edge B M q.transform q.row q.col j

  abbrev listed_hit : ℕ → Bool
  listed_hit i = p i && hit_at B E q i

  -- its hits are the hits among the edges of that orientation
  pub hits-only : (n : ℕ) → count (count n p) (hit_at B (only n) q) ≡ count n listed_hit
  unfolding fold
  hits-only zero = refl
  hits-only (suc n) = go (p n) refl (hits-only n)
    where
      go : (b : Bool) → p n ≡ b → count (count n p) (hit_at B (only n) q) ≡ count n listed_hit
          → count (put ◌+◌ b (count n p) 1) (hit_at B (only (suc n)) q) ≡ put ◌+◌ (b && hit_at B E q n) (count n listed_hit) 1
      go true e ih =
          let s = fold-ext ◌+◌ 0 (count n p) (hit_at B (only (suc n)) q) (hit_at B (only n) q) one one (λ i l. same-hit (only (suc n)) (only n) i i (only-before n i e l)) (λ i l. refl) in
          let t = same-hit (only (suc n)) E (count n p) n (only-last n e) in
          ap (λ (k : ℕ). count k (hit_at B (only (suc n)) q)) (add-one (count n p))
          ∙ ap₂ (λ (x : Bool) (y : ℕ). put ◌+◌ x y 1) t (s ∙ ih)
      go false e ih = ap (λ (L : EdgeList). count (count n p) (hit_at B L q)) (only_no n e) ∙ ih

  -- hits and misses are all of them
  pub hits-and-misses : (n : ℕ) → count n listed_hit + count n (λ i. p i && not (hit_at B E q i)) ≡ count n p
  unfolding fold
  hits-and-misses zero = refl
  hits-and-misses (suc n) = go (p n) (hit_at B E q n) (count n listed_hit) (count n (λ i. p i && not (hit_at B E q i))) (count n p) (hits-and-misses n)
    where
      go : (a b : Bool) (x y z : ℕ) → x + y ≡ z → put ◌+◌ (a && b) x 1 + put ◌+◌ (a && not b) y 1 ≡ put ◌+◌ a z 1
      go true true x y z e = omega arith
      go true false x y z e = omega arith
      go false b x y z e = e

  -- so counted, in match statistics' words
  pub stats-hits : (n : ℕ) → count n listed_hit ≡ (stats_of (only n) q.transform q.row q.col B).hits
  unfolding stats_of hits
  stats-hits n = sym (hits-only n) ∙ ap (λ (k : ℕ). count k (hit_at B (only n) q)) (sym (size-only n))

  pub stats-edges : (n : ℕ) → count n p ≡ (stats_of (only n) q.transform q.row q.col B).edges
  unfolding stats_of
  stats-edges n = sym (size-only n)

-- ---- a record is right exactly where it equals match statistics' count
module _ (B : Board) (E : EdgeList) (T : Tally) where
  abbrev q : Square
  q = T.square

  abbrev n : ℕ
  n = T.edges

  pub right-equals : Right B E T → EqualsStatistics B E T
  unfolding tally_of
  right-equals h = record {
    horizontal_hits = ap (λ (x : Tally). x.horizontal_hits) h ∙ stats-hits B E q 0 n;
    horizontal_edges = ap₂ ◌+◌ (ap (λ (x : Tally). x.horizontal_hits) h) (ap (λ (x : Tally). x.horizontal_misses) h) ∙ hits-and-misses B E q 0 n ∙ stats-edges B E q 0 n;
    vertical_hits = ap (λ (x : Tally). x.vertical_hits) h ∙ stats-hits B E q 1 n;
    vertical_edges = ap₂ ◌+◌ (ap (λ (x : Tally). x.vertical_hits) h) (ap (λ (x : Tally). x.vertical_misses) h) ∙ hits-and-misses B E q 1 n ∙ stats-edges B E q 1 n;
  }

  rest : (a b c d e : ℕ) → a + b ≡ c → a ≡ d → d + e ≡ c → b ≡ e
  rest a b c d e f g h = omega arith

  pub equals-right : EqualsStatistics B E T → Right B E T
  unfolding tally_of
  equals-right s =
      let a = s.horizontal_hits ∙ sym (stats-hits B E q 0 n) in
      let b = s.vertical_hits ∙ sym (stats-hits B E q 1 n) in
      tally-eq q refl a (rest _ _ _ _ _ (s.horizontal_edges ∙ sym (stats-edges B E q 0 n)) a (hits-and-misses B E q 0 n)) b (rest _ _ _ _ _ (s.vertical_edges ∙ sym (stats-edges B E q 1 n)) b (hits-and-misses B E q 1 n))
