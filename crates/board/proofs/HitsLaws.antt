-- Laws of the hits: hits plus misses is the list's length, the hits are those of both sides, and an origin matters only by its classes.
use Rattle.std.specs.Prelude.{◌≡◌, List, Bool, not, ◌&&◌, eqb, get_or, length, ℤ, pos, ◌+ℤ◌}
use Rattle.std.proofs.Math.Path.{refl, ap₂}
use Rattle.std.proofs.Common.{sym, ap, ◌∙◌, lit<}
use Rattle.std.proofs.Math.Bool.{true, false, cond}
use Prim.Native.Nat.{ℕ, zero, suc, ◌+◌, ◌%◌, ◌≤◌, ◌<◌}
use Rattle.std.proofs.Math.Nat.{add_comm, add-zero, add_assoc}
use native.Mathlib.Omega.{arith}
use Rattle.std.proofs.lemmas.Bool.{not-true}
use Rattle.laws.specs.Tests.{and_comm, and-ext}
use Rattle.laws.specs.Words.{put, fold, one, count, joint}
use Rattle.laws.specs.Counting.{count-le}
use Rattle.laws.specs.DoubleCounting.{fold-ext, fold-split}
use Rattle.laws.specs.RemainderLaws.{emod-class}
use Rattle.laws.specs.Residues.{joint-long, joint-short}
use Rattle.board.specs.Hits.{EdgeList, Board, size, seen, edge_at, look, horizontal, bit_at, pattern_bit, predicted, edge_hit, hit, hits, misses}
use Rattle.board.specs.Sides.{on_side, table_of, period_of, long_of, short_of, side_hits}
use Rattle.board.specs.Domain.{BoardOk}

three : 0 < 3
three = lit< tt

-- of one table: the bit at (long + a, short + s) is that at their classes
pub bit-class : (ps : List ℕ) → 0 < length ps → (x y : ℤ) (a s : ℕ) → pattern_bit ps (x +ℤ pos a) (y +ℤ pos s) ≡ pattern_bit ps (x +ℤ pos (a % length ps)) (y +ℤ pos (s % 3))
bit-class ps some x y a s = ap₂ (λ (p j : ℕ). bit_at (get_or ps p 0) j) (emod-class x a (length ps) some) (emod-class y s 3 three)

module _ (B : Board) (E : EdgeList) (t : ℕ) where
  -- ---- hits and misses
  pub hits-misses : (r c : ℕ) → hits B E t r c + misses B E t r c ≡ size E
  unfolding hits misses fold
  hits-misses r c = go (size E)
    where
      one_more : (b : Bool) (x y n : ℕ) → x + y ≡ n → put ◌+◌ b x 1 + put ◌+◌ (not b) y 1 ≡ suc n
      one_more true x y n e = omega arith
      one_more false x y n e = omega arith

      go : (n : ℕ) → count n (hit B E t r c) + count n (λ i. not (hit B E t r c i)) ≡ n
      go zero = refl
      go (suc n) = one_more (hit B E t r c n) (count n (hit B E t r c)) (count n (λ i. not (hit B E t r c i))) n (go n)

  pub hits-le : (r c : ℕ) → hits B E t r c ≤ size E
  unfolding hits
  hits-le r c = count-le (hit B E t r c) (size E)

  -- ---- an edge of the list, by value
  pub hit-edge : (r c i : ℕ) → edge_hit B (edge_at E i) (record { transform = t; row = r; col = c }) ≡ hit B E t r c i
  unfolding edge_hit hit look
  hit-edge r c i = refl

  -- ---- an edge of the side s: its bit against the pattern's
  pub hit-side : (s : Bool) (r c i : ℕ) → on_side E t s i ≡ true
      → hit B E t r c i ≡ eqb (pattern_bit (table_of B s) (long_of E t s i +ℤ pos (cond s r c)) (short_of E t s i +ℤ pos (cond s c r))) (seen E i)
  unfolding hit predicted
  hit-side true r c i e = rw e
  hit-side false r c i e = rw (not-true (horizontal (look E t i)) e)

  -- ---- the hits are those of both sides
  same : (b : Bool) → ◌≡◌ {A = ℕ} 1 (cond b 1 1)
  same true = refl
  same false = refl

  pub both-sides : (r c : ℕ) → hits B E t r c ≡ side_hits B E t true r c + side_hits B E t false r c
  unfolding hits side_hits
  both-sides r c =
      fold-ext ◌+◌ 0 (size E) (hit B E t r c) (hit B E t r c) one (λ i. cond (horizontal (look E t i)) 1 1) (λ i l. refl) (λ i l. same (horizontal (look E t i)))
      ∙ fold-split ◌+◌ 0 add-zero add_assoc add_comm (size E) (hit B E t r c) (λ i. horizontal (look E t i)) one one
      ∙ ap₂ ◌+◌ (turn true) (turn false)
    where
      turn : (s : Bool) → count (size E) (λ i. hit B E t r c i && on_side E t s i) ≡ count (size E) (λ i. on_side E t s i && hit B E t r c i)
      turn s = fold-ext ◌+◌ 0 (size E) _ _ one one (λ i l. and_comm (hit B E t r c i) (on_side E t s i)) (λ i l. refl)

  module _ (some : (s : Bool) → 0 < period_of B s) where
    -- ---- an origin matters only by its classes: (r mod L, c mod 3) on the horizontal side, (r mod 3, c mod M) on the vertical
    pub hit-class : (s : Bool) (r c i : ℕ) → on_side E t s i ≡ true → hit B E t r c i ≡ hit B E t (r % cond s (length B.h) 3) (c % cond s 3 (length B.v)) i
    hit-class true r c i e = hit-side true r c i e ∙ ap (λ p. eqb p (seen E i)) (bit-class B.h (some true) (long_of E t true i) (short_of E t true i) r c) ∙ sym (hit-side true (r % length B.h) (c % 3) i e)
    hit-class false r c i e = hit-side false r c i e ∙ ap (λ p. eqb p (seen E i)) (bit-class B.v (some false) (long_of E t false i) (short_of E t false i) c r) ∙ sym (hit-side false (r % 3) (c % length B.v) i e)

    pub side-class : (s : Bool) (r c : ℕ) → side_hits B E t s r c ≡ side_hits B E t s (r % cond s (length B.h) 3) (c % cond s 3 (length B.v))
    unfolding side_hits
    side-class s r c = fold-ext ◌+◌ 0 (size E) _ _ one one (λ i l. and-ext (on_side E t s i) (hit-class s r c i)) (λ i l. refl)

    pub hits-by-class : (r c : ℕ) → hits B E t r c ≡ side_hits B E t true (r % length B.h) (c % 3) + side_hits B E t false (r % 3) (c % length B.v)
    hits-by-class r c = both-sides r c ∙ ap₂ ◌+◌ (side-class true r c) (side-class false r c)

-- what an accepted board's tables are known for
pub side-some : (B : Board) → BoardOk B → (s : Bool) → 0 < period_of B s
side-some B ok true = omega (arith, ok.h.some)
side-some B ok false = omega (arith, ok.v.some)

-- the horizontal cell (ha, hb) and the vertical cell (va, vb) name one origin, and its hits are theirs, added
pub pair-hits : (B : Board) (E : EdgeList) (t : ℕ) → BoardOk B → (ha hb va vb : ℕ) → ha < period_of B true → hb < 3 → va < 3 → vb < period_of B false
    → hits B E t (joint (period_of B true) va ha) (joint (period_of B false) hb vb) ≡ side_hits B E t true ha hb + side_hits B E t false va vb
pair-hits B E t ok ha hb va vb h k m n =
    let L = period_of B true in
    let M = period_of B false in
    let p = side-some B ok in
    hits-by-class B E t p (joint L va ha) (joint M hb vb)
    ∙ ap₂ ◌+◌
    (ap₂ (side_hits B E t true) (joint-long L (p true) ok.h.free va ha h) (joint-short M (p false) ok.v.free hb vb k))
    (ap₂ (side_hits B E t false) (joint-short L (p true) ok.h.free va ha m) (joint-long M (p false) ok.v.free hb vb n))
