-- Laws of likelihood sums: a group more in a term, a family more in a cell, and the cell's sum against the edges.
use Rattle.std.specs.Prelude.{◌≡◌, refl, List, ℤ, pos, nat_abs}
use Rattle.std.proofs.Common.{sym, ap₂, ◌∙◌, arith}
use Rattle.std.proofs.Math.Path.{ap}
use Rattle.std.proofs.Math.Bool.{Bool, true, false, cond}
use Prim.Native.Nat.{ℕ, zero, suc, ◌+◌, ◌*◌, ◌/◌, ◌%◌, ◌^◌, ◌≤◌, ◌<◌}
use Rattle.std.proofs.Math.IntN.{◌+ℤ◌, +ℤ_idr, +ℤ_assoc, +ℤ_comm}
use Rattle.laws.specs.Tests.{and_comm}
use Rattle.laws.specs.Words.{all, one}
use Rattle.laws.specs.DoubleCounting.{fold-ext, fold-where, fold-split}
use Rattle.board.specs.Hits.{EdgeList, Board, size, seen, look, horizontal}
use Rattle.board.specs.Sides.{on_side, table_of, period_of}
use Rattle.board.proofs.HitsLaws.{hit-class}
use Rattle.likelihood.specs.LikelihoodLaws.{quantised-size}
use Rattle.likelihood.specs.SumLaws.{cell-size}
use Rattle.groups.specs.Groups.{group_at, member, group_sum, group_count}
use Rattle.terms.specs.Terms.{agrees}
use Rattle.terms.specs.TermsLaws.{same-term}
use Rattle.cells.specs.Cells.{long_class, short_class, pattern_at, cell_sum, family, family_of}
use Rattle.tables.specs.CellsLaws.{cell_same, term-all, group-none, families-by-edges, class-by-edges}
use Rattle.sum_terms.specs.SumTermsLaws.{same-term_z}
use Rattle.sums.specs.Sums.{Likelihoods, match_at, mismatch_at, likelihood_at, gain, score, side_score, cell_score, LikelihoodsOk}
use Rattle.sums.specs.SumParts.{value_at, family_z}
use Rattle.sums.specs.SumsRoom.{group_score}

pub same-cell_z : (m m' u u' : ℕ → ℤ) (n : ℕ) → ((k : ℕ) → k < n * 6 → m k ≡ m' k) → ((k : ℕ) → k < n * 6 → u k ≡ u' k) → (ps : List ℕ) (lc s : ℕ)
    → cell_sum ◌+ℤ◌ (pos 0) (family_z m u) ps n lc s ≡ cell_sum ◌+ℤ◌ (pos 0) (family_z m' u') ps n lc s
same-cell_z m m' u u' n e f ps lc s =
    cell_same ◌+ℤ◌ (pos 0) (family_z m u) ps (family_z m' u') n lc s
    (λ i h p. same-term_z 6 (family m i) (family m' i) (family u i) (family u' i) p s (λ j l. e (i * 6 + j) (omega arith)) (λ j l. f (i * 6 + j) (omega arith)))

-- ---- sizes: one likelihood, one group
module _ (E : EdgeList) (X : Likelihoods) (ok : LikelihoodsOk E X) where
  pub value-small : (r i : ℕ) → i < size E → nat_abs (value_at X r i) ≤ 2 ^ 40
  value-small zero i h = quantised-size _ (ok.match i h)
  value-small (suc r) i h = quantised-size _ (ok.mismatch i h)

  pub gain-small : (t : Bool) (i : ℕ) → i < size E → nat_abs (cond t (match_at X i) (mismatch_at X i)) ≤ 2 ^ 40
  gain-small true i h = value-small 0 i h
  gain-small false i h = value-small 1 i h

  pub group-small : (B : Board) (t : ℕ) → size E ≤ 8192 → (r : ℕ) (s : Bool) (k : ℕ) → nat_abs (group_score B E X t r s k) ≤ 2 ^ 53
  group-small B t few r s k = cell-size (size E) (member B E t s k) (value_at X r) few (λ i h e. value-small r i h)

-- ---- the sums are those of the edges
module _ (B : Board) (E : EdgeList) (X : Likelihoods) (t : ℕ) where
  -- row by row or by hit and miss, a group's sums are the same
  held : (s : Bool) (k : ℕ) (b : Bool) → cond b (group_score B E X t 0 s k) (group_score B E X t 1 s k) ≡ group_sum ◌+ℤ◌ (pos 0) (likelihood_at X b) B E t s k
  held s k true = refl
  held s k false = refl

  -- a cell of likelihoods is the one construction of groups, terms and cells (`class_sum`), where misses add too: empty groups may be left out, as there
  pub score-class-sum : (s : Bool) (n lc sc : ℕ)
      → cell_sum ◌+ℤ◌ (pos 0) (family_z (group_score B E X t 0 s) (group_score B E X t 1 s)) (table_of B s) n lc sc
      ≡ cell_sum ◌+ℤ◌ (pos 0) (family_of ◌+ℤ◌ (pos 0) true (group_count B E t s) (λ b. group_sum ◌+ℤ◌ (pos 0) (likelihood_at X b) B E t s)) (table_of B s) n lc sc
  score-class-sum s n lc sc =
      cell_same ◌+ℤ◌ (pos 0) (family_z (group_score B E X t 0 s) (group_score B E X t 1 s)) (table_of B s) (family_of ◌+ℤ◌ (pos 0) true (group_count B E t s) (λ b. group_sum ◌+ℤ◌ (pos 0) (likelihood_at X b) B E t s)) n lc sc
      (λ f h p.
      same-term 6 one one p sc (λ j l. refl) ◌+ℤ◌ (pos 0) true _ _ (λ b j l. held s (f * 6 + j) b)
      ∙ sym (term-all ◌+ℤ◌ (pos 0) +ℤ_idr true 6 (family (group_count B E t s) f) (λ b. family (group_sum ◌+ℤ◌ (pos 0) (likelihood_at X b) B E t s) f) p sc (λ b j e. group-none ◌+ℤ◌ (pos 0) +ℤ_idr B E t s (likelihood_at X b) (f * 6 + j) e)))

  pub families-small : size E ≤ 8192 → LikelihoodsOk E X → (s : Bool) (n lc sc : ℕ)
      → nat_abs (cell_sum ◌+ℤ◌ (pos 0) (family_z (group_score B E X t 0 s) (group_score B E X t 1 s)) (table_of B s) n lc sc) ≤ 2 ^ 53
  families-small few ok s n lc sc =
      rw (score-class-sum s n lc sc, families-by-edges B E t ◌+ℤ◌ (pos 0) +ℤ_idr +ℤ_assoc +ℤ_comm true (likelihood_at X) s n lc sc)
      (cell-size (size E) _ _ few (λ i h e. gain-small E X ok (agrees (pattern_at (table_of B s) lc (group_at B E t s i / 6)) sc (group_at B E t s i % 6)) i h))

  module _ (some : (s : Bool) → 0 < period_of B s) (bits : (i : ℕ) → i < size E → seen E i < 2) where
    -- what all families add up to is the sum of the side at the class
    pub score-side : (s : Bool) (r c : ℕ)
        → cell_sum ◌+ℤ◌ (pos 0) (family_z (group_score B E X t 0 s) (group_score B E X t 1 s)) (table_of B s) (period_of B s) (cond s r c) (cond s c r) ≡ side_score B E X t s r c
    unfolding side_score
    score-side s r c =
        score-class-sum s (period_of B s) (cond s r c) (cond s c r)
        ∙ class-by-edges B E t some bits ◌+ℤ◌ (pos 0) +ℤ_idr +ℤ_assoc +ℤ_comm true (likelihood_at X) s r c
        ∙ fold-ext ◌+ℤ◌ (pos 0) (size E) _ _ _ _ (λ i l. and_comm (on_side E t s i) true) (λ i l. refl)

    -- the same by cell
    pub cell-score : (s : Bool) (k : ℕ)
        → cell_sum ◌+ℤ◌ (pos 0) (family_z (group_score B E X t 0 s) (group_score B E X t 1 s)) (table_of B s) (period_of B s) (long_class B s k) (short_class B s k) ≡ cell_score B E X t s k
    unfolding long_class short_class cell_score
    cell-score true k = score-side true (k / 3) (k % 3)
    cell-score false k = score-side false (k / period_of B false) (k % period_of B false)

-- ---- the sum of a placing is that of both sides, at its classes
module _ (B : Board) (E : EdgeList) (X : Likelihoods) (t : ℕ) (some : (s : Bool) → 0 < period_of B s) where
  either : (b : Bool) (x : ℤ) → x ≡ cond b x x
  either true x = refl
  either false x = refl

  score-class : (s : Bool) (r c : ℕ) → side_score B E X t s r c ≡ side_score B E X t s (r % cond s (period_of B true) 3) (c % cond s 3 (period_of B false))
  unfolding side_score
  score-class s r c = fold-where ◌+ℤ◌ (pos 0) (size E) (on_side E t s) _ _ (λ i l e. ap (λ b. cond b (match_at X i) (mismatch_at X i)) (hit-class B E t some s r c i e))

  both-scores : (r c : ℕ) → score B E X t r c ≡ side_score B E X t true r c +ℤ side_score B E X t false r c
  unfolding score side_score
  both-scores r c =
      let f = gain B E X t r c in
      let o : ℕ → Bool = λ i. horizontal (look E t i) in
      fold-ext ◌+ℤ◌ (pos 0) (size E) all all f (λ i. cond (o i) (f i) (f i)) (λ i l. refl) (λ i l. either (o i) (f i))
      ∙ fold-split ◌+ℤ◌ (pos 0) +ℤ_idr +ℤ_assoc +ℤ_comm (size E) all o f f

  pub score-by-class : (r c : ℕ) → score B E X t r c ≡ side_score B E X t true (r % period_of B true) (c % 3) +ℤ side_score B E X t false (r % 3) (c % period_of B false)
  score-by-class r c = both-scores r c ∙ ap₂ ◌+ℤ◌ (score-class true r c) (score-class false r c)
