use borrow.Author.Rules.{rules}
use mathlib.Core.Path.{◌≡◌, refl, sym, ap, ap₂, ◌∙◌}
use Prim.Native.Nat.{ℕ, ◌+◌, ◌^◌, ◌<◌}
use native.Mathlib.Omega.{arith}
use lib.IntN.{ℤ, pos, nat_abs, ◌+ℤ◌}
use lib.ListN.{get_or}
use mir.Syntax.{w64}
use mir.Val.{to_z}
use Rattle.laws.specs.Words.{fold}
use Rattle.laws.specs.Signed.{read, fit_at, read_at}
use Rattle.terms.specs.Terms.{term_sum}
use Rattle.sum_terms.specs.SumTerms.{places_z, term_z}
use Rattle.sum_terms.specs.SumTermsLaws.{term-more, read-match, read-mismatch, term-small}
use Rattle.sum_terms.proofs.fold_sum.Goals as goal
use Rattle.sum_terms.proofs.fold_sum.Goals.{then-predicted-j, else-predicted-j}

pub loop-j-init : goal.loop-j-init
unfolding term_sum fold
loop-j-init c = (omega arith, refl)

-- the group that is read, and the sum with it
module _ (c : goal.After-sum-1) where
  abbrev old : ℤ
  old = get_or c.args.sums.now (c.if-predicted-j.start + c.loop-j.j) (pos 0)

  next : to_z w64 c.loop-j.sum-bits +ℤ old ≡ term_z (c.loop-j.j + 1) (places_z c.args.from c.args.sums.now) (places_z c.args.also c.args.sums.now) c.args.pattern c.args.s
  next =
      let a = c.args in
      let l = c.loop-j in
      let b = c.pattern_bit-predicted in
      ap₂ ◌+ℤ◌ l.invariant.1
      (elim c.if-predicted-j.branch [
        | then-predicted-j w ↦ read-match a.sums.now a.from a.also a.pattern a.s l.j b.result c.if-predicted-j.start b.ensures w.if-predicted-j.true w.start-is
        | else-predicted-j w ↦ read-mismatch a.sums.now a.from a.also a.pattern a.s l.j b.result c.if-predicted-j.start b.ensures w.if-predicted-j.false w.start-is
      ])
      ∙ sym (term-more a.sums.now a.from a.also a.pattern a.s l.j)

  next_small : nat_abs (term_z (c.loop-j.j + 1) (places_z c.args.from c.args.sums.now) (places_z c.args.also c.args.sums.now) c.args.pattern c.args.s) < 2 ^ 63
  next_small =
      let a = c.args in
      let h = c.loop-j-test.true in
      omega (arith, term-small (places_z a.from a.sums.now) (places_z a.also a.sums.now) (c.loop-j.j + 1) a.pattern a.s (λ i k. c.requires.twelve.small i (omega arith)) (omega arith))

-- the sum that is kept
kept : (c : goal.After-sum-1) → to_z w64 c.loop-j.sum-bits +ℤ read w64 (old c)
    ≡ term_z (c.loop-j.j + 1) (places_z c.args.from c.args.sums.now) (places_z c.args.also c.args.sums.now) c.args.pattern c.args.s
kept c = ap (λ (z : ℤ). to_z w64 c.loop-j.sum-bits +ℤ z) back ∙ next c
  where
    back : read w64 (old c) ≡ old c
    back = search rules

pub overflow_add-sum-in-loop-j : goal.overflow_add-sum-in-loop-j
overflow_add-sum-in-loop-j c = fit_at w64 (kept c) (next_small c)

pub loop-j-preserved : goal.loop-j-preserved
loop-j-preserved c = (omega arith, read_at w64 (kept c) (next_small c))

pub returns : goal.returns
returns c =
    let l = c.loop-j in
    let a = c.args in
    let e : l.j ≡ 6 = omega arith in
    l.invariant.1 ∙ ap (λ (n : ℕ). term_z n (places_z a.from a.sums.now) (places_z a.also a.sums.now) a.pattern a.s) e
