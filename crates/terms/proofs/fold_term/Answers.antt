use mathlib.Core.Path.{◌≡◌, refl, ap, ◌∙◌, sym}
use Prim.Native.Nat.{ℕ, ◌+◌, ◌≤◌}
use native.Mathlib.Omega.{arith}
use lib.Ieee.{add, binary32}
use Rattle.laws.specs.Words.{fold}
use Rattle.terms.specs.Terms.{term_sum, term, places_n, places_f}
use Rattle.terms.specs.TermsLaws.{so_far, term-empty, term-no, term-yes}
use Rattle.terms.proofs.fold_term.Goals as goal
use Rattle.terms.proofs.fold_term.Goals.{else-here-ne0, then-here-ne0+else-predicted-j, then-here-ne0+then-predicted-j}

pub loop-j-init : goal.loop-j-init
unfolding term_sum fold lib.Ieee.of_bits
loop-j-init c = (omega arith, refl, refl)

pub overflow_add-count : goal.overflow_add-count
overflow_add-count c =
    let l = c.loop-j in
    omega (arith, l.invariant.1, so_far (places_n c.args.from c.args.counts.now) c.args.pattern c.args.s l.j (omega arith), c.requires.six.few)

pub loop-j-preserved : goal.loop-j-preserved
loop-j-preserved c =
    let l = c.loop-j in
    let cs = places_n c.args.from c.args.counts.now in
    let ws = places_f c.args.from c.args.weights.now in
    elim c.if-here-ne0.branch [
      | then-here-ne0+then-predicted-j w ↦ let t = term-yes cs ws c.args.pattern c.args.s l.j w.pattern_bit-predicted.result w.if-here-ne0.true w.pattern_bit-predicted.ensures w.if-predicted-j.true in
          (omega arith, w.count-is ∙ ap (λ n. n + cs l.j) l.invariant.1 ∙ sym t.0, w.weight-is ∙ ap (λ x. add binary32 x (ws l.j)) l.invariant.2 ∙ sym t.1)
      | then-here-ne0+else-predicted-j w ↦ let t = term-no cs ws c.args.pattern c.args.s l.j w.pattern_bit-predicted.result w.if-here-ne0.true w.pattern_bit-predicted.ensures w.if-predicted-j.false in
          (omega arith, w.count-is ∙ l.invariant.1 ∙ sym t.0, w.weight-is ∙ l.invariant.2 ∙ sym t.1)
      | else-here-ne0 w ↦ let t = term-empty cs ws c.args.pattern c.args.s l.j w.if-here-ne0.false in
          (omega arith, w.count-is ∙ l.invariant.1 ∙ sym t.0, w.weight-is ∙ l.invariant.2 ∙ sym t.1)
    ]

done : (n : ℕ) → n ≤ 6 → 6 ≤ n → n ≡ 6
done n a b = omega arith

pub returns : goal.returns
unfolding term
returns c =
    let l = c.loop-j in
    let e = done l.j l.invariant.0 c.loop-j-test.false in
    cc (l.invariant.1, l.invariant.2, e)
