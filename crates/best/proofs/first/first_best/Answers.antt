-- `first_best`: a cell that beats the best so far is the new one, and any other leaves it.
use mathlib.Core.Path.{◌≡◌, refl, sym, ap, ◌∙◌}
use native.Mathlib.Omega.{arith}
use lib.ListN.{length}
use Rattle.std.proofs.lemmas.List.{get_or_read_under}
use Rattle.laws.specs.Words.{first_best}
use Rattle.laws.specs.Best.{best-new, best-old}
use Rattle.best.proofs.first.first_best.Goals as goal
use Rattle.best.proofs.first.first_best.Goals.{then-beats, else-beats}

pub loop-i-init : goal.loop-i-init
unfolding first_best
loop-i-init g c = (omega arith, c.index-cells-0.is, λ d b told. refl)

pub loop-i-preserved : goal.loop-i-preserved
loop-i-preserved g c =
    let inv = c.loop-i.invariant in
    let xs = c.args.cells.now in
    let i = c.loop-i.i in
    let best = c.loop-i.best in
    elim c.if-beats.branch [
      | then-beats w ↦ (
        omega (arith, w.best-is),
        rw (w.best-is, w.top-is) c.index-cells-i.is,
        λ d b told.
            let here = get_or_read_under xs i (length xs) c.index-cells-i.result d c.index-cells-i.is c.loop-i-test.true refl in
            let there = get_or_read_under xs best (length xs) c.loop-i.top d inv.1 inv.0 refl in
            w.best-is ∙ best-new _ _ _ (inv.2 d b told)
            (sym (told i best c.beats.result c.loop-i-test.true inv.0 (rw (← here, ← there) c.beats.ensures)) ∙ w.if-beats.true),
      )
      | else-beats w ↦ (
        omega (arith, w.best-is),
        rw (w.best-is, w.top-is) inv.1,
        λ d b told.
            let here = get_or_read_under xs i (length xs) c.index-cells-i.result d c.index-cells-i.is c.loop-i-test.true refl in
            let there = get_or_read_under xs best (length xs) c.loop-i.top d inv.1 inv.0 refl in
            w.best-is ∙ best-old _ _ _ (inv.2 d b told)
            (sym (told i best c.beats.result c.loop-i-test.true inv.0 (rw (← here, ← there) c.beats.ensures)) ∙ w.if-beats.false),
      )
    ]

pub returns-clause-first : goal.returns-clause-first
returns-clause-first g c d b told =
    let e : c.loop-i.i ≡ length c.args.cells.now = omega arith in
    c.loop-i.invariant.2 d b told ∙ ap (first_best b) e
