use borrow.Author.Rules.{rules}
use mathlib.Core.Path.{◌≡◌, refl, sym, ap, ap₂, ◌∙◌}
use Rattle.laws.specs.Words.{first_best, heavier}
use Rattle.laws.specs.Best.{lex-not, best-new, best-old}
use Rattle.best.specs.CellTables.{c_at, w_at}
use Rattle.best.specs.Lex.{wins, order}
use native.Mathlib.Omega.{arith}
use Rattle.best.proofs.lex.lex_best.Goals as goal
use Rattle.best.proofs.lex.lex_best.Goals.{then-c-top+then-beats, then-c-top+else-beats, else-c-top}

pub loop-i-init : goal.loop-i-init
unfolding first_best
loop-i-init c = (search rules, refl, refl, refl)

pub loop-i-preserved : goal.loop-i-preserved
loop-i-preserved c =
    let l = c.loop-i in
    let inv = l.invariant in
    let a = c.args in
    let told : order a.counts.now a.weights.now l.i l.best ≡ wins (c_at a.counts.now l.i) (w_at a.weights.now l.i) l.top l.heavy = ap₂ (wins (c_at a.counts.now l.i) (w_at a.weights.now l.i)) (sym inv.2) (sym inv.3) in
    elim c.if-c-top.branch [
      | then-c-top+then-beats w ↦ (omega (arith, w.best-is), w.best-is ∙ best-new _ _ _ inv.1 (told ∙ sym w.beats.ensures ∙ w.if-beats.true), w.top-is ∙ ap (c_at a.counts.now) (sym w.best-is), w.heavy-is ∙ ap (w_at a.weights.now) (sym w.best-is))
      | then-c-top+else-beats w ↦ (omega (arith, w.best-is), w.best-is ∙ best-old _ _ _ inv.1 (told ∙ sym w.beats.ensures ∙ w.if-beats.false), w.top-is ∙ inv.2 ∙ ap (c_at a.counts.now) (sym w.best-is), w.heavy-is ∙ inv.3 ∙ ap (w_at a.weights.now) (sym w.best-is))
      | else-c-top w ↦ (omega (arith, w.best-is), w.best-is ∙ best-old _ _ _ inv.1 (lex-not (c_at a.counts.now) (heavier (w_at a.weights.now)) l.i l.best (omega (arith, w.if-c-top.false, inv.2)) (λ e. absurd (omega (arith, w.if-c-top.false, inv.2)))), w.top-is ∙ inv.2 ∙ ap (c_at a.counts.now) (sym w.best-is), w.heavy-is ∙ inv.3 ∙ ap (w_at a.weights.now) (sym w.best-is))
    ]
