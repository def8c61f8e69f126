use mir.Syntax.{w64}
use mir.Val.{to_z, of_z}
use Rattle.level.specs.SumsLaws.{read-eq}
use Rattle.level.specs.Level.{s_at}
use native.Mathlib.Omega.{arith}
use mathlib.Core.Path.{refl, sym, ◌∙◌}
use Rattle.grid.specs.BoardGrid.{none-small}
use Rattle.pair.specs.Pair.{other_pair}
use Rattle.pair.specs.PairLaws.{pair-no, pair-yes}
use Rattle.pair.proofs.pair.other_pair.Goals as goal
use Rattle.pair.proofs.pair.other_pair.Goals.{then-is_tied, else-is_tied}

pub overflow_mul-found-3 : goal.overflow_mul-found-3
overflow_mul-found-3 c = record { fits = omega (arith, none-small _ _ c.requires.0 c.requires.1) }

pub loop-h-init : goal.loop-h-init
unfolding other_pair
loop-h-init c = refl

pub loop-h-preserved : goal.loop-h-preserved
loop-h-preserved c =
    let at = c in
    let said = read-eq (s_at at.args.hs.now at.loop-h.h) (to_z w64 (of_z w64 at.args.ht)) c.is_tied.result (omega arith) c.is_tied.ensures in
    elim c.if-is_tied.branch [
      | then-is_tied w ↦ w.found-is ∙ w.other_in-found.ensures ∙ pair-yes _ _ _ _ _ _ _ at.loop-h.invariant (sym said ∙ w.if-is_tied.true)
      | else-is_tied w ↦ w.found-is ∙ pair-no _ _ _ _ _ _ _ at.loop-h.invariant (sym said ∙ w.if-is_tied.false)
    ]
