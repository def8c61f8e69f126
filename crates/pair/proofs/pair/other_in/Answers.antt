use mir.Syntax.{w64}
use mir.Val.{to_z, of_z}
use Rattle.level.specs.SumsLaws.{read-eq}
use Rattle.level.specs.Level.{s_at}
use native.Mathlib.Omega.{arith}
use mathlib.Core.Path.{refl, ◌∙◌}
use Rattle.grid.specs.BoardGrid.{none-small}
use Rattle.pair.specs.Pair.{other_in}
use Rattle.pair.specs.PairLaws.{other_step, other-kept}
use Rattle.pair.proofs.pair.other_in.Goals as goal

pub overflow_mul-none-3 : goal.overflow_mul-none-3
overflow_mul-none-3 c = record { fits = omega (arith, none-small _ _ c.requires.0 c.requires.1) }

pub returns-then-start-none : goal.returns-then-start-none
returns-then-start-none c = other-kept _ _ _ _ _ _ c.if-start-none.true

pub loop-v-init : goal.loop-v-init
unfolding other_in
loop-v-init c = refl

pub loop-v-preserved : goal.loop-v-preserved
loop-v-preserved c =
    let at = c in
    let said = read-eq (s_at at.args.sums.now at.loop-v.v) (to_z w64 (of_z w64 at.args.top)) c.is_tied-tied.result (omega arith) c.is_tied-tied.ensures in
    c.fill-found.ensures ∙ rw said (other_step _ _ _ _ _ _ _ at.loop-v.invariant)
