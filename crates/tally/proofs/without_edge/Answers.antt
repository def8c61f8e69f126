use mathlib.Core.Path.{ap, ◌∙◌}
use mathlib.Core.Bool.{Bool}
use Prim.Native.Nat.{◌-◌}
use Rattle.laws.specs.Words.{put}
use Rattle.tally.specs.TallyLaws.{tally-eq}
use Rattle.tally.specs.Tally.{without_edge}
use Rattle.tally.proofs.without_edge.Goals as goal

pub returns : goal.returns
unfolding without_edge
returns c =
    tally-eq _ c.less_if.ensures
    (c.less_if-2.ensures ∙ ap (λ (x : Bool). put ◌-◌ x c.args.tally.horizontal_hits 1) c.belongs.ensures)
    (c.less_if-3.ensures ∙ ap (λ (x : Bool). put ◌-◌ x c.args.tally.horizontal_misses 1) c.belongs-2.ensures)
    (c.less_if-4.ensures ∙ ap (λ (x : Bool). put ◌-◌ x c.args.tally.vertical_hits 1) c.belongs-3.ensures)
    (c.less_if-5.ensures ∙ ap (λ (x : Bool). put ◌-◌ x c.args.tally.vertical_misses 1) c.belongs-4.ensures)
