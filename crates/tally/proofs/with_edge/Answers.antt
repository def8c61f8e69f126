use mathlib.Core.Path.{refl, ap, ◌∙◌}
use mathlib.Core.Bool.{Bool}
use Prim.Native.Nat.{◌+◌}
use Rattle.laws.specs.Words.{put}
use Rattle.tally.specs.TallyLaws.{tally-eq}
use Rattle.tally.specs.Tally.{with_edge}
use Rattle.tally.proofs.with_edge.Goals as goal

pub returns : goal.returns
unfolding with_edge
returns c =
    tally-eq _ refl
    (c.more_if.ensures ∙ ap (λ (x : Bool). put ◌+◌ x c.args.tally.horizontal_hits 1) c.belongs.ensures)
    (c.more_if-2.ensures ∙ ap (λ (x : Bool). put ◌+◌ x c.args.tally.horizontal_misses 1) c.belongs-2.ensures)
    (c.more_if-3.ensures ∙ ap (λ (x : Bool). put ◌+◌ x c.args.tally.vertical_hits 1) c.belongs-3.ensures)
    (c.more_if-4.ensures ∙ ap (λ (x : Bool). put ◌+◌ x c.args.tally.vertical_misses 1) c.belongs-4.ensures)
