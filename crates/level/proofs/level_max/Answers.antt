use mathlib.Core.Path.{sym, ap, subst, ◌∙◌}
use Rattle.level.specs.Level.{level_around, level_of}
use Rattle.level.specs.LevelLaws.{Top, largest}
use Rattle.level.proofs.level_max.Goals as goal

pub level_around-requires : goal.level_around-requires
level_around-requires c =
    let s = c.before in
    (s.requires, c.level_best.ensures.1, subst (Top s.args.sums.now) (sym c.level_best.ensures.0) (largest s.args.sums.now s.requires))

pub returns : goal.returns
unfolding level_of
returns c = c.level_around.ensures ∙ ap (level_around c.args.sums.now) c.level_best.ensures.0
