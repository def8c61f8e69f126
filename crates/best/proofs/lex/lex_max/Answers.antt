use mathlib.Core.Path.{sym, ap, subst, ◌∙◌}
use Rattle.best.specs.Lex.{lex_around, lex_of}
use Rattle.best.specs.LexLaws.{Most, best-most}
use Rattle.best.proofs.lex.lex_max.Goals as goal

pub lex_around-requires : goal.lex_around-requires
lex_around-requires c =
    let s = c in
    (s.requires, c.lex_best.ensures.1, subst (Most s.args.counts.now) (sym c.lex_best.ensures.0) (best-most s.args.counts.now s.args.weights.now))

pub returns : goal.returns
unfolding lex_of
returns c = c.lex_around.ensures ∙ ap (lex_around c.args.counts.now c.args.weights.now) c.lex_best.ensures.0
