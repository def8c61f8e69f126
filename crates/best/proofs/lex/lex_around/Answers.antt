use mathlib.Core.Path.{◌≡◌, sym, ap, ◌∙◌}
use mathlib.Core.Bool.{Bool, ◌&&◌}
use Rattle.std.proofs.Common.{rules}
use lib.ListN.{length}
use Rattle.std.specs.Float.Ieee.{eq}
use borrow.Author.Tests.{le-ltb}
use Rattle.laws.specs.Words.{above}
use Rattle.laws.specs.Best.{above-weak}
use Rattle.best.specs.CellTables.{c_at, w_at}
use Rattle.best.specs.Lex.{tied_count, optimal}
use Rattle.best.specs.AroundLaws.{equal-or-below}
use Rattle.best.proofs.lex.lex_around.Goals as goal

pub returns : goal.returns
returns c =
    let cs = c.args.counts.now in
    let ws = c.args.weights.now in
    let cell = c.args.cell in
    let most = c.requires.2 in
    let told = c.around-told.ensures.told 0 (above (c_at cs)) (tied_count cs (c_at cs cell)) (optimal cs ws (c_at cs cell) (w_at ws cell)) (record {
      compares = λ i j r h k e. search rules;
      weak = above-weak (length cs) (c_at cs);
      top = λ i l. le-ltb (c_at cs cell) (c_at cs i) (most i l);
      tied = λ i l. equal-or-below (c_at cs i) (c_at cs cell) (most i l);
      same = λ i r l yes e. let says : r ≡ eq (w_at ws i) (w_at ws cell) = search rules in says ∙ ap (λ (t : Bool). t && eq (w_at ws i) (w_at ws cell)) (sym yes);
      less = λ i l no. ap (λ (t : Bool). t && eq (w_at ws i) (w_at ws cell)) no;
    }) in
    λ j. record { cell = cell; count = c_at cs cell; weight = w_at ws cell; tied = told.0 j; optimal = told.1 j; second = told.2 j; under = c_at cs (told.2 j) }
