use mathlib.Core.Path.{ap, ◌∙◌}
use Rattle.std.proofs.Common.{rules}
use borrow.Author.Tests.{le-ltb, ne_eqb, eqb-false}
use lib.ListN.{length}
use Rattle.laws.specs.Words.{above}
use Rattle.laws.specs.Best.{above-weak}
use Rattle.best.specs.AroundLaws.{equal-or-below}
use Rattle.values.specs.Values.{hits_of, v_at, n_at, tied_value, held_hits}
use Rattle.values.specs.ValuesLaws.{more-hits}
use Rattle.values.proofs.table.value_around.Goals as goal

pub returns : goal.returns
returns c =
    let xs = c.args.values.now in
    let cell = c.args.cell in
    let top = c.requires.2 in
    let told = c.around-told.ensures.told 0 (above (n_at xs)) (held_hits xs (n_at xs cell)) (tied_value xs (v_at xs cell)) (record {
      compares = λ i j r h k e. search rules;
      weak = above-weak (length xs) (n_at xs);
      top = λ i l. le-ltb (n_at xs cell) (n_at xs i) (more-hits (v_at xs i) (v_at xs cell) (top i l));
      tied = λ i l. equal-or-below (n_at xs i) (n_at xs cell) (more-hits (v_at xs i) (v_at xs cell) (top i l));
      same = λ i r l yes e. search rules;
      less = λ i l no. ne_eqb (v_at xs i) (v_at xs cell) (λ e. eqb-false (n_at xs i) (n_at xs cell) no (ap hits_of e));
    }) in
    let under = c.hits_of.ensures ∙ ap (n_at xs) told.2 in
    λ j. record { cell = cell; top = v_at xs cell; tied = told.1 j; held = told.0 j; second = told.2 j; under = under j }
