use Rattle.std.specs.Prelude.{Err}
use Rattle.tally_of.specs.BegunLaws.{begin-lengths, begin-long, begin-many, begin-front, front_of}
use mathlib.Core.Path.{sym, ap, ◌∙◌}
use Rattle.tally_of.proofs.tally_of.Goals as goal

pub returns-then-lengths_differ : goal.returns-then-lengths_differ
returns-then-lengths_differ c = ap Err c.numbered.ensures ∙ begin-lengths _ _ _ _ (sym c.lengths_differ.ensures ∙ c.if-lengths_differ.true)

pub returns-then-list-n : goal.returns-then-list-n
returns-then-list-n c = ap Err c.numbered-then-list-n.ensures ∙ begin-long _ _ _ _ (sym c.lengths_differ.ensures ∙ c.if-lengths_differ.false) c.if-list-n.true

pub returns-then-count-gt-MAX_EDGES : goal.returns-then-count-gt-MAX_EDGES
returns-then-count-gt-MAX_EDGES c = ap Err c.numbered-then-count-gt-MAX_EDGES.ensures ∙ begin-many _ _ _ _ (sym c.lengths_differ.ensures ∙ c.if-lengths_differ.false) c.if-list-n.false c.if-count-gt-MAX_EDGES.true

pub returns : goal.returns
returns c = c.count_all.ensures ∙ front_of _ c.args.count _ _ _ _ _ _ _ c.front.ensures c.front-2.ensures c.front-3.ensures c.front-4.ensures c.front-confidences.ensures ∙ begin-front _ _ _ _ (sym c.lengths_differ.ensures ∙ c.if-lengths_differ.false) c.if-list-n.false c.if-count-gt-MAX_EDGES.false
