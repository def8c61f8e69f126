use mathlib.Core.Path.{◌∙◌}
use Rattle.folding.specs.TransformLaws.{h-table, v-table, said-pair, said_ok, within-small, folded}
use native.Mathlib.Omega.{arith}
use Rattle.folding.proofs.transform.fold_transform.Goals as goal

pub lex_max-a-requires : goal.lex_max-a-requires
lex_max-a-requires c = h-table _ _ c.requires.0.0 c.requires.0.1 _ _ c.requires.0.2

pub lex_max-b-requires : goal.lex_max-b-requires
lex_max-b-requires c = v-table _ _ c.requires.0.0 c.requires.0.1 _ _ c.requires.0.2

pub best_origin-key-requires : goal.best_origin-key-requires
best_origin-key-requires c = (c.requires.0.0, c.requires.0.1, said-pair _ _ c.requires.0.0 c.requires.0.1 _ _ c.requires.0.2 _ _ c.lex_max-a.ensures c.lex_max-b.ensures)

pub overflow_add-hits : goal.overflow_add-hits
overflow_add-hits c = record { fits = omega (arith, (said_ok _ _ c.requires.0.0 c.requires.0.1 _ _ c.requires.0.2 _ _ _ c.lex_max-a.ensures c.lex_max-b.ensures c.best_origin-key.ensures).best.top) }

pub runner_up_within-within-requires : goal.runner_up_within-within-requires
runner_up_within-within-requires c = (c.requires.0.0, c.requires.0.1, (said_ok _ _ c.requires.0.0 c.requires.0.1 _ _ c.requires.0.2 _ _ _ c.lex_max-a.ensures c.lex_max-b.ensures c.best_origin-key.ensures).best)

pub summary-s-requires : goal.summary-s-requires
summary-s-requires c =
    let s = c.requires.0 in
    let k = said_ok _ _ s.0 s.1 _ _ s.2 _ _ _ c.lex_max-a.ensures c.lex_max-b.ensures c.best_origin-key.ensures in
    (s.1, k.first_small, within-small _ _ s.0 s.1 _ _ _ _ _ k c.runner_up_within-within.ensures)

pub offer_transform-kept-requires : goal.offer_transform-kept-requires
offer_transform-kept-requires c =
    let s = c.requires.0 in
    let k = said_ok _ _ s.0 s.1 _ _ s.2 _ _ _ c.lex_max-a.ensures c.lex_max-b.ensures c.best_origin-key.ensures in
    record {
      period = s;
      best_ok = (k.best, k.most, k.first_small);
    }

pub push-requires : goal.push-requires
push-requires c = c.requires.1

pub returns : goal.returns
returns c = c.push.ensures ∙ folded _ _ _ _ _ _ _ _ _ _ _ _ _ _ c.lex_max-a.ensures c.lex_max-b.ensures c.best_origin-key.ensures c.runner_up_within-within.ensures c.summary-s.ensures c.offer_transform-kept.ensures
