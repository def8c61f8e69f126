use mathlib.Core.Path.{sym, ap, ◌∙◌}
use Rattle.scan.specs.Lead.{ahead_of, ahead-takes}
use Rattle.scan.proofs.record.takes_over.Goals as goal

pub returns : goal.returns
returns c =
    let a = c.args in
    c.is_ahead.ensures ∙ ap (λ x. ahead_of x a.hits a.score) c.lead_of.ensures ∙ sym (ahead-takes a.kept a.hits a.score)
