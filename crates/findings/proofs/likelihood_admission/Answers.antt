-- The lengths, the size, and then the likelihoods, as the definition has them.
use Rattle.std.specs.Prelude.{Err}
use mathlib.Core.Path.{ap, sym, ◌∙◌}
use Rattle.findings.specs.FindingsLaws.{few-edges, likelihood-lengths, likelihood-size, likelihood-found}
use Rattle.findings.proofs.likelihood_admission.Goals as goal

pub returns-then-likelihoods_differ : goal.returns-then-likelihoods_differ
returns-then-likelihoods_differ c = ap Err c.numbered.ensures ∙ likelihood-lengths _ _ _ (sym c.likelihoods_differ.ensures ∙ c.if-likelihoods_differ.true)

pub returns-then-size_bad : goal.returns-then-size_bad
returns-then-size_bad c = ap Err c.numbered-then-size_bad.ensures ∙ likelihood-size _ _ _ (sym c.likelihoods_differ.ensures ∙ c.if-likelihoods_differ.false) (sym c.size_bad.ensures ∙ c.if-size_bad.true)

pub refused_at-requires : goal.refused_at-requires
refused_at-requires c = few-edges _ _ (sym c.size_bad.ensures ∙ c.if-size_bad.false)

pub returns : goal.returns
returns c =
    c.refused_at.ensures
    ∙ likelihood-found _ _ _ _ c.first_bad_likelihood.ensures (sym c.likelihoods_differ.ensures ∙ c.if-likelihoods_differ.false) (sym c.size_bad.ensures ∙ c.if-size_bad.false)
