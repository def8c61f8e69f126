-- The lengths, the size, and then the fields, as the definition has them.
use Rattle.std.specs.Prelude.{Err}
use mathlib.Core.Path.{ap, sym, ◌∙◌}
use Rattle.findings.specs.FindingsLaws.{few-edges, list-lengths, list-size, list-fields}
use Rattle.findings.proofs.list_admission.Goals as goal

pub returns-then-lengths_differ : goal.returns-then-lengths_differ
returns-then-lengths_differ c = ap Err c.numbered.ensures ∙ list-lengths _ _ _ (sym c.lengths_differ.ensures ∙ c.if-lengths_differ.true)

pub returns-then-size_bad : goal.returns-then-size_bad
returns-then-size_bad c = ap Err c.numbered-then-size_bad.ensures ∙ list-size _ _ _ (sym c.lengths_differ.ensures ∙ c.if-lengths_differ.false) (sym c.size_bad.ensures ∙ c.if-size_bad.true)

pub fields_admission-requires : goal.fields_admission-requires
fields_admission-requires c =
    record {
      confidences_value = sym c.lengths_differ.ensures ∙ c.if-lengths_differ.false;
      confidences_bound = few-edges _ _ (sym c.size_bad.ensures ∙ c.if-size_bad.false);
    }

pub returns : goal.returns
returns c = c.fields_admission.ensures ∙ list-fields _ _ _ (sym c.lengths_differ.ensures ∙ c.if-lengths_differ.false) (sym c.size_bad.ensures ∙ c.if-size_bad.false)
