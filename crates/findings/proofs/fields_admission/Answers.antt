-- Each finding is the definition's, at the place that its check answers.
use mathlib.Core.Path.{ap₂, ◌∙◌}
use native.Mathlib.Omega.{arith}
use Rattle.findings.specs.Findings.{or_else}
use Rattle.findings.specs.FindingsLaws.{same_length, fields-found}
use Rattle.findings.proofs.fields_admission.Goals as goal

pub refused_at-orientation-requires : goal.refused_at-orientation-requires
refused_at-orientation-requires c = let p = c.requires in omega (arith, (same_length _ p.confidences_value).0, p.confidences_bound)

pub refused_at-bit-requires : goal.refused_at-bit-requires
refused_at-bit-requires c = let p = c.requires in omega (arith, (same_length _ p.confidences_value).1, p.confidences_bound)

pub refused_at-confidence-requires : goal.refused_at-confidence-requires
refused_at-confidence-requires c = let p = c.requires in omega (arith, (same_length _ p.confidences_value).2, p.confidences_bound)

pub returns : goal.returns
returns c =
    c.or_else-3.ensures
    ∙ ap₂ or_else c.refused_at-coordinate.ensures (c.or_else-2.ensures ∙ ap₂ or_else c.refused_at-orientation.ensures (c.or_else.ensures ∙ ap₂ or_else c.refused_at-bit.ensures c.refused_at-confidence.ensures))
    ∙ fields-found _ _ _ _ _ _ c.first_bad_coordinate.ensures c.first_bad_byte.ensures c.first_bad_byte-2.ensures c.first_bad_confidence.ensures
