-- Any two results that the exported decode over a part allows are equal.
use Rattle.std.specs.Prelude.{◌≡◌, List, ℕ}
use Rattle.std.proofs.Common.{sym, ap, ◌∙◌}
use Rattle.admission.specs.Calls.{HardCall}
use Rattle.part.specs.declared.Part.{Part}
use Rattle.decode_part.specs.PartAnswerLaws.{part-call-unique}
use Rattle.flat_part.specs.declared.FlatPart.{FlatPart}
use Rattle.flat_part.specs.FlatPart.{flat_part}
use Rattle.export_part.specs.Exports.{PartFlat}

-- any two results that the contract of decode over a part allows are equal
pub part-flat-unique : (call : HardCall) (part : Part) (c c' d' : List ℕ) (u u' x' : List ℕ) (r s : FlatPart)
    → PartFlat call part c c' u u' r → PartFlat call part c d' u x' s → (r ≡ s) × (c' ≡ d') × (u' ≡ x')
part-flat-unique call part c c' d' u u' x' r s p q =
    let e = part-call-unique call part c u c' d' u' x' p.told q.told p.done q.done in
    (p.shown ∙ ap flat_part e.0 ∙ sym q.shown, e.1, e.2)
