-- Any two results that the exported exact decode allows are equal.
use Rattle.std.specs.Prelude.{◌≡◌, List, ℕ}
use Rattle.std.proofs.Common.{sym, ap, ◌∙◌}
use Rattle.admission.specs.Calls.{HardCall}
use Rattle.decode_exact.specs.ExactAnswerLaws.{exact-call-unique}
use Rattle.flat_exact.specs.declared.FlatExact.{FlatExact}
use Rattle.flat_exact.specs.FlatExact.{flat_exact}
use Rattle.export_exact.specs.Exports.{ExactFlat}

-- any two results that the contract of exact decode allows are equal
pub exact-flat-unique : (call : HardCall) (c c' d' : List ℕ) (u u' x' : List ℕ) (r s : FlatExact)
    → ExactFlat call c c' u u' r → ExactFlat call c d' u x' s → (r ≡ s) × (c' ≡ d') × (u' ≡ x')
exact-flat-unique call c c' d' u u' x' r s p q =
    let e = exact-call-unique call c u c' d' u' x' p.told q.told p.done q.done in
    (p.shown ∙ ap flat_exact e.0 ∙ sym q.shown, e.1, e.2)
