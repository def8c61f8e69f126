-- Any two results that the exported soft decode allows are equal.
use Rattle.std.specs.Prelude.{◌≡◌, List, ℕ, ℤ, Float}
use Rattle.std.proofs.Common.{sym, ap, ◌∙◌}
use Rattle.admission.specs.Calls.{SoftCall}
use Rattle.decode_soft.specs.SoftAnswerLaws.{soft-unique}
use Rattle.flat.specs.declared.flat_soft.FlatSoft.{FlatSoft}
use Rattle.flat.specs.FlatSoft.{flat_soft}
use Rattle.export_soft.specs.Exports.{SoftFlat}

-- any two results that the contract of soft decode allows are equal
pub soft-flat-unique : (call : SoftCall) (c c' d' : List ℕ) (w w' x' : List Float) (a a' b' : List ℤ) (r s : FlatSoft)
    → SoftFlat call c c' w w' a a' r → SoftFlat call c d' w x' a b' s → (r ≡ s) × (c' ≡ d') × (w' ≡ x') × (a' ≡ b')
soft-flat-unique call c c' d' w w' x' a a' b' r s p q =
    let u = soft-unique call c w a c' d' w' x' a' b' p.told q.told p.done q.done in
    (p.shown ∙ ap flat_soft u.0 ∙ sym q.shown, u.1, u.2, u.3)
