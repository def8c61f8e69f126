-- Any two results that the exported hard decode allows are equal.
use Rattle.std.specs.Prelude.{◌≡◌, List, ℕ, Float}
use Rattle.std.proofs.Common.{sym, ap, ◌∙◌}
use Rattle.admission.specs.Calls.{HardCall}
use Rattle.decode_hard.specs.HardAnswerLaws.{hard-unique}
use Rattle.flat.specs.declared.flat.FlatAnswer.{FlatAnswer}
use Rattle.flat.specs.Flat.{flat}
use Rattle.export_hard.specs.Exports.{HardFlat}

-- any two results that the contract of hard decode allows are equal
pub hard-flat-unique : (call : HardCall) (c c' d' : List ℕ) (w w' x' : List Float) (r s : FlatAnswer)
    → HardFlat call c c' w w' r → HardFlat call c d' w x' s → (r ≡ s) × (c' ≡ d') × (w' ≡ x')
hard-flat-unique call c c' d' w w' x' r s p q =
    let u = hard-unique call c w c' d' w' x' p.told q.told p.done q.done in
    (p.shown ∙ ap flat u.0 ∙ sym q.shown, u.1, u.2)
