-- Any two results that the exported engine without tables allows are equal.
use Rattle.std.specs.Prelude.{◌≡◌, List, ℕ, Float}
use Rattle.std.proofs.Common.{sym, ap, ◌∙◌}
use Rattle.board.specs.Hits.{EdgeList, Board}
use Rattle.locate.specs.LocatedTheorems.{locate-unique}
use Rattle.flat_located.specs.declared.FlatLocated.{FlatLocated}
use Rattle.flat_located.specs.FlatLocated.{flat_located}
use Rattle.export_locate.specs.Exports.{LocateFlat}

-- any two results that the contract of the engine without tables allows are equal
pub locate-flat-unique : (B : Board) (E : EdgeList) (ts : List ℕ) (limit : Float) (r s : FlatLocated) → LocateFlat B E ts limit r → LocateFlat B E ts limit s → r ≡ s
locate-flat-unique B E ts limit r s p q = p.shown ∙ ap flat_located (locate-unique B E ts limit p.told q.told p.done q.done) ∙ sym q.shown
