-- A small list counted by hand, as a claim on the definitions. Document 01's own numbers stand in the crate `claims`.
use Rattle.std.specs.Prelude.{◌≡◌, refl, [], ◌∷◌, pos}
use Rattle.laws.specs.Words.{fold, emod}
use Rattle.board.specs.Transform.{lookup_of, mat, matrices}
use Rattle.board.specs.Hits.{edges, tables, look, predicted, hit, hits}

-- two edges over tables of periods 4 and 5, one of them a hit
pub two : hits (tables (1 ∷ 2 ∷ 4 ∷ 7 ∷ []) (5 ∷ 2 ∷ 6 ∷ 0 ∷ 6 ∷ [])) (edges (pos 1 ∷ pos 0 ∷ []) (pos 0 ∷ pos 0 ∷ []) (0 ∷ 1 ∷ []) (1 ∷ 1 ∷ []) []) 0 0 0 ≡ 1
unfolding hits hit look predicted lookup_of mat matrices emod fold
two = refl
