-- Laws of the total confidence: nothing added, and one edge more.
use Rattle.std.specs.Prelude.{◌≡◌, refl, List, ℕ, ◌+◌, get_or, Float}
use Rattle.std.proofs.Common.{sym, ap, ◌∙◌}
use Rattle.std.specs.Float.{nan, binary32}
use Rattle.std.specs.Float.Ieee.{add}
use Rattle.laws.specs.Words.{all, zero_f}
use Rattle.laws.specs.Fold.{fold-zero, fold-hit}
use Rattle.figures.specs.Figures.{confidence_to}

pub confidence-none : (ws : List Float) → zero_f ≡ confidence_to ws 0
unfolding confidence_to
confidence-none ws = sym (fold-zero (add binary32) zero_f all (λ i. get_or ws i nan))

pub confidence-more : (ws : List Float) (i : ℕ) (x : Float) → x ≡ confidence_to ws i → add binary32 x (get_or ws i nan) ≡ confidence_to ws (i + 1)
unfolding confidence_to
confidence-more ws i x e = ap (λ (y : Float). add binary32 y (get_or ws i nan)) e ∙ sym (fold-hit (add binary32) zero_f all (λ k. get_or ws k nan) i refl)
