-- One edge more of a weight that is counted edge by edge.
use Rattle.std.specs.Prelude.{◌≡◌, Bool}
use Rattle.std.proofs.Math.Path.{refl, sym, ap₂}
use Rattle.std.proofs.Common.{◌∙◌}
use Prim.Native.Nat.{ℕ, ◌+◌, ◌^◌, ◌≤◌}
use Rattle.laws.specs.Words.{put, fold}
use Rattle.laws.specs.Fold.{fold-zero, fold_more}
use Rattle.board.specs.Hits.{EdgeList, Board, size, hit}
use Rattle.board.specs.Domain.{ListOk}
use Rattle.groups.specs.Groups.{confidence_at}
use Rattle.unit_terms.specs.Values.{unit_of}
use Rattle.units.specs.Units.{unit_at}
use Rattle.units.specs.UnitsLaws.{units-few}
use Rattle.exact.specs.Winner.{weight_of_square}

module _ (B : Board) (E : EdgeList) (t row col : ℕ) where
  -- the weight of the first n edges
  unfoldable pub weight_to : ℕ → ℕ
  weight_to n = fold ◌+◌ 0 n (hit B E t row col) (unit_at E)

  pub weight-none : 0 ≡ weight_to 0
  unfolding weight_to
  weight-none = sym (fold-zero ◌+◌ 0 (hit B E t row col) (unit_at E))

  pub weight-more : (n s r : ℕ) (b : Bool) → s ≡ weight_to n → b ≡ hit B E t row col n → r ≡ put ◌+◌ b s (unit_of (confidence_at E n)) → r ≡ weight_to (n + 1)
  unfolding weight_to
  weight-more n s r b e h k = k ∙ ap₂ (λ (x : ℕ) (y : Bool). put ◌+◌ y x (unit_at E n)) e h ∙ sym (fold_more ◌+◌ 0 (hit B E t row col) (unit_at E) n)

  pub weight-small : ListOk E → (n : ℕ) → n ≤ size E → weight_to n ≤ 2 ^ 37
  unfolding weight_to
  weight-small list n l = units-few E list n (hit B E t row col) l

  pub weight-all : weight_to (size E) ≡ weight_of_square B E t row col
  unfolding weight_to
  weight-all = refl
