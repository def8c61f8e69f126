-- Document 01, 'Class tables': likelihood sums. "Every cell's .. likelihood sum equals the edge-by-edge .. sum over the edges of its orientation; a hit adds the
-- match likelihood, a miss the other." Each likelihood is taken as the whole number that `quantised` gives.
use Rattle.std.specs.Prelude.{◌≡◌, Bool, true, cond, List, ℕ, ◌*◌, ◌/◌, ◌%◌, ◌<◌, get_or, length, ℤ, pos, ◌+ℤ◌}
use Rattle.std.specs.Float.{nan}
use Rattle.laws.specs.Words.{fold, all}
use Rattle.board.specs.Hits.{EdgeList, Board, size, hit}
use Rattle.board.specs.Sides.{on_side, period_of}
use Rattle.likelihood.specs.Likelihood.{acceptable, quantised}
pub use Rattle.likelihood.specs.Likelihood.{Likelihoods, likelihoods}
use Rattle.cells.specs.Listed.{listed}
use Rattle.cells.specs.Cells.{width}

-- of edge i, as whole numbers
abbrev pub match_at : Likelihoods → ℕ → ℤ
match_at X i = quantised (get_or X.matches i nan)

abbrev pub mismatch_at : Likelihoods → ℕ → ℤ
mismatch_at X i = quantised (get_or X.mismatches i nan)

-- "a hit adds the match likelihood, a miss the other"
abbrev pub likelihood_at : Likelihoods → Bool → ℕ → ℤ
likelihood_at X b i = cond b (match_at X i) (mismatch_at X i)

-- what edge i adds under the transform t at the origin (r, c)
abbrev pub gain : Board → EdgeList → Likelihoods → ℕ → ℕ → ℕ → ℕ → ℤ
gain B E X t r c i = likelihood_at X (hit B E t r c i) i

-- the likelihood sum of a placing, edge by edge
unfoldable pub score : Board → EdgeList → Likelihoods → ℕ → ℕ → ℕ → ℤ
score B E X t r c = fold ◌+ℤ◌ (pos 0) (size E) all (gain B E X t r c)

-- over the edges of one side
unfoldable pub side_score : Board → EdgeList → Likelihoods → ℕ → Bool → ℕ → ℕ → ℤ
side_score B E X t s r c = fold ◌+ℤ◌ (pos 0) (size E) (on_side E t s) (gain B E X t r c)

-- a cell's sum: that of its side's edges at the origin that is its class
unfoldable pub cell_score : Board → EdgeList → Likelihoods → ℕ → Bool → ℕ → ℤ
cell_score B E X t s k = side_score B E X t s (k / width B s) (k % width B s)

-- the table of transform t: the sums of the side s, cell by cell
unfoldable pub sums_of : Board → EdgeList → Likelihoods → ℕ → Bool → List ℤ
sums_of B E X t s = listed (3 * period_of B s) (cell_score B E X t s)

-- the likelihoods of a list are accepted: as many as edges, and "Each log likelihood is a finite f32 from -65,536 to 65,536"
pub record LikelihoodsOk (E : EdgeList) (X : Likelihoods) : Type 0 where
  pub matches : length X.matches ≡ size E
  pub mismatches : length X.mismatches ≡ size E
  pub match : (i : ℕ) → i < size E → acceptable (get_or X.matches i nan) ≡ true
  pub mismatch : (i : ℕ) → i < size E → acceptable (get_or X.mismatches i nan) ≡ true
