-- After i turns the best is the first best of the first i cells, by whatever the comparison says.
use Prim.Native.Nat.{ℕ, ◌<◌}
use mathlib.Core.Path.{◌≡◌}
use mathlib.Core.Bool.{Bool}
use lib.ListN.{length, get_or}
use Rattle.laws.specs.Words.{first_best}
use Rattle.best.specs.First.{Compares}
use Rattle.best.proofs.first.first_best.Given as goal

abbrev pub invariant-loop-i : goal.invariant-loop-i
invariant-loop-i g l =
    (l.best < length l.cells) × (l.top ≡ get_or l.cells l.best l.top)
    × ((d : _) (b : ℕ → ℕ → Bool) → Compares l.cells d (goal.B-post g l.beats) b → l.best ≡ first_best b l.i)
