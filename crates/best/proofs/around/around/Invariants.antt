-- After i turns the first i cells are told of: how many tie, how many are alike, and the first best of the others.
use Prim.Native.Nat.{ℕ, ◌<◌, ◌≤◌}
use mathlib.Core.Path.{◌≡◌}
use mathlib.Core.Bool.{Bool}
use lib.ListN.{length, get_or}
use Rattle.best.specs.Around.{Walk, Told}
use Rattle.best.proofs.around.around.Given as goal

abbrev pub invariant-loop-i : goal.invariant-loop-i
invariant-loop-i g l =
    ((l.tied ≤ l.i) × (l.alike ≤ l.i))
    × (l.second < length l.cells)
    × (l.under ≡ get_or l.cells l.second l.under)
    × ((d : _) (b : ℕ → ℕ → Bool) (p q : ℕ → Bool) → Walk l.cells d l.cell (goal.B-post g l.beats) (goal.S-post g l.same) b p q → Told l.i l.cell b p q l.tied l.alike l.second)
