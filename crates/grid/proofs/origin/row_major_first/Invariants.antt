use Prim.Native.Nat.{ℕ, ◌*◌}
use mathlib.Core.Path.{◌≡◌}
use mathlib.Core.Bool.{Bool}
use Rattle.laws.specs.Words.{origins}
use Rattle.grid.specs.RowMajor.{row_major, Tells}
use Rattle.grid.proofs.origin.row_major_first.Given as goal

abbrev pub invariant-loop-h : goal.invariant-loop-h
invariant-loop-h g l = (p q : ℕ → Bool) → Tells (3 * l.periods.h) (goal.H-post g l.across) p → Tells (3 * l.periods.v) (goal.V-post g l.down) q → l.best ≡ row_major (origins l.periods.h l.periods.v) (3 * l.periods.v) p q l.h
