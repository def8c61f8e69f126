-- After j turns the sum is what the first j groups add.
use mathlib.Core.Path.{◌≡◌}
use Prim.Native.Nat.{◌-◌, ◌≤◌}
use Rattle.terms.specs.Terms.{term_c, places_n}
use Rattle.unit_terms.proofs.fold_value.Given as goal

abbrev pub invariant-loop-j : goal.invariant-loop-j
invariant-loop-j l = (l.j ≤ 6) × (l.sum ≡ term_c l.j (places_n l.from l.values) l.pattern l.s)

abbrev pub decreases-loop-j : goal.decreases-loop-j
decreases-loop-j l = 6 - l.j
