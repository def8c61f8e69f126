-- After i turns the sum is what the first i groups hold.
use mathlib.Core.Path.{◌≡◌}
use Prim.Native.Nat.{◌+◌, ◌-◌, ◌≤◌}
use Rattle.laws.specs.Words.{fold, all}
use Rattle.terms.specs.Terms.{places_n}
use Rattle.unit_terms.proofs.values_held.Given as goal

abbrev pub invariant-loop-i : goal.invariant-loop-i
invariant-loop-i l = (l.i ≤ 6) × (l.sum ≡ fold ◌+◌ 0 l.i all (places_n l.from l.values))

abbrev pub decreases-loop-i : goal.decreases-loop-i
decreases-loop-i l = 6 - l.i
