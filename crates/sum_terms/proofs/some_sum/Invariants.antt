-- After j turns the first j match sums and the first j mismatch sums are all 0; one that is not 0 ends the search.
use mathlib.Core.Path.{◌≡◌}
use mathlib.Core.Bool.{false}
use Prim.Native.Nat.{◌-◌, ◌≤◌}
use Rattle.sum_terms.specs.SumTerms.{places_z, some_sum}
use Rattle.sum_terms.proofs.some_sum.Given as goal

abbrev pub invariant-loop-j : goal.invariant-loop-j
invariant-loop-j l = (l.j ≤ 6) × (some_sum l.j (places_z l.from l.sums) (places_z l.also l.sums) ≡ false)

abbrev pub decreases-loop-j : goal.decreases-loop-j
decreases-loop-j l = 6 - l.j
