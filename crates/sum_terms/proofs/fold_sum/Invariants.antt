use mathlib.Core.Path.{◌≡◌}
use Prim.Native.Nat.{◌-◌, ◌≤◌}
use Rattle.sum_terms.specs.SumTerms.{places_z, term_z}
use Rattle.sum_terms.proofs.fold_sum.Given as goal

abbrev pub invariant-loop-j : goal.invariant-loop-j
invariant-loop-j l = (l.j ≤ 6) × (l.sum ≡ term_z l.j (places_z l.from l.sums) (places_z l.also l.sums) l.pattern l.s)

abbrev pub decreases-loop-j : goal.decreases-loop-j
decreases-loop-j l = 6 - l.j
