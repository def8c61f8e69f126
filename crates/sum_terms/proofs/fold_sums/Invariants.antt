use mathlib.Core.List.{[]}
use Prim.Native.Nat.{◌-◌, ◌≤◌}
use Rattle.laws.specs.Written.{Written}
use Rattle.sum_terms.specs.SumTerms.{places_z, row_z}
use Rattle.sum_terms.proofs.fold_sums.Given as goal

abbrev pub invariant-loop-pattern : goal.invariant-loop-pattern
invariant-loop-pattern l = (l.pattern ≤ 8) × Written [] (row_z (places_z l.from l.sums) (places_z l.also l.sums)) l.initial.terms l.terms l.pattern

abbrev pub decreases-loop-pattern : goal.decreases-loop-pattern
decreases-loop-pattern l = 8 - l.pattern
