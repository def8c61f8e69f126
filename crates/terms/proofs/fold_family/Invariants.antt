use mathlib.Core.List.{[]}
use Prim.Native.Nat.{◌-◌, ◌≤◌}
use Rattle.laws.specs.Written.{Written}
use Rattle.terms.specs.Terms.{places_n, places_f, row}
use Rattle.terms.proofs.fold_family.Given as goal

abbrev pub invariant-loop-pattern : goal.invariant-loop-pattern
invariant-loop-pattern l = (l.pattern ≤ 8) × Written [] (row (places_n l.from l.counts) (places_f l.from l.weights)) l.initial.terms l.terms l.pattern

abbrev pub decreases-loop-pattern : goal.decreases-loop-pattern
decreases-loop-pattern l = 8 - l.pattern
