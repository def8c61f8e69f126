-- After each turn one row more is written, that of its pattern.
use mathlib.Core.List.{[]}
use Prim.Native.Nat.{◌-◌, ◌≤◌}
use Rattle.laws.specs.Written.{Written}
use Rattle.terms.specs.Terms.{places_n}
use Rattle.unit_terms.specs.UnitTerms.{value_row}
use Rattle.unit_terms.proofs.fold_values.Given as goal

abbrev pub invariant-loop-pattern : goal.invariant-loop-pattern
invariant-loop-pattern l = (l.pattern ≤ 8) × Written [] (value_row (places_n l.from l.values)) l.initial.terms l.terms l.pattern

abbrev pub decreases-loop-pattern : goal.decreases-loop-pattern
decreases-loop-pattern l = 8 - l.pattern
