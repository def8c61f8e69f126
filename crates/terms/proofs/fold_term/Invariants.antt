use mathlib.Core.Path.{◌≡◌}
use Prim.Native.Nat.{◌-◌, ◌≤◌}
use Rattle.terms.specs.Terms.{term_c, term_w, places_n, places_f}
use Rattle.terms.proofs.fold_term.Given as goal

abbrev pub invariant-loop-j : goal.invariant-loop-j
invariant-loop-j l = (l.j ≤ 6) × (l.count ≡ term_c l.j (places_n l.from l.counts) l.pattern l.s) × (l.weight ≡ term_w l.j (places_n l.from l.counts) (places_f l.from l.weights) l.pattern l.s)

abbrev pub decreases-loop-j : goal.decreases-loop-j
decreases-loop-j l = 6 - l.j
