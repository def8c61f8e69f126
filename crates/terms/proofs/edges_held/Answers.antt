use mathlib.Core.Path.{sym}
use mathlib.Core.List.{List}
use Prim.Native.Nat.{ℕ, ◌+◌, ◌≤◌}
use native.Mathlib.Omega.{arith}
use lib.ListN.{get_or}
use Rattle.laws.specs.Words.{fold, all}
use Rattle.terms.specs.Terms.{places_n}
use Rattle.terms.specs.TermsLaws.{six-sum}
use borrow.Author.Rules.{rules}
use Rattle.terms.proofs.edges_held.Goals as goal

-- the six counts are few together
held : (cs : List ℕ) (from : ℕ) → fold ◌+◌ 0 6 all (places_n from cs) ≤ 8192
    → get_or cs from 0 + get_or cs (from + 1) 0 + (get_or cs (from + 2) 0 + get_or cs (from + 3) 0) + (get_or cs (from + 4) 0 + get_or cs (from + 5) 0) ≤ 8192
held cs from h = rw (six-sum cs from) at h

pub offset_bounds-counts-from : goal.offset_bounds-counts-from
offset_bounds-counts-from c = search rules

pub overflow_add-a-2 : goal.overflow_add-a-2
overflow_add-a-2 c = omega (arith, held c.args.counts.now c.args.from c.requires.1)

pub overflow_add-b-3 : goal.overflow_add-b-3
overflow_add-b-3 c = omega (arith, held c.args.counts.now c.args.from c.requires.1)

pub overflow_add-c-3 : goal.overflow_add-c-3
overflow_add-c-3 c = omega (arith, held c.args.counts.now c.args.from c.requires.1)

pub overflow_add-result : goal.overflow_add-result
overflow_add-result c = omega (arith, held c.args.counts.now c.args.from c.requires.1)

pub overflow_add-result-2 : goal.overflow_add-result-2
overflow_add-result-2 c = omega (arith, held c.args.counts.now c.args.from c.requires.1)

pub returns : goal.returns
returns c = sym (six-sum c.args.counts.now c.args.from)
