-- Each cell in turn has room for its term and has it added; no two cells are one, so a later one is still as it was.
use mathlib.Core.Path.{◌≡◌, refl}
use mathlib.Core.List.{List}
use Prim.Native.Nat.{ℕ, ◌+◌, ◌*◌, ◌<◌, ◌^◌}
use native.Mathlib.Omega.{arith}
use lib.Dec.{lit<}
use lib.ListN.{length, get_or, set}
use Rattle.cells.specs.Spread.{Spread, spread_none, place-takes, place-more}
use Rattle.cells.specs.Credit.{stepped, term_in, CountsFit}
use Rattle.terms.specs.declared.FamilyTerm.{FamilyTerm}
use Rattle.cells.proofs.add.add_class_counts.Goals as goal

module _ (cs : List ℕ) (at step : ℕ) (row : List FamilyTerm) (pre : CountsFit (stepped at step) (term_in row) 3 cs) where
  abbrev old : List ℕ
  old = cs

  abbrev place : ℕ → ℕ
  place = stepped at step

  abbrev term : ℕ → ℕ
  term j = (term_in row j).count

  within : (j : ℕ) → j < 3 → place j < length old
  within = pre.inside

  none : Spread 0 ◌+◌ place term 0 old old
  none = spread_none 0 ◌+◌ place term old

  -- the j-th cell, where those before have theirs
  module _ (j k : ℕ) (l : List ℕ) (h : j < 3) (e : k ≡ place j) (i : Spread 0 ◌+◌ place term j old l) where
    room : (k < length l) × (get_or l k 0 + term j < 2 ^ 32)
    room = place-takes 0 ◌+◌ _ place term 3 old pre j l i k (term j) h e refl

    more : (l' : List ℕ) → l' ≡ set l k (get_or l k 0 + term j) → Spread 0 ◌+◌ place term (j + 1) old l'
    more l' p = place-more 0 ◌+◌ _ place term 3 old pre j l i k (term j) h e refl (j + 1) refl l' p

  module _ (l1 : List ℕ) (p1 : l1 ≡ set old at (get_or old at 0 + term 0)) where
    in1 : Spread 0 ◌+◌ place term 1 old l1
    in1 = more 0 at old (lit< tt) (omega arith) none l1 p1

    module _ (l2 : List ℕ) (p2 : l2 ≡ set l1 (at + step) (get_or l1 (at + step) 0 + term 1)) where
      in2 : Spread 0 ◌+◌ place term 2 old l2
      in2 = more 1 (at + step) l1 (lit< tt) (omega arith) in1 l2 p2

      module _ (l3 : List ℕ) (p3 : l3 ≡ set l2 (at + 2 * step) (get_or l2 (at + 2 * step) 0 + term 2)) where
        in3 : Spread 0 ◌+◌ place term 3 old l3
        in3 = more 2 (at + 2 * step) l2 (lit< tt) (omega arith) in2 l3 p3

pub add_count-requires : goal.add_count-requires
add_count-requires c = room c.args.counts.now c.args.k c.args.step c.args.row c.requires 0 c.args.k (old c.args.counts.now c.args.k c.args.step c.args.row c.requires) (lit< tt) (omega arith) (none c.args.counts.now c.args.k c.args.step c.args.row c.requires)

pub overflow_add-k : goal.overflow_add-k
overflow_add-k c = omega (arith, within c.args.counts.now c.args.k c.args.step c.args.row c.requires 1 (lit< tt))

pub add_count-requires-2 : goal.add_count-requires-2
add_count-requires-2 c = room c.args.counts.now c.args.k c.args.step c.args.row c.requires 1 (c.args.k + c.args.step) _ (lit< tt) (omega arith) (in1 c.args.counts.now c.args.k c.args.step c.args.row c.requires _ c.add_count.ensures)

pub overflow_mul-step : goal.overflow_mul-step
overflow_mul-step c = omega (arith, within c.args.counts.now c.args.k c.args.step c.args.row c.requires 2 (lit< tt))

pub overflow_add-k-2 : goal.overflow_add-k-2
overflow_add-k-2 c = omega (arith, within c.args.counts.now c.args.k c.args.step c.args.row c.requires 2 (lit< tt))

pub add_count-requires-3 : goal.add_count-requires-3
add_count-requires-3 c = room c.args.counts.now c.args.k c.args.step c.args.row c.requires 2 (c.args.k + 2 * c.args.step) _ (lit< tt) (omega arith) (in2 c.args.counts.now c.args.k c.args.step c.args.row c.requires _ c.add_count.ensures _ c.add_count-2.ensures)

pub returns : goal.returns
returns c = in3 c.args.counts.now c.args.k c.args.step c.args.row c.requires _ c.add_count.ensures _ c.add_count-2.ensures _ c.add_count-3.ensures
