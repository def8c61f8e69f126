-- Each cell in turn has room for its term and has it added; no two cells are one, so a later one is still as it was.
use mathlib.Core.Path.{◌≡◌, refl}
use mathlib.Core.List.{List}
use Prim.Native.Nat.{ℕ, ◌+◌, ◌*◌, ◌<◌}
use native.Mathlib.Omega.{arith}
use lib.Dec.{lit<}
use lib.ListN.{length, get_or, set}
use lib.Ieee.{Float, nan, binary32, add}
use Rattle.cells.specs.Spread.{Spread, spread_none, place-takes, place-more}
use Rattle.cells.specs.Credit.{stepped, term_in, WeightsFit}
use Rattle.terms.specs.declared.FamilyTerm.{FamilyTerm}
use Rattle.cells.proofs.add.add_class_weights.Goals as goal

module _ (cs : List Float) (at step : ℕ) (row : List FamilyTerm) (pre : WeightsFit (stepped at step) (term_in row) 3 cs) where
  abbrev old : List Float
  old = cs

  abbrev place : ℕ → ℕ
  place = stepped at step

  abbrev term : ℕ → Float
  term j = (term_in row j).weight

  within : (j : ℕ) → j < 3 → place j < length old
  within = pre.inside

  none : Spread nan (add binary32) place term 0 old old
  none = spread_none nan (add binary32) place term old

  -- the j-th cell, where those before have theirs
  module _ (j k : ℕ) (l : List Float) (h : j < 3) (e : k ≡ place j) (i : Spread nan (add binary32) place term j old l) where
    room : k < length l
    room = (place-takes nan (add binary32) _ place term 3 old pre j l i k (term j) h e refl).0

    more : (l' : List Float) → l' ≡ set l k (add binary32 (get_or l k nan) (term j)) → Spread nan (add binary32) place term (j + 1) old l'
    more l' p = place-more nan (add binary32) _ place term 3 old pre j l i k (term j) h e refl (j + 1) refl l' p

  module _ (l1 : List Float) (p1 : l1 ≡ set old at (add binary32 (get_or old at nan) (term 0))) where
    in1 : Spread nan (add binary32) place term 1 old l1
    in1 = more 0 at old (lit< tt) (omega arith) none l1 p1

    module _ (l2 : List Float) (p2 : l2 ≡ set l1 (at + step) (add binary32 (get_or l1 (at + step) nan) (term 1))) where
      in2 : Spread nan (add binary32) place term 2 old l2
      in2 = more 1 (at + step) l1 (lit< tt) (omega arith) in1 l2 p2

      module _ (l3 : List Float) (p3 : l3 ≡ set l2 (at + 2 * step) (add binary32 (get_or l2 (at + 2 * step) nan) (term 2))) where
        in3 : Spread nan (add binary32) place term 3 old l3
        in3 = more 2 (at + 2 * step) l2 (lit< tt) (omega arith) in2 l3 p3

pub add_weight-requires : goal.add_weight-requires
add_weight-requires c = room c.args.weights.now c.args.k c.args.step c.args.row c.requires 0 c.args.k (old c.args.weights.now c.args.k c.args.step c.args.row c.requires) (lit< tt) (omega arith) (none c.args.weights.now c.args.k c.args.step c.args.row c.requires)

pub overflow_add-k : goal.overflow_add-k
overflow_add-k c = omega (arith, within c.args.weights.now c.args.k c.args.step c.args.row c.requires 1 (lit< tt))

pub add_weight-requires-2 : goal.add_weight-requires-2
add_weight-requires-2 c = room c.args.weights.now c.args.k c.args.step c.args.row c.requires 1 (c.args.k + c.args.step) _ (lit< tt) (omega arith) (in1 c.args.weights.now c.args.k c.args.step c.args.row c.requires _ c.add_weight.ensures)

pub overflow_mul-step : goal.overflow_mul-step
overflow_mul-step c = omega (arith, within c.args.weights.now c.args.k c.args.step c.args.row c.requires 2 (lit< tt))

pub overflow_add-k-2 : goal.overflow_add-k-2
overflow_add-k-2 c = omega (arith, within c.args.weights.now c.args.k c.args.step c.args.row c.requires 2 (lit< tt))

pub add_weight-requires-3 : goal.add_weight-requires-3
add_weight-requires-3 c = room c.args.weights.now c.args.k c.args.step c.args.row c.requires 2 (c.args.k + 2 * c.args.step) _ (lit< tt) (omega arith) (in2 c.args.weights.now c.args.k c.args.step c.args.row c.requires _ c.add_weight.ensures _ c.add_weight-2.ensures)

pub returns : goal.returns
returns c = in3 c.args.weights.now c.args.k c.args.step c.args.row c.requires _ c.add_weight.ensures _ c.add_weight-2.ensures _ c.add_weight-3.ensures
