-- Each cell in turn has room for its term and has it added; no two cells are one, so a later one is still as it was.
use mathlib.Core.Path.{◌≡◌, refl}
use mathlib.Core.List.{List, [], ◌∷◌}
use Prim.Native.Nat.{ℕ, ◌+◌, ◌<◌, ◌^◌}
use native.Mathlib.Omega.{arith}
use lib.Dec.{lit<}
use lib.ListN.{length, get_or, set}
use Rattle.cells.specs.Spread.{Spread, spread_none, place-takes, place-more}
use Rattle.cells.specs.Credit.{stepped, term_in, CountsFit}
use Rattle.terms.specs.declared.FamilyTerm.{FamilyTerm}
use Rattle.cells.proofs.add.add_four_counts.Goals as goal

module _ (cs : List ℕ) (at : ℕ) (row : List FamilyTerm) (pre : CountsFit (stepped at 1) (term_in row) 4 cs) where
  abbrev old : List ℕ
  old = cs

  abbrev place : ℕ → ℕ
  place = stepped at 1

  abbrev term : ℕ → ℕ
  term j = (term_in row j).count

  within : (j : ℕ) → j < 4 → place j < length old
  within = pre.inside

  none : Spread 0 ◌+◌ place term 0 old old
  none = spread_none 0 ◌+◌ place term old

  -- the j-th cell, where those before have theirs
  module _ (j k : ℕ) (l : List ℕ) (h : j < 4) (e : k ≡ place j) (i : Spread 0 ◌+◌ place term j old l) where
    room : (k < length l) × (get_or l k 0 + term j < 2 ^ 32)
    room = place-takes 0 ◌+◌ _ place term 4 old pre j l i k (term j) h e refl

    more : (l' : List ℕ) → l' ≡ set l k (get_or l k 0 + term j) → Spread 0 ◌+◌ place term (j + 1) old l'
    more l' p = place-more 0 ◌+◌ _ place term 4 old pre j l i k (term j) h e refl (j + 1) refl l' p

  module _ (l1 : List ℕ) (p1 : l1 ≡ set old at (get_or old at 0 + term 0)) where
    in1 : Spread 0 ◌+◌ place term 1 old l1
    in1 = more 0 at old (lit< tt) (omega arith) none l1 p1

    module _ (l2 : List ℕ) (p2 : l2 ≡ set l1 (at + 1) (get_or l1 (at + 1) 0 + term 1)) where
      in2 : Spread 0 ◌+◌ place term 2 old l2
      in2 = more 1 (at + 1) l1 (lit< tt) (omega arith) in1 l2 p2

      module _ (l3 : List ℕ) (p3 : l3 ≡ set l2 (at + 2) (get_or l2 (at + 2) 0 + term 2)) where
        in3 : Spread 0 ◌+◌ place term 3 old l3
        in3 = more 2 (at + 2) l2 (lit< tt) (omega arith) in2 l3 p3

        module _ (l4 : List ℕ) (p4 : l4 ≡ set l3 (at + 3) (get_or l3 (at + 3) 0 + term 3)) where
          in4 : Spread 0 ◌+◌ place term 4 old l4
          in4 = more 3 (at + 3) l3 (lit< tt) (omega arith) in3 l4 p4

pub add_count-requires : goal.add_count-requires
add_count-requires c = room c.args.counts.now c.args.k (c.args.a ∷ c.args.b ∷ c.args.c ∷ c.args.d ∷ []) c.requires 0 c.args.k (old c.args.counts.now c.args.k (c.args.a ∷ c.args.b ∷ c.args.c ∷ c.args.d ∷ []) c.requires) (lit< tt) (omega arith) (none c.args.counts.now c.args.k (c.args.a ∷ c.args.b ∷ c.args.c ∷ c.args.d ∷ []) c.requires)

pub overflow_add-k : goal.overflow_add-k
overflow_add-k c = omega (arith, within c.args.counts.now c.args.k (c.args.a ∷ c.args.b ∷ c.args.c ∷ c.args.d ∷ []) c.requires 1 (lit< tt))

pub add_count-requires-2 : goal.add_count-requires-2
add_count-requires-2 c = room c.args.counts.now c.args.k (c.args.a ∷ c.args.b ∷ c.args.c ∷ c.args.d ∷ []) c.requires 1 (c.args.k + 1) _ (lit< tt) (omega arith) (in1 c.args.counts.now c.args.k (c.args.a ∷ c.args.b ∷ c.args.c ∷ c.args.d ∷ []) c.requires _ c.add_count.ensures)

pub overflow_add-k-2 : goal.overflow_add-k-2
overflow_add-k-2 c = omega (arith, within c.args.counts.now c.args.k (c.args.a ∷ c.args.b ∷ c.args.c ∷ c.args.d ∷ []) c.requires 2 (lit< tt))

pub add_count-requires-3 : goal.add_count-requires-3
add_count-requires-3 c = room c.args.counts.now c.args.k (c.args.a ∷ c.args.b ∷ c.args.c ∷ c.args.d ∷ []) c.requires 2 (c.args.k + 2) _ (lit< tt) (omega arith) (in2 c.args.counts.now c.args.k (c.args.a ∷ c.args.b ∷ c.args.c ∷ c.args.d ∷ []) c.requires _ c.add_count.ensures _ c.add_count-2.ensures)

pub overflow_add-k-3 : goal.overflow_add-k-3
overflow_add-k-3 c = omega (arith, within c.args.counts.now c.args.k (c.args.a ∷ c.args.b ∷ c.args.c ∷ c.args.d ∷ []) c.requires 3 (lit< tt))

pub add_count-requires-4 : goal.add_count-requires-4
add_count-requires-4 c = room c.args.counts.now c.args.k (c.args.a ∷ c.args.b ∷ c.args.c ∷ c.args.d ∷ []) c.requires 3 (c.args.k + 3) _ (lit< tt) (omega arith) (in3 c.args.counts.now c.args.k (c.args.a ∷ c.args.b ∷ c.args.c ∷ c.args.d ∷ []) c.requires _ c.add_count.ensures _ c.add_count-2.ensures _ c.add_count-3.ensures)

pub returns : goal.returns
returns c = in4 c.args.counts.now c.args.k (c.args.a ∷ c.args.b ∷ c.args.c ∷ c.args.d ∷ []) c.requires _ c.add_count.ensures _ c.add_count-2.ensures _ c.add_count-3.ensures _ c.add_count-4.ensures
