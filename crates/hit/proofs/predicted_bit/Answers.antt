-- The helper's table is the orientation's, whole; at an origin it is read at the long class, and its bit at the short class.
use mathlib.Core.Path.{◌≡◌, sym, ap, ap₂, ◌∙◌}
use mathlib.Core.Bool.{Bool, true, false}
use mathlib.Core.List.{List}
use Prim.Native.Nat.{ℕ, ◌≤◌, ◌<◌}
use native.Mathlib.Omega.{arith}
use lib.Dec.{eqb}
use lib.ListN.{get_or, length}
use lib.IntN.{ℤ, pos, ◌+ℤ◌}
use borrow.Author.Tests.{eq-eqb, ne_eqb}
use Rattle.laws.specs.Words.{emod}
use Rattle.board.specs.Hits.{Board, bit_at, predicted}
use Rattle.board.specs.Sides.{table_of}
use Rattle.board.specs.Domain.{Patterns, BoardOk}
use borrow.Author.Rules.{rules}
use Rattle.hit.proofs.predicted_bit.Goals as goal
use Rattle.board.specs.Given.{board_of}

side : (B : Board) → BoardOk B → (s : Bool) → Patterns (table_of B s)
side B ok true = ok.h
side B ok false = ok.v

-- the table that the helper handed back
size : (B : Board) → BoardOk B → (o : ℕ) (l : List ℕ) → l ≡ table_of B (eqb o 0) → (3 < length l) × (length l ≤ 500)
size B ok o l e = let p = side B ok (eqb o 0) in rw e (p.some, p.few)

pub overflow_cast-period : goal.overflow_cast-period
overflow_cast-period c = omega (arith, (size (board_of c.args.tables) c.requires.board_ok c.args.l.orientation _ c.patterns_from-patterns.ensures).1)

pub class_at-at-requires : goal.class_at-at-requires
class_at-at-requires c = let z = size (board_of c.args.tables) c.requires.board_ok c.args.l.orientation _ c.patterns_from-patterns.ensures in let o = c.requires.r_bound in (omega (arith, z.0), omega (arith, z.1, o.0))

pub class_at-at-requires-else-l-eq0 : goal.class_at-at-requires-else-l-eq0
class_at-at-requires-else-l-eq0 c = let z = size (board_of c.args.tables) c.requires.board_ok c.args.l.orientation _ c.patterns_from-patterns.ensures in let o = c.requires.r_bound in (omega (arith, z.0), omega (arith, z.1, o.1))

pub returns-then-l-eq0 : goal.returns-then-l-eq0
unfolding predicted
returns-then-l-eq0 c =
    let o = eq-eqb c.args.l.orientation 0 c.if-l-eq0.true in
    let h : c.patterns_from-patterns.result.now ≡ c.args.tables.h.now = c.patterns_from-patterns.ensures ∙ ap (table_of (board_of c.args.tables)) o in
    c.pattern_bit.ensures
    ∙ ap₂ (λ (k j : ℕ). bit_at (get_or c.patterns_from-patterns.result.now k 0) j)
    (c.class_at-at.ensures.0 ∙ ap (λ (z : ℤ). emod (z +ℤ pos c.args.r) (length c.patterns_from-patterns.result.now)) (search rules))
    (c.class_at.ensures.0 ∙ ap (λ (z : ℤ). emod (z +ℤ pos c.args.c) 3) (search rules))
    ∙ ap (λ (l : List ℕ). bit_at (get_or l (emod (c.args.l.row +ℤ pos c.args.r) (length l)) 0) (emod (c.args.l.col +ℤ pos c.args.c) 3)) h
    ∙ sym (rw o)

pub returns-else-l-eq0 : goal.returns-else-l-eq0
unfolding predicted
returns-else-l-eq0 c =
    let o = ne_eqb c.args.l.orientation 0 c.if-l-eq0.false in
    let v : c.patterns_from-patterns.result.now ≡ c.args.tables.v.now = c.patterns_from-patterns.ensures ∙ ap (table_of (board_of c.args.tables)) o in
    c.pattern_bit-else-l-eq0.ensures
    ∙ ap₂ (λ (k j : ℕ). bit_at (get_or c.patterns_from-patterns.result.now k 0) j)
    (c.class_at-at-else-l-eq0.ensures.0 ∙ ap (λ (z : ℤ). emod (z +ℤ pos c.args.c) (length c.patterns_from-patterns.result.now)) (search rules))
    (c.class_at-else-l-eq0.ensures.0 ∙ ap (λ (z : ℤ). emod (z +ℤ pos c.args.r) 3) (search rules))
    ∙ ap (λ (l : List ℕ). bit_at (get_or l (emod (c.args.l.col +ℤ pos c.args.c) (length l)) 0) (emod (c.args.l.row +ℤ pos c.args.r) 3)) v
    ∙ sym (rw o)
