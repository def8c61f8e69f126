use mathlib.Core.Path.{◌≡◌, ap, ◌∙◌}
use mathlib.Core.Bool.{Bool, true, false}
use mathlib.Core.List.{[]}
use Prim.Native.Nat.{◌<◌, ◌≤◌}
use native.Mathlib.Omega.{arith}
use lib.ListN.{length}
use Rattle.board.specs.Hits.{Board}
use Rattle.board.specs.Sides.{period_of}
use Rattle.board.specs.Domain.{BoardOk}
use Rattle.board.specs.DomainLaws.{edge-ok}
use Rattle.laws.specs.Modulus.{modulus_of}
use Rattle.classes.specs.declared.Three.{Three}
use Rattle.classes.specs.ClassesLaws.{so_far, so-far-none, so_far_more, so-far-few, so-far-all}
use Rattle.classes.proofs.long_hits.Goals as goal
use Rattle.board.specs.Given.{board_of, edges_of}

pub matrix_of-matrix-requires : goal.matrix_of-matrix-requires
matrix_of-matrix-requires c = c.requires.0.transform

pub is_straight-straight-requires : goal.is_straight-straight-requires
is_straight-straight-requires c = c.matrix_of-matrix.ensures

-- a table has from 4 to 500 patterns
sized : (B : Board) → BoardOk B → (s : Bool) → (3 < period_of B s) × (period_of B s ≤ 500)
sized B ok true = (ok.h.some, ok.h.few)
sized B ok false = (ok.v.some, ok.v.few)

pub period_of-requires : goal.period_of-requires
period_of-requires c = tt

pub overflow_cast-period_of : goal.overflow_cast-period_of
overflow_cast-period_of c =
    let length-in : (3 < c.period_of.result) × (c.period_of.result ≤ 500) = rw c.period_of.ensures (sized (board_of c.args.tables) c.requires.0.board c.args.horizontal) in
    omega (arith, (length-in).1)

pub modulus_of-period-requires : goal.modulus_of-period-requires
modulus_of-period-requires c =
    let length-in : (3 < c.period_of.result) × (c.period_of.result ≤ 500) = rw c.period_of.ensures (sized (board_of c.args.tables) c.requires.0.board c.args.horizontal) in
    (omega (arith, (length-in).0), (length-in).1)

pub loop-i-init : goal.loop-i-init
loop-i-init c = (omega arith, so-far-none _ _ _ _ _)

pub edge_at-edge-requires : goal.edge_at-edge-requires
edge_at-edge-requires c =
    let l = c.requires.0.list in
    let h = c.loop-i-test.true in
    (h, omega (arith, h, l.cols), omega (arith, h, l.orientations), omega (arith, h, l.bits))

pub count_edge-sum-requires : goal.count_edge-sum-requires
count_edge-sum-requires c =
    let p = c.requires in
    let f = so-far-few (board_of c.args.tables) (let a = c.args in edges_of a.edges) c.args.t c.args.horizontal c.args.long (c.loop-i.i) in
    let i = c.loop-i.invariant.1 in
    let n = c.loop-i-test.true in
    let m = p.0.list.few in record {
      board_ok = (p.0.board, c.modulus_of-period.ensures ∙ ap modulus_of c.period_of.ensures);
      edge_ok = (edge-ok (let a = c.args in edges_of a.edges) _ p.0.list p.0.transform (c.loop-i.i) n _ c.edge_at-edge.ensures, c.matrix_of-matrix.ensures, c.is_straight-straight.ensures, p.1);
      a_bound = (omega (arith, ap (λ (s : Three). s.a) i, f.0, n, m), omega (arith, ap (λ (s : Three). s.b) i, f.1, n, m), omega (arith, ap (λ (s : Three). s.c) i, f.2, n, m));
    }

pub overflow_step-i : goal.overflow_step-i
overflow_step-i c = omega (arith, c.loop-i-test.true, c.requires.0.list.few)

pub loop-i-preserved : goal.loop-i-preserved
loop-i-preserved c = (omega arith, so_far_more (board_of c.args.tables) (let a = c.args in edges_of a.edges) c.args.t c.args.horizontal c.args.long (c.loop-i.i) c.loop-i.sum _ _ c.loop-i.invariant.1 c.edge_at-edge.ensures c.count_edge-sum.ensures)

pub returns : goal.returns
returns c =
    let e : c.loop-i.i ≡ length c.args.edges.rows.now = omega (arith, c.loop-i.invariant.0, c.loop-i-test.false) in
    c.loop-i.invariant.1 ∙ ap (so_far _ _ _ _ _) e ∙ so-far-all _ _ _ _ _
