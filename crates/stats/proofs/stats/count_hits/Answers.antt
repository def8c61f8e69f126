use mathlib.Core.Path.{◌≡◌, ap, ◌∙◌}
use native.Mathlib.Omega.{arith}
use lib.ListN.{length}
use lib.Ieee.{of_bits}
use Rattle.board.proofs.HitsLaws.{hit-edge}
use Rattle.board.specs.DomainLaws.{edges-ok}
use Rattle.figures.specs.declared.Fit.{Fit}
use Rattle.stats.specs.StatsLaws.{so_far, so-far-none, so_far_more, so-far-few, so-far-all}
use Rattle.stats.proofs.stats.count_hits.Goals as goal
use Rattle.board.specs.Given.{board_of, list_of}

pub matrix_of-matrix-requires : goal.matrix_of-matrix-requires
matrix_of-matrix-requires c = c.requires.transform

pub loop-i-init : goal.loop-i-init
unfolding of_bits
loop-i-init c = (omega arith, so-far-none _ _ _ _ _)

pub hit_at-hit-requires : goal.hit_at-hit-requires
hit_at-hit-requires c =
    let p = c.requires in
    record {
      columns_ok = (edges-ok _ p.list, c.loop-i-test.true);
      board_ok = p.board;
      transform_bound = (p.transform, c.matrix_of-matrix.ensures);
      row_bound = (omega (arith, p.origin.0, p.board.h.few), omega (arith, p.origin.1));
    }

pub offset_bounds-list-i : goal.offset_bounds-list-i
offset_bounds-list-i c = omega (arith, c.loop-i-test.true, c.requires.list.few)

pub bounds-list-i : goal.bounds-list-i
bounds-list-i c = omega (arith, c.loop-i-test.true, c.requires.list.confidences)

pub add_edge-sum-requires : goal.add_edge-sum-requires
add_edge-sum-requires c =
    let a = c.args in
    let E = list_of a.list in
    let B = board_of a.tables in
    let q = a.square in
    let e : c.loop-i.sum.hits ≡ (so_far E q.transform q.row q.col B c.loop-i.i).hits = ap (λ (s : Fit). s.hits) c.loop-i.invariant.1 in
    omega (arith, so-far-few E q.transform q.row q.col B c.loop-i.i, c.loop-i-test.true, c.requires.list.few)

pub overflow_step-i : goal.overflow_step-i
overflow_step-i c = omega (arith, c.loop-i-test.true, c.requires.list.few)

pub loop-i-preserved : goal.loop-i-preserved
loop-i-preserved c =
    let a = c.args in
    let E = list_of a.list in
    let B = board_of a.tables in
    let q = a.square in
    let i = c.loop-i.i in
    (omega arith, so_far_more E q.transform q.row q.col B i c.loop-i.sum _ c.hit_at-hit.result c.loop-i.invariant.1 (c.hit_at-hit.ensures ∙ hit-edge B E q.transform q.row q.col i) c.add_edge-sum.ensures)

pub returns : goal.returns
returns c =
    let e : c.loop-i.i ≡ length c.args.list.edges.rows.now = omega (arith, c.loop-i.invariant.0, c.loop-i-test.false) in
    c.loop-i.invariant.1 ∙ ap (so_far _ _ _ _ _) e ∙ so-far-all _ _ _ _ _
