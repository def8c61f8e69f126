use mathlib.Core.Path.{◌∙◌}
use native.Mathlib.Omega.{arith}
use Rattle.board.proofs.HitsLaws.{hit-edge}
use Rattle.board.specs.DomainLaws.{edges-ok}
use Rattle.tally_of.specs.BegunLaws.{counting-none, counting-edges, counting_more, counting-done}
use Rattle.tally_of.proofs.count_edges.Goals as goal
use Rattle.board.specs.Given.{board_of, list_of}

pub matrix_of-matrix-requires : goal.matrix_of-matrix-requires
matrix_of-matrix-requires c = c.requires.stats_accepted.transform

pub loop-i-init : goal.loop-i-init
loop-i-init c = counting-none _ _ _

pub hit_at-hit-requires : goal.hit_at-hit-requires
hit_at-hit-requires c =
    let p = c.requires.stats_accepted in
    record {
      columns_ok = (edges-ok (list_of c.args.list) p.list, c.loop-i-test.true);
      board_ok = p.board;
      transform_bound = (p.transform, c.matrix_of-matrix.ensures);
      row_bound = (omega (arith, p.origin.0, p.board.h.few), omega (arith, p.origin.1));
    }

pub bounds-list-i : goal.bounds-list-i
bounds-list-i c = omega (arith, c.loop-i-test.true, c.requires.stats_accepted.list.orientations)

pub with_edge-tally-requires : goal.with_edge-tally-requires
with_edge-tally-requires c =
    let v = c.loop-i.invariant in
    (v.adds, omega (arith, counting-edges (list_of c.args.list) c.args.square (board_of c.args.tables) c.loop-i.tally c.loop-i.i v, c.loop-i-test.true, c.requires.stats_accepted.list.few))

pub loop-i-preserved : goal.loop-i-preserved
loop-i-preserved c =
    let i = c.loop-i.i in
    let q = c.args.square in
    let hit = c.hit_at-hit.ensures ∙ hit-edge (board_of c.args.tables) (list_of c.args.list) q.transform q.row q.col i in
    let t = c.loop-i-test.true in
    counting_more (list_of c.args.list) q (board_of c.args.tables) c.loop-i.tally _ i c.hit_at-hit.result c.loop-i.invariant t
    (c.requires.sides i (omega (arith, t, c.requires.stats_accepted.list.orientations))) hit c.with_edge-tally.ensures

pub returns : goal.returns
returns c = counting-done _ _ _ _ _ c.loop-i.invariant c.loop-i-test.false
