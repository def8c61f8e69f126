use mathlib.Core.Path.{◌≡◌, sym, ◌∙◌}
use Prim.Native.Nat.{◌≤◌}
use native.Mathlib.Omega.{arith}
use Rattle.within.specs.Within.{stops_at}
use Rattle.within.specs.WithinLaws.{walk-few, walk-starts, asked_here, none_here, walk-goes-on, walk-stops, walk_ends}
use Rattle.within.proofs.walk.Goals as goal
use Rattle.board.specs.Given.{board_of, list_of}

pub matrix_of-matrix-requires : goal.matrix_of-matrix-requires
matrix_of-matrix-requires c = c.requires.transform

pub loop-i-init : goal.loop-i-init
loop-i-init c = walk-starts _ _ _ _ _ _

pub stops-requires : goal.stops-requires
stops-requires c =
    let few : c.loop-i.hits ≤ c.loop-i.i = walk-few (let a = c.args in list_of a.list) c.args.square.transform c.args.square.row c.args.square.col (board_of c.args.tables) c.args.error_limit c.loop-i.i c.loop-i.hits c.loop-i.invariant in
    record {
      columns = (c.requires.columns, c.loop-i-test.true);
      hits_le_i = few;
    }

pub returns-then-stops : goal.returns-then-stops
returns-then-stops c =
    let stops-here : c.stops.result ≡ stops_at (let a = c.args in list_of a.list) (c.args.square).transform (c.args.square).row (c.args.square).col (board_of c.args.tables) c.args.error_limit (c.loop-i.i) = asked_here (let a = c.args in list_of a.list) (c.args.square).transform (c.args.square).row (c.args.square).col (board_of c.args.tables) c.args.error_limit (c.loop-i.i) (c.loop-i.hits) c.loop-i.invariant _ c.stops.ensures in
    walk-stops (let a = c.args in list_of a.list) (c.args.square).transform (c.args.square).row (c.args.square).col (board_of c.args.tables) c.args.error_limit (c.loop-i.i) (c.loop-i.hits) c.loop-i.invariant (sym (stops-here) ∙ c.if-stops.true)

pub hit_here-hit-requires : goal.hit_here-hit-requires
hit_here-hit-requires c =
    let stops-here : c.stops.result ≡ stops_at (let a = c.args in list_of a.list) (c.args.square).transform (c.args.square).row (c.args.square).col (board_of c.args.tables) c.args.error_limit (c.loop-i.i) = asked_here (let a = c.args in list_of a.list) (c.args.square).transform (c.args.square).row (c.args.square).col (board_of c.args.tables) c.args.error_limit (c.loop-i.i) (c.loop-i.hits) c.loop-i.invariant _ c.stops.ensures in
    let p = c.requires in
    let n = none_here (let a = c.args in list_of a.list) (c.args.square).transform (c.args.square).row (c.args.square).col (board_of c.args.tables) c.args.error_limit (c.loop-i.i) (sym (stops-here) ∙ c.if-stops.false) in
    record { columns = (p.columns, c.loop-i-test.true); i_value = n; board_ok = p.board; transform_bound = (p.transform, c.matrix_of-matrix.ensures); row_bound = (omega (arith, p.origin.0, p.board.h.few), omega (arith, p.origin.1)) }

pub counted-hits-requires : goal.counted-hits-requires
counted-hits-requires c =
    let few : c.loop-i.hits ≤ c.loop-i.i = walk-few (let a = c.args in list_of a.list) c.args.square.transform c.args.square.row c.args.square.col (board_of c.args.tables) c.args.error_limit c.loop-i.i c.loop-i.hits c.loop-i.invariant in
    omega (arith, few, c.loop-i-test.true, c.requires.columns.few)

pub overflow_add-i : goal.overflow_add-i
overflow_add-i c = omega (arith, c.loop-i-test.true, c.requires.columns.few)

pub loop-i-smaller : goal.loop-i-smaller
loop-i-smaller c = omega (arith, c.loop-i-test.true)

pub loop-i-preserved : goal.loop-i-preserved
loop-i-preserved c =
    let stops-here : c.stops.result ≡ stops_at (let a = c.args in list_of a.list) (c.args.square).transform (c.args.square).row (c.args.square).col (board_of c.args.tables) c.args.error_limit (c.loop-i.i) = asked_here (let a = c.args in list_of a.list) (c.args.square).transform (c.args.square).row (c.args.square).col (board_of c.args.tables) c.args.error_limit (c.loop-i.i) (c.loop-i.hits) c.loop-i.invariant _ c.stops.ensures in
    walk-goes-on (let a = c.args in list_of a.list) (c.args.square).transform (c.args.square).row (c.args.square).col (board_of c.args.tables) c.args.error_limit (c.loop-i.i) (c.loop-i.hits) c.loop-i-test.true c.loop-i.invariant (sym (stops-here) ∙ c.if-stops.false) c.hit_here-hit.result _ c.hit_here-hit.ensures c.counted-hits.ensures

pub returns : goal.returns
returns c = walk_ends _ _ _ _ _ _ c.loop-i.i c.loop-i.hits c.loop-i.invariant c.loop-i-test.false
