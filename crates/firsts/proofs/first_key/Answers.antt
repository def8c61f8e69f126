use mathlib.Core.List.{[]}
use Prim.Native.Nat.{◌*◌, ◌≤◌}
use native.Mathlib.Nat.{mul-le-mul}
use native.Mathlib.Omega.{arith}
use lib.ListN.{length}
use Rattle.firsts.specs.Firsts.{has, first_col, first_key}
use Rattle.firsts.specs.RowSearch.{row-starts, row-over, row-finds, row_ends}
use Rattle.firsts.proofs.first_key.Goals as goal
use Rattle.board.specs.Given.{board_of, edges_of}

pub short_tops-tops-requires : goal.short_tops-tops-requires
short_tops-tops-requires c = c.requires

pub overflow_mul-wide : goal.overflow_mul-wide
overflow_mul-wide c = omega (arith, c.requires.board.v.few)

pub loop-row-init : goal.loop-row-init
loop-row-init c =
    let a = c.args in
    (omega arith, row-starts (3 * length a.tables.h.now) (3 * length a.tables.v.now) (has (board_of a.tables) (edges_of a.edges) a.t a.wanted))

pub overflow_mul-tables : goal.overflow_mul-tables
overflow_mul-tables c =
    let tall : (3 * length c.args.tables.h.now) ≤ 1500 = omega (arith, c.requires.board.h.few) in
    omega (arith, tall)

pub row_first-col-requires : goal.row_first-col-requires
row_first-col-requires c =
    record {
      count_ready = c.requires;
      tops_value = c.short_tops-tops.ensures;
    }

pub overflow_mul-result : goal.overflow_mul-result
overflow_mul-result c =
    let tall : (3 * length c.args.tables.h.now) ≤ 1500 = omega (arith, c.requires.board.h.few) in
    let wide : (3 * length c.args.tables.v.now) ≤ 1500 = omega (arith, c.requires.board.v.few) in
    let small : c.loop-row.row * (3 * length c.args.tables.v.now) ≤ 2250000 = mul-le-mul {n₁ = c.loop-row.row} {m₁ = (3 * length c.args.tables.v.now)} {n₂ = 1500} {m₂ = 1500} (omega (arith, c.loop-row.invariant.0, tall)) wide in
    omega (arith, small)

pub overflow_add-result : goal.overflow_add-result
overflow_add-result c =
    let tall : (3 * length c.args.tables.h.now) ≤ 1500 = omega (arith, c.requires.board.h.few) in
    let wide : (3 * length c.args.tables.v.now) ≤ 1500 = omega (arith, c.requires.board.v.few) in
    let small : c.loop-row.row * (3 * length c.args.tables.v.now) ≤ 2250000 = mul-le-mul {n₁ = c.loop-row.row} {m₁ = (3 * length c.args.tables.v.now)} {n₂ = 1500} {m₂ = 1500} (omega (arith, c.loop-row.invariant.0, tall)) wide in
    omega (arith, small, c.if-col-wide.true, wide)

pub returns-then-col-wide : goal.returns-then-col-wide
unfolding first_key first_col
returns-then-col-wide c = row-finds (3 * length c.args.tables.h.now) (3 * length c.args.tables.v.now) ((has (board_of c.args.tables) (let a = c.args in edges_of a.edges) c.args.t c.args.wanted)) c.loop-row.row c.row_first-col.result c.loop-row-test.true c.loop-row.invariant.1 c.row_first-col.ensures c.if-col-wide.true

pub overflow_add-row : goal.overflow_add-row
overflow_add-row c =
    let tall : (3 * length c.args.tables.h.now) ≤ 1500 = omega (arith, c.requires.board.h.few) in
    omega (arith, c.loop-row-test.true, tall)

pub loop-row-smaller : goal.loop-row-smaller
loop-row-smaller c = omega (arith, c.loop-row-test.true)

pub loop-row-preserved : goal.loop-row-preserved
unfolding first_col
loop-row-preserved c = (omega (arith, c.loop-row-test.true), row-over (3 * length c.args.tables.h.now) (3 * length c.args.tables.v.now) ((has (board_of c.args.tables) (let a = c.args in edges_of a.edges) c.args.t c.args.wanted)) c.loop-row.row c.loop-row-test.true c.loop-row.invariant.1 (omega (arith, c.row_first-col.ensures, c.if-col-wide.false)))

pub overflow_mul-result-2 : goal.overflow_mul-result-2
overflow_mul-result-2 c =
    let tall : (3 * length c.args.tables.h.now) ≤ 1500 = omega (arith, c.requires.board.h.few) in
    let wide : (3 * length c.args.tables.v.now) ≤ 1500 = omega (arith, c.requires.board.v.few) in
    let small : c.loop-row.row * (3 * length c.args.tables.v.now) ≤ 2250000 = mul-le-mul {n₁ = c.loop-row.row} {m₁ = (3 * length c.args.tables.v.now)} {n₂ = 1500} {m₂ = 1500} (omega (arith, c.loop-row.invariant.0, tall)) wide in
    omega (arith, small)

pub returns : goal.returns
unfolding first_key
returns c = row_ends (3 * length c.args.tables.h.now) (3 * length c.args.tables.v.now) ((has (board_of c.args.tables) (let a = c.args in edges_of a.edges) c.args.t c.args.wanted)) c.loop-row.row c.loop-row-test.false c.loop-row.invariant.1
