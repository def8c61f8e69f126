use mathlib.Core.Path.{◌≡◌, sym, ◌∙◌}
use mathlib.Core.List.{[]}
use Prim.Native.Nat.{◌+◌, ◌%◌, ◌≤◌, ◌<◌}
use native.Mathlib.Nat.{mod-lt}
use native.Mathlib.Omega.{arith}
use lib.ListN.{length}
use borrow.Author.Tests.{eq-eqb, ne_eqb}
use Rattle.laws.specs.First.{search-starts, search-goes-on, search-finds, search-ends}
use Rattle.board.specs.Hits.{hits}
use Rattle.board.proofs.HitsLaws.{hits-le}
use Rattle.firsts.specs.Firsts.{first_col}
use Rattle.firsts.specs.FirstsLaws.{col-is}
use Rattle.firsts.proofs.first_col.Goals as goal
use Rattle.board.specs.Given.{board_of, edges_of}

pub loop-col-init : goal.loop-col-init
loop-col-init c = search-starts _ _

pub overflow_mul-period : goal.overflow_mul-period
overflow_mul-period c =
    let few : length c.args.tables.v.now ≤ 500 = c.requires.count_ready.board.v.few in
    omega (arith, few)

pub nonzero_rem-long : goal.nonzero_rem-long
nonzero_rem-long c = omega (arith, c.requires.count_ready.board.v.some)

pub overflow_cast-long : goal.overflow_cast-long
overflow_cast-long c =
    let few : length c.args.tables.v.now ≤ 500 = c.requires.count_ready.board.v.few in
    let class : c.loop-col.col % length c.args.tables.v.now < length c.args.tables.v.now = mod-lt c.loop-col.col (omega (arith, c.requires.count_ready.board.v.some)) in
    omega (arith, class, few)

pub long_hits-down-requires : goal.long_hits-down-requires
long_hits-down-requires c =
    let class : c.loop-col.col % length c.args.tables.v.now < length c.args.tables.v.now = mod-lt c.loop-col.col (omega (arith, c.requires.count_ready.board.v.some)) in
    (c.requires.count_ready, class)

pub pick-requires : goal.pick-requires
pick-requires c = tt

pub pick-requires-in-loop-col : goal.pick-requires-in-loop-col
pick-requires-in-loop-col c = tt

pub overflow_add-pick : goal.overflow_add-pick
overflow_add-pick c =
    let counted : c.pick.result + c.pick-in-loop-col.result ≡ hits (board_of c.args.tables) (let a = c.args in edges_of a.edges) c.args.t c.args.row c.loop-col.col = col-is (board_of c.args.tables) (let a = c.args in edges_of a.edges) c.args.t c.requires.count_ready.board c.args.row c.loop-col.col _ _ c.args.across c.long_hits-down.result c.requires.across_value c.long_hits-down.ensures c.pick.ensures c.pick-in-loop-col.ensures in
    omega (arith, counted, hits-le (board_of c.args.tables) (let a = c.args in edges_of a.edges) c.args.t c.args.row c.loop-col.col, c.requires.count_ready.list.few)

pub returns-then-pick-wanted : goal.returns-then-pick-wanted
unfolding first_col
returns-then-pick-wanted c =
    let counted : c.pick.result + c.pick-in-loop-col.result ≡ hits (board_of c.args.tables) (let a = c.args in edges_of a.edges) c.args.t c.args.row c.loop-col.col = col-is (board_of c.args.tables) (let a = c.args in edges_of a.edges) c.args.t c.requires.count_ready.board c.args.row c.loop-col.col _ _ c.args.across c.long_hits-down.result c.requires.across_value c.long_hits-down.ensures c.pick.ensures c.pick-in-loop-col.ensures in
    search-finds _ _ c.loop-col.col c.loop-col.invariant (eq-eqb (hits (board_of c.args.tables) (let a = c.args in edges_of a.edges) c.args.t c.args.row c.loop-col.col) c.args.wanted (sym (counted) ∙ c.if-pick-wanted.true))

pub overflow_add-col : goal.overflow_add-col
overflow_add-col c =
    let few : length c.args.tables.v.now ≤ 500 = c.requires.count_ready.board.v.few in
    omega (arith, c.loop-col-test.true, few)

pub loop-col-smaller : goal.loop-col-smaller
loop-col-smaller c = omega (arith, c.loop-col-test.true)

pub loop-col-preserved : goal.loop-col-preserved
loop-col-preserved c =
    let counted : c.pick.result + c.pick-in-loop-col.result ≡ hits (board_of c.args.tables) (let a = c.args in edges_of a.edges) c.args.t c.args.row c.loop-col.col = col-is (board_of c.args.tables) (let a = c.args in edges_of a.edges) c.args.t c.requires.count_ready.board c.args.row c.loop-col.col _ _ c.args.across c.long_hits-down.result c.requires.across_value c.long_hits-down.ensures c.pick.ensures c.pick-in-loop-col.ensures in
    search-goes-on _ _ c.loop-col.col c.loop-col-test.true c.loop-col.invariant (ne_eqb (hits (board_of c.args.tables) (let a = c.args in edges_of a.edges) c.args.t c.args.row c.loop-col.col) c.args.wanted (λ e. c.if-pick-wanted.false (counted ∙ e)))

pub returns : goal.returns
unfolding first_col
returns c = search-ends _ _ c.loop-col.col c.loop-col-test.false c.loop-col.invariant
