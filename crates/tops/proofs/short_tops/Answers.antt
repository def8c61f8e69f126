use mathlib.Core.Path.{◌≡◌, ap, ◌∙◌}
use mathlib.Core.List.{[]}
use Prim.Native.Nat.{◌<◌}
use native.Mathlib.Omega.{arith}
use lib.ListN.{length}
use Rattle.tops.specs.Tops.{short_tops}
use Rattle.tops.specs.TopsLaws.{short_none, short-more}
use Rattle.tops.proofs.short_tops.Goals as goal
use Rattle.board.specs.Given.{board_of, edges_of}

pub loop-long-init : goal.loop-long-init
loop-long-init c = (omega arith, short_none _ _ _)

pub overflow_cast-long : goal.overflow_cast-long
overflow_cast-long c =
    let small : c.loop-long.long < 500 = omega (arith, c.loop-long-test.true, c.requires.board.v.few) in
    omega (arith, small)

pub long_hits-x-requires : goal.long_hits-x-requires
long_hits-x-requires c = (c.requires, c.loop-long-test.true)

pub raise-top-requires : goal.raise-top-requires
raise-top-requires c = tt

pub overflow_add-long : goal.overflow_add-long
overflow_add-long c =
    let small : c.loop-long.long < 500 = omega (arith, c.loop-long-test.true, c.requires.board.v.few) in
    omega (arith, small)

pub loop-long-preserved : goal.loop-long-preserved
loop-long-preserved c = (omega arith, short-more (board_of c.args.tables) (let a = c.args in edges_of a.edges) c.args.t c.loop-long.long _ _ _ c.loop-long.invariant.1 c.long_hits-x.ensures c.raise-top.ensures)

pub returns : goal.returns
returns c =
    let e : c.loop-long.long ≡ length c.args.tables.v.now = omega (arith, c.loop-long.invariant.0, c.loop-long-test.false) in
    c.loop-long.invariant.1 ∙ ap (short_tops _ _ _) e
