use mathlib.Core.Path.{◌≡◌, ap, ◌∙◌}
use mathlib.Core.Bool.{Bool, true, false}
use mathlib.Core.List.{[]}
use Prim.Native.Nat.{ℕ, ◌*◌, ◌≤◌, ◌<◌}
use native.Mathlib.Omega.{arith}
use Rattle.board.specs.Hits.{Board}
use Rattle.board.specs.Sides.{period_of}
use Rattle.board.specs.Domain.{BoardOk}
use Rattle.classes.specs.Classes.{class_hits}
use Rattle.tops.specs.Tops.{top_to}
use Rattle.tops.specs.TopsLaws.{top-none, top-three}
use Rattle.tops.proofs.side_top.Goals as goal
use Rattle.board.specs.Given.{board_of, edges_of}

-- a table has at most 500 patterns
few : (B : Board) → BoardOk B → (s : Bool) → period_of B s ≤ 500
few B ok true = ok.h.few
few B ok false = ok.v.few

pub period_of-period-requires : goal.period_of-period-requires
period_of-period-requires c = tt

pub loop-long-init : goal.loop-long-init
loop-long-init c = (omega arith, top-none _ _ _ _)

pub overflow_cast-long : goal.overflow_cast-long
overflow_cast-long c =
    let small : c.loop-long.long < 500 = omega (arith, c.loop-long-test.true, c.period_of-period.ensures, few (board_of c.args.tables) c.requires.board c.args.horizontal) in
    omega (arith, small)

pub long_hits-x-requires : goal.long_hits-x-requires
long_hits-x-requires c = (c.requires, omega (arith, c.loop-long-test.true, c.period_of-period.ensures))

pub push_three-top-requires : goal.push_three-top-requires
push_three-top-requires c =
    let small : c.loop-long.long < 500 = omega (arith, c.loop-long-test.true, c.period_of-period.ensures, few (board_of c.args.tables) c.requires.board c.args.horizontal) in
    omega (arith, small)

pub overflow_add-long : goal.overflow_add-long
overflow_add-long c =
    let small : c.loop-long.long < 500 = omega (arith, c.loop-long-test.true, c.period_of-period.ensures, few (board_of c.args.tables) c.requires.board c.args.horizontal) in
    omega (arith, small)

pub loop-long-preserved : goal.loop-long-preserved
loop-long-preserved c = (omega arith, top-three (board_of c.args.tables) (let a = c.args in edges_of a.edges) c.args.t c.args.horizontal c.loop-long.long _ _ _ c.loop-long.invariant.1 c.long_hits-x.ensures c.push_three-top.ensures)

pub returns : goal.returns
returns c =
    let e : c.loop-long.long ≡ period_of (board_of c.args.tables) c.args.horizontal = omega (arith, c.loop-long.invariant.0, c.loop-long-test.false, c.period_of-period.ensures) in
    let x = c.args in
    c.loop-long.invariant.1 ∙ ap (λ (n : ℕ). top_to (class_hits (board_of x.tables) (edges_of x.edges) x.t x.horizontal) (n * 3)) e
