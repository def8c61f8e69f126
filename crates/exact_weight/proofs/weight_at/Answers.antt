use mathlib.Core.Path.{◌≡◌, ap, ◌∙◌}
use Prim.Native.Nat.{ℕ}
use native.Mathlib.Omega.{arith}
use lib.ListN.{length}
use Rattle.answer.specs.declared.Square.{Square}
use Rattle.board.specs.Hits.{EdgeList, Board, hit}
use Rattle.board.proofs.HitsLaws.{hit-edge}
use Rattle.exact_weight.specs.WeightLaws.{weight_to, weight-none, weight-more, weight-small, weight-all}
use Rattle.exact_weight.proofs.weight_at.Goals as goal
use Rattle.board.specs.Given.{board_of, list_of}

pub loop-i-init : goal.loop-i-init
loop-i-init c = (omega arith, weight-none _ _ _ _ _)

pub add_units-sum-requires : goal.add_units-sum-requires
add_units-sum-requires c =
    let at : ℕ = c.loop-i.i in
    let E : EdgeList = list_of c.args.list in
    let B : Board = board_of c.args.tables in
    let q : Square = c.args.square in
    (omega (arith, c.loop-i.invariant.1, weight-small B E q.transform q.row q.col c.requires.list at c.loop-i.invariant.0), c.requires.list.confidence at c.loop-i-test.true)

pub loop-i-preserved : goal.loop-i-preserved
loop-i-preserved c =
    let at : ℕ = c.loop-i.i in
    let E : EdgeList = list_of c.args.list in
    let B : Board = board_of c.args.tables in
    let q : Square = c.args.square in
    let hit-here : c.hit_at-hit.result ≡ hit B E q.transform q.row q.col at = c.hit_at-hit.ensures ∙ hit-edge B E q.transform q.row q.col at in
    (omega arith, weight-more B E q.transform q.row q.col at c.loop-i.sum _ c.hit_at-hit.result c.loop-i.invariant.1 hit-here c.add_units-sum.ensures)

pub returns : goal.returns
returns c = let e : c.loop-i.i ≡ length c.args.list.edges.rows.now = omega (arith, c.loop-i.invariant.0, c.loop-i-test.false) in
    c.loop-i.invariant.1 ∙ ap (weight_to _ _ _ _ _) e ∙ weight-all _ _ _ _ _
