-- The edge is looked up by value and its predicted bit compared with its own: the definition, word for word.
use mathlib.Core.Path.{ap, ◌∙◌}
use Prim.Native.Nat.{ℕ}
use lib.Dec.{eqb}
use Rattle.board.specs.declared.edge.EdgeLookup.{EdgeLookup}
use Rattle.board.specs.Hits.{predicted, edge_hit}
use Rattle.hit.proofs.is_hit.Goals as goal
use Rattle.board.specs.Given.{board_of}

pub returns : goal.returns
unfolding edge_hit
returns c =
    ap (λ (x : ℕ). eqb x c.args.edge.bit)
    (c.predicted_bit.ensures
    ∙ ap (λ (l : EdgeLookup). predicted (board_of c.args.tables) l c.args.square.row c.args.square.col) c.transform_edge_lookup-l.ensures)
