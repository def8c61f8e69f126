use mathlib.Core.Path.{ap, ◌∙◌}
use Rattle.board.specs.declared.edge.Edge.{Edge}
use Rattle.board.specs.Hits.{edge_hit}
use Rattle.board.proofs.HitsLaws.{hit-edge}
use Rattle.within_admission.specs.WithinAdmissionLaws.{fault-edge-at}
use Rattle.within.proofs.hit_here.Goals as goal
use Rattle.board.specs.Given.{board_of, list_of}

-- the list and the board

pub is_hit-requires : goal.is_hit-requires
is_hit-requires c =
    let p = c.requires in
    let t = p.transform_bound in
    record { board_ok = p.board_ok; edge_ok = (fault-edge-at (let a = c.args in list_of a.list) c.args.i c.args.square.transform _ t.0 p.i_value c.edge_at-edge.ensures, t.1); row_bound = p.row_bound }

pub returns : goal.returns
returns c =
    let q = c.args.square in
    c.is_hit.ensures ∙ ap (λ (x : Edge). edge_hit (board_of c.args.tables) x q) c.edge_at-edge.ensures ∙ hit-edge (board_of c.args.tables) (let a = c.args in list_of a.list) q.transform q.row q.col c.args.i
