use mathlib.Core.Path.{ap, ◌∙◌}
use mathlib.Core.List.{[]}
use Rattle.board.specs.declared.edge.Edge.{Edge}
use Rattle.board.specs.Hits.{edge_hit}
use Rattle.board.specs.DomainLaws.{edge-ok}
use Rattle.hit.proofs.hit_at.Goals as goal
use Rattle.board.specs.Given.{board_of, edges_of}

pub is_hit-requires : goal.is_hit-requires
is_hit-requires c = record {
  board_ok = c.requires.board_ok;
  -- the confidences play no part
  edge_ok = (
    edge-ok (edges_of c.args.edges) _ c.requires.columns_ok.0 c.requires.transform_bound.0 c.args.i c.requires.columns_ok.1 _ c.edge_at-edge.ensures,
    c.requires.transform_bound.1,
  );
  row_bound = c.requires.row_bound;
}

pub returns : goal.returns
returns c =
    c.is_hit.ensures ∙ ap (λ (x : Edge). edge_hit (board_of c.args.tables) x c.args.square) c.edge_at-edge.ensures
