-- Edges of accepted lists: they are accepted whatever the confidences, and each of them by value.
use Rattle.std.specs.Prelude.{◌≡◌, ℕ, ◌<◌}
use Rattle.board.specs.declared.edge.Edge.{Edge}
use Rattle.board.specs.Hits.{EdgeList, size, edge_at}
use Rattle.board.specs.Domain.{EdgeOk, EdgesOk, ListOk}

-- of an accepted list
pub edges-ok : (E : EdgeList) → ListOk E → EdgesOk E
edges-ok E ok = record {
  few = ok.few;
  cols = ok.cols;
  orientations = ok.orientations;
  bits = ok.bits;
  near-row = ok.near-row;
  near-col = ok.near-col;
  bit = ok.bit;
}

-- edge i, by value
pub edge-ok : (E : EdgeList) (t : ℕ) → EdgesOk E → t < 8 → (i : ℕ) → i < size E → (e : Edge) → e ≡ edge_at E i → EdgeOk e t
edge-ok E t ok h i l e q = rw q (record { near-row = ok.near-row i l; near-col = ok.near-col i l; bit = ok.bit i l; transform = h })
