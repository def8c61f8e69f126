-- What a call is given, as the definitions speak of it: the columns of a list as an edge list, and the two pattern tables as a board.
use Rattle.std.specs.Prelude.{[]}
use Rattle.board.specs.declared.list.Edges.{Edges}
use Rattle.board.specs.declared.list.List.{List}
use Rattle.board.specs.declared.pattern.Tables.{Tables}
use Rattle.board.specs.Hits.{EdgeList, Board, edges, tables}

-- a list as an edge list
abbrev pub list_of : List → EdgeList
list_of l = edges l.edges.rows.now l.edges.cols.now l.edges.orientations.now l.edges.bits.now l.confidences.now

-- the edges of a list, without their confidences
abbrev pub edges_of : Edges → EdgeList
edges_of e = edges e.rows.now e.cols.now e.orientations.now e.bits.now []

-- two pattern tables as a board
abbrev pub board_of : Tables → Board
board_of t = tables t.h.now t.v.now
