use Rattle.hard.specs.SelectLaws.{room-ready}
use Rattle.soft_logical.specs.LogicalLaws.{fit-done}
use Rattle.soft_logical.proofs.fit_of.Goals as goal
use Rattle.board.specs.Given.{board_of, list_of}

pub fit_at-requires : goal.fit_at-requires
fit_at-requires c = let s = c in room-ready (board_of s.args.tables) (list_of s.args.list) s.args.transform _ _ _ _ s.requires c.build_tables.ensures

pub returns : goal.returns
returns c = let s = c in fit-done (board_of s.args.tables) (list_of s.args.list) s.args.transform s.args.row s.args.col _ _ _ _ s.requires c.build_tables.ensures _ c.fit_at.ensures
