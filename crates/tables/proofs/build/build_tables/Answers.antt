-- Stage by stage: the used room is cleared, the groups are filled, then the horizontal cells stand, then the vertical ones.
use Rattle.tables.specs.Stages.{periods-ok, groups-ready, h-ready, v-ready, tables-built}
use Rattle.tables.proofs.build.build_tables.Goals as goal
use Rattle.board.specs.Given.{board_of, list_of}

pub fill_groups-requires : goal.fill_groups-requires
fill_groups-requires c = groups-ready (board_of c.args.tables) (let a = c.args in list_of a.list) _ _ _ c.requires _ c.used_by_tables-end.ensures _ _ c.clear.ensures c.clear-2.ensures _ c.horizontal-horizontal.ensures

pub build_side-requires : goal.build_side-requires
build_side-requires c = h-ready (board_of c.args.tables) (let a = c.args in list_of a.list) _ _ _ c.requires _ c.used_by_tables-end.ensures _ _ c.clear.ensures c.clear-2.ensures _ c.horizontal-horizontal.ensures _ _ c.fill_groups.ensures

pub vertical-requires : goal.vertical-requires
vertical-requires c = periods-ok (board_of c.args.tables) (let a = c.args in list_of a.list) _ _ _ c.requires

pub build_side-requires-2 : goal.build_side-requires-2
build_side-requires-2 c = v-ready (board_of c.args.tables) (let a = c.args in list_of a.list) _ _ _ c.requires _ c.used_by_tables-end.ensures _ _ c.clear.ensures c.clear-2.ensures _ c.horizontal-horizontal.ensures _ _ c.fill_groups.ensures _ _ c.build_side.ensures _ c.vertical.ensures

-- the room at the end
pub returns : goal.returns
returns c = tables-built (board_of c.args.tables) (let a = c.args in list_of a.list) _ _ _ c.requires _ c.used_by_tables-end.ensures _ _ c.clear.ensures c.clear-2.ensures _ c.horizontal-horizontal.ensures _ _ c.fill_groups.ensures _ _ c.build_side.ensures _ c.vertical.ensures _ _ c.build_side-2.ensures

pub shape_of-counts : goal.shape_of-counts
shape_of-counts c = (tables-built (board_of c.args.tables) (let a = c.args in list_of a.list) _ _ _ c.requires _ c.used_by_tables-end.ensures _ _ c.clear.ensures c.clear-2.ensures _ c.horizontal-horizontal.ensures _ _ c.fill_groups.ensures _ _ c.build_side.ensures _ c.vertical.ensures _ _ c.build_side-2.ensures).counts.len

pub shape_of-weights : goal.shape_of-weights
shape_of-weights c = (tables-built (board_of c.args.tables) (let a = c.args in list_of a.list) _ _ _ c.requires _ c.used_by_tables-end.ensures _ _ c.clear.ensures c.clear-2.ensures _ c.horizontal-horizontal.ensures _ _ c.fill_groups.ensures _ _ c.build_side.ensures _ c.vertical.ensures _ _ c.build_side-2.ensures).weights.len
