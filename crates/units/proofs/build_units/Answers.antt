-- Stage by stage: the used room is cleared, the groups are filled, then the horizontal cells stand, then the vertical ones.
use Rattle.board.specs.Hits.{EdgeList, Board}
use Rattle.units.specs.UnitsStages.{groups-ready_u, h-ready_u, v-ready_u, units-built}
use Rattle.units.proofs.build_units.Goals as goal
use Rattle.board.specs.Given.{board_of, list_of}

pub fill_units-requires : goal.fill_units-requires
fill_units-requires c =
    let board : Board = board_of c.args.tables in
    let list : EdgeList = list_of c.args.list in
    groups-ready_u board list _ _ c.requires _ c.used_by_tables-end.ensures _ c.clear.ensures _ c.horizontal-horizontal.ensures

pub build_unit_side-requires : goal.build_unit_side-requires
build_unit_side-requires c =
    let board : Board = board_of c.args.tables in
    let list : EdgeList = list_of c.args.list in
    h-ready_u board list _ _ c.requires _ c.used_by_tables-end.ensures _ c.clear.ensures _ c.horizontal-horizontal.ensures _ c.fill_units.ensures

pub build_unit_side-requires-2 : goal.build_unit_side-requires-2
build_unit_side-requires-2 c =
    let board : Board = board_of c.args.tables in
    let list : EdgeList = list_of c.args.list in
    v-ready_u board list _ _ c.requires _ c.used_by_tables-end.ensures _ c.clear.ensures _ c.horizontal-horizontal.ensures _ c.fill_units.ensures _ c.build_unit_side.ensures _ c.vertical-vertical.ensures

-- the room at the end
pub returns : goal.returns
returns c =
    let board : Board = board_of c.args.tables in
    let list : EdgeList = list_of c.args.list in
    units-built board list _ _ c.requires _ c.used_by_tables-end.ensures _ c.clear.ensures _ c.horizontal-horizontal.ensures _ c.fill_units.ensures _ c.build_unit_side.ensures _ c.vertical-vertical.ensures _ c.build_unit_side-2.ensures
