-- Stage by stage: the used room is cleared, both rows of groups are filled, then the horizontal cells stand, then the vertical ones.
use mathlib.Core.List.{[]}
use mathlib.Core.Bool.{true, false}
use Rattle.sums.specs.Sums.{likelihoods}
use Rattle.sums.specs.SumsStages.{periods-ok_z, also-small, groups-ready_z, h-ready_z, v-ready_z, sums-built}
use Rattle.sums.proofs.sums.build_sums.Goals as goal
use Rattle.board.specs.Given.{board_of, edges_of}
use Rattle.likelihood.specs.Given.{likelihoods_of}

pub fill_sums-requires : goal.fill_sums-requires
fill_sums-requires c = groups-ready_z (board_of c.args.tables) (let a = c.args in edges_of a.edges) (likelihoods_of c.args.likelihoods) _ _ c.requires _ c.used_by_sums-end.ensures _ c.clear.ensures _ c.horizontal-horizontal.ensures

pub row_of_groups-row-requires : goal.row_of_groups-row-requires
row_of_groups-row-requires c = periods-ok_z (board_of c.args.tables) (let a = c.args in edges_of a.edges) (likelihoods_of c.args.likelihoods) _ _ c.requires

pub overflow_add-horizontal : goal.overflow_add-horizontal
overflow_add-horizontal c = record { fits = also-small (board_of c.args.tables) (let a = c.args in edges_of a.edges) (likelihoods_of c.args.likelihoods) _ _ c.requires true _ c.horizontal-horizontal.ensures _ c.row_of_groups-row.ensures }

pub build_sum_side-requires : goal.build_sum_side-requires
build_sum_side-requires c = h-ready_z (board_of c.args.tables) (let a = c.args in edges_of a.edges) (likelihoods_of c.args.likelihoods) _ _ c.requires _ c.used_by_sums-end.ensures _ c.clear.ensures _ c.horizontal-horizontal.ensures _ c.fill_sums.ensures _ c.row_of_groups-row.ensures

pub vertical-vertical-requires : goal.vertical-vertical-requires
vertical-vertical-requires c = periods-ok_z (board_of c.args.tables) (let a = c.args in edges_of a.edges) (likelihoods_of c.args.likelihoods) _ _ c.requires

pub overflow_add-vertical : goal.overflow_add-vertical
overflow_add-vertical c = record { fits = also-small (board_of c.args.tables) (let a = c.args in edges_of a.edges) (likelihoods_of c.args.likelihoods) _ _ c.requires false _ c.vertical-vertical.ensures _ c.row_of_groups-row.ensures }

pub build_sum_side-requires-2 : goal.build_sum_side-requires-2
build_sum_side-requires-2 c = v-ready_z (board_of c.args.tables) (let a = c.args in edges_of a.edges) (likelihoods_of c.args.likelihoods) _ _ c.requires _ c.used_by_sums-end.ensures _ c.clear.ensures _ c.horizontal-horizontal.ensures _ c.fill_sums.ensures _ c.row_of_groups-row.ensures _ c.build_sum_side.ensures _ c.vertical-vertical.ensures

-- the room at the end
pub returns : goal.returns
returns c = sums-built (board_of c.args.tables) (let a = c.args in edges_of a.edges) (likelihoods_of c.args.likelihoods) _ _ c.requires _ c.used_by_sums-end.ensures _ c.clear.ensures _ c.horizontal-horizontal.ensures _ c.fill_sums.ensures _ c.row_of_groups-row.ensures _ c.build_sum_side.ensures _ c.vertical-vertical.ensures _ c.build_sum_side-2.ensures

pub shape_of-sums : goal.shape_of-sums
shape_of-sums c = (sums-built (board_of c.args.tables) (let a = c.args in edges_of a.edges) (likelihoods_of c.args.likelihoods) _ _ c.requires _ c.used_by_sums-end.ensures _ c.clear.ensures _ c.horizontal-horizontal.ensures _ c.fill_sums.ensures _ c.row_of_groups-row.ensures _ c.build_sum_side.ensures _ c.vertical-vertical.ensures _ c.build_sum_side-2.ensures).len
