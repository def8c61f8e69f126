-- `vertical_of`: there is room for the second table.
use Rattle.std.proofs.Common.{length, true, refl, sym, arith}
use Rattle.viewtext.specs.Lengths.{start_of, table_fits}
use Rattle.viewtext.proofs.board_file.vertical_of.Goals as goal

pub patterns_of-requires : goal.patterns_of-requires
unfolding start_of
patterns_of-requires c =
    let t = table_fits true (length c.args.digits.now) true refl (sym c.requires) in (omega arith, omega (arith, t))
