-- `horizontal_of`: the first table has a pole's length, which there is room for.
use Rattle.std.proofs.Common.{false, true, refl, sym, arith}
use Rattle.viewtext.specs.Board.{pole-most}
use Rattle.viewtext.specs.Lengths.{first-kept}
use Rattle.viewtext.proofs.board_file.horizontal_of.Goals as goal

pub patterns_of-requires : goal.patterns_of-requires
patterns_of-requires c = (omega arith, pole-most _ (sym (first-kept false _ true refl refl (sym c.requires))))
