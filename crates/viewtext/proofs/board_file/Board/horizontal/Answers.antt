-- `Board::horizontal`: a pole's length is at most 500.
use Rattle.std.proofs.Common.{sym}
use Rattle.viewtext.specs.Board.{pole-most}
use Rattle.viewtext.proofs.board_file.Board.horizontal.Goals as goal

pub shared_ref_as_front-result : goal.shared_ref_as_front-result
shared_ref_as_front-result c = pole-most _ (sym c.args.self.now.pole)
