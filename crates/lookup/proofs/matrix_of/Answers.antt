use borrow.Author.Rules.{rules}
use Rattle.board.specs.Transform.{matrices}
use Rattle.lookup.proofs.matrix_of.Goals as goal

pub returns : goal.returns
unfolding matrices
returns c = search rules
