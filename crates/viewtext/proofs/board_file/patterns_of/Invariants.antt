-- `patterns_of`: each place that is filled so far holds a pattern.
use Rattle.viewtext.specs.Board.{Patterns}
use Rattle.viewtext.proofs.board_file.patterns_of.Given as goal

abbrev pub invariant-loop-i : goal.invariant-loop-i
invariant-loop-i g l = Patterns l.pattern-items
