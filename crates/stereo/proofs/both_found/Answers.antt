-- `both_found`: the tests in their order; each end is a law of its own.
use mathlib.Core.Path.{sym, ◌∙◌}
use Rattle.stereo.specs.StereoLaws.{on-board, ends-23, ends-9-first, ends-9-second, ends-25-first, ends-25-second, ends-shift}
use Rattle.answer_checks.specs.FoundBadLaws.{found-fits}
use Rattle.stereo.proofs.both_found.Goals as goal

pub returns-then-d-e : goal.returns-then-d-e
returns-then-d-e c = ends-23 _ _ c.if-d-e.true

pub returns-then-off_board : goal.returns-then-off_board
returns-then-off_board c =
    ends-9-first _ _ c.if-d-e.false (sym c.off_board.ensures ∙ c.if-off_board.true)

pub returns-then-off_board-2 : goal.returns-then-off_board-2
returns-then-off_board-2 c =
    ends-9-second _ _ c.if-d-e.false (sym c.off_board.ensures ∙ c.if-off_board.false) (sym c.off_board-2.ensures ∙ c.if-off_board-2.true)

pub returns-then-found_bad : goal.returns-then-found_bad
returns-then-found_bad c =
    ends-25-first _ _ c.if-d-e.false (sym c.off_board.ensures ∙ c.if-off_board.false) (sym c.off_board-2.ensures ∙ c.if-off_board-2.false)
    (sym c.found_bad.ensures ∙ c.if-found_bad.true)

pub returns-then-found_bad-2 : goal.returns-then-found_bad-2
returns-then-found_bad-2 c =
    ends-25-second _ _ c.if-d-e.false (sym c.off_board.ensures ∙ c.if-off_board.false) (sym c.off_board-2.ensures ∙ c.if-off_board-2.false)
    (sym c.found_bad.ensures ∙ c.if-found_bad.false) (sym c.found_bad-2.ensures ∙ c.if-found_bad-2.true)

pub shift_found-shift-requires : goal.shift_found-shift-requires
shift_found-shift-requires c =
    record {
      on_board = (on-board _ (sym c.off_board.ensures ∙ c.if-off_board.false), on-board _ (sym c.off_board-2.ensures ∙ c.if-off_board-2.false));
      found_fits = (found-fits _ (sym c.found_bad.ensures ∙ c.if-found_bad.false), found-fits _ (sym c.found_bad-2.ensures ∙ c.if-found_bad-2.false));
    }

pub returns : goal.returns
returns c =
    ends-shift _ _ c.if-d-e.false (sym c.off_board.ensures ∙ c.if-off_board.false) (sym c.off_board-2.ensures ∙ c.if-off_board-2.false)
    (sym c.found_bad.ensures ∙ c.if-found_bad.false) (sym c.found_bad-2.ensures ∙ c.if-found_bad-2.false) _ c.shift_found-shift.ensures
