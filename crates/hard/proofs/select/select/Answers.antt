use Rattle.std.specs.Prelude.{None, Some}
use mathlib.Core.Path.{◌≡◌, ap, sym, ◌∙◌}
use mathlib.Core.Bool.{Bool, true, false}
use lib.Ieee.{Float, eq, of_bits, binary32}
use Rattle.laws.specs.Words.{zero_f}
use Rattle.board.specs.Hits.{EdgeList}
use Rattle.figures.specs.Figures.{total_confidence}
use Rattle.hard.specs.SelectLaws.{scan-sound, select-refused, select_chosen}
use Rattle.hard.proofs.select.select.Goals as goal
use Rattle.board.specs.Given.{board_of, list_of}

-- the test is of the total confidence
told : (E : EdgeList) (x : Float) → x ≡ total_confidence E → (t : Bool) → eq x (of_bits binary32 0) ≡ t → eq (total_confidence E) zero_f ≡ t
unfolding of_bits
told E x d t e = ap (λ (x : Float). eq x zero_f) (sym d) ∙ e

pub returns-then-confidence : goal.returns-then-confidence
returns-then-confidence c =
    let a = c.args in
    let B = board_of a.tables in
    let E = list_of a.list in
    select-refused B E _ _ _ _ (told E c.total_confidence-confidence.result c.total_confidence-confidence.ensures true c.if-confidence.true)

pub finish-requires : goal.finish-requires
finish-requires c =
    let a = c.args in
    let B = board_of a.tables in
    let E = list_of a.list in
    scan-sound B E _ _ _ _ c.requires _ _ _ _ c.scan_transforms-scan.ensures

pub returns-in-None : goal.returns-in-None
returns-in-None c =
    let a = c.args in
    let B = board_of a.tables in
    let E = list_of a.list in
    select_chosen B E _ _ _ _ _ _ c.scan_transforms-scan.result c.finish.result None _ c.total_confidence-confidence.ensures (told E c.total_confidence-confidence.result c.total_confidence-confidence.ensures false c.if-confidence.false) c.scan_transforms-scan.ensures c.finish.ensures c.in-None.is

pub returns-in-Some : goal.returns-in-Some
returns-in-Some c =
    let a = c.args in
    let B = board_of a.tables in
    let E = list_of a.list in
    select_chosen B E _ _ _ _ _ _ c.scan_transforms-scan.result c.finish.result (Some (c.in-Some.winner, c.in-Some.runner_up)) _ c.total_confidence-confidence.ensures (told E c.total_confidence-confidence.result c.total_confidence-confidence.ensures false c.if-confidence.false) c.scan_transforms-scan.ensures c.finish.ensures c.in-Some.is
