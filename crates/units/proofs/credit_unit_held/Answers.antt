-- As for counts: two runs, the classes before the table's end and those past it, reach every cell of the side once.
use mathlib.Core.Path.{◌≡◌, ap, ◌∙◌}
use mathlib.Core.Bool.{Bool}
use mathlib.Core.List.{List}
use Prim.Native.Nat.{ℕ, ◌+◌, ◌*◌, ◌-◌}
use lib.ListN.{length, drop, length-drop}
use Rattle.board.specs.Hits.{Board}
use Rattle.board.specs.Sides.{table_of}
use Rattle.room.specs.Room.{is_horizontal}
use Rattle.units.specs.UnitParts.{RunCreditedU}
use Rattle.units.specs.UnitPartsLaws.{first-ready_u, second-ready_u, family-credited_u}
use Rattle.units.proofs.credit_unit_held.Goals as goal
use Rattle.board.specs.Given.{board_of}

pub credit_unit_run-requires : goal.credit_unit_run-requires
credit_unit_run-requires c =
    let B : Board = board_of c.args.tables in
    let s : Bool = is_horizontal c.args.side in
    let ps : List ℕ = table_of B s in
    let read : c.patterns_from-part.result.now ≡ drop c.args.family ps = c.patterns_from-part.ensures in
    rw read (first-ready_u B c.args.side c.args.family c.args.units.now c.requires c.fold_values-terms.result c.fold_values-terms.ensures _ (length-drop c.args.family ps))

pub credit_unit_run-requires-2 : goal.credit_unit_run-requires-2
credit_unit_run-requires-2 c =
    let B : Board = board_of c.args.tables in
    let s : Bool = is_horizontal c.args.side in
    let ps : List ℕ = table_of B s in
    let read : c.patterns_from-part.result.now ≡ drop c.args.family ps = c.patterns_from-part.ensures in
    let long : length c.patterns_from-part.result.now ≡ length ps - c.args.family = ap length read ∙ length-drop c.args.family ps in
    let first : RunCreditedU c.fold_values-terms.result (drop c.args.family ps) (length ps - c.args.family) c.args.side.cells c.args.side.stride c.args.side.across c.args.units.now c.credit_unit_run.new.units = rw (read, length-drop c.args.family ps) at c.credit_unit_run.ensures in
    rw c.patterns_from-whole.ensures (second-ready_u B c.args.side c.args.family c.args.units.now c.requires c.fold_values-terms.result c.fold_values-terms.ensures _ first _ (ap (λ (n : ℕ). c.args.side.cells + n * c.args.side.stride) long))

pub returns : goal.returns
returns c =
    let B : Board = board_of c.args.tables in
    let s : Bool = is_horizontal c.args.side in
    let ps : List ℕ = table_of B s in
    let read : c.patterns_from-part.result.now ≡ drop c.args.family ps = c.patterns_from-part.ensures in
    let long : length c.patterns_from-part.result.now ≡ length ps - c.args.family = ap length read ∙ length-drop c.args.family ps in
    let first : RunCreditedU c.fold_values-terms.result (drop c.args.family ps) (length ps - c.args.family) c.args.side.cells c.args.side.stride c.args.side.across c.args.units.now c.credit_unit_run.new.units = rw (read, length-drop c.args.family ps) at c.credit_unit_run.ensures in
    family-credited_u B c.args.side c.args.family c.args.units.now c.requires c.fold_values-terms.result c.fold_values-terms.ensures _ first _ (rw (c.patterns_from-whole.ensures, long) at c.credit_unit_run-2.ensures)
