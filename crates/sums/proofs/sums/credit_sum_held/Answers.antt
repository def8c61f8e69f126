-- As for counts: two runs, the classes before the table's end and those past it, reach every cell of the side once.
use mathlib.Core.Path.{◌≡◌, ap, ◌∙◌}
use Prim.Native.Nat.{ℕ, ◌+◌, ◌*◌, ◌-◌, ◌^◌, ◌≤◌, ◌<◌}
use native.Mathlib.Nat.{le_refl, le_trans, le-add_left, lt_of_le_of_lt, add-le-add}
use native.Mathlib.Omega.{arith}
use lib.ListN.{length, drop, length-drop}
use Rattle.board.specs.Sides.{table_of, period_of}
use Rattle.room.specs.Room.{is_horizontal}
use Rattle.cells.specs.RunLaws.{first-stride}
use Rattle.sums.specs.SumParts.{RunCreditedZ}
use Rattle.sums.specs.SumPartsLaws.{first-ready_z, second-ready_z, family-credited_z}
use Rattle.sums.proofs.sums.credit_sum_held.Goals as goal
use Rattle.board.specs.Given.{board_of}

pub credit_sum_run-requires : goal.credit_sum_run-requires
credit_sum_run-requires c =
    let read : c.patterns_from-part.result.now ≡ drop c.args.family (table_of (board_of c.args.tables) (is_horizontal c.args.side)) = c.patterns_from-part.ensures in
    let a = c.args in
    rw (read) (first-ready_z (board_of c.args.tables) a.side a.also a.family a.sums.now c.requires c.fold_sums-terms.result c.fold_sums-terms.ensures _ (length-drop a.family ((table_of (board_of c.args.tables) (is_horizontal c.args.side)))))

pub overflow_mul-n : goal.overflow_mul-n
overflow_mul-n c =
    let read : c.patterns_from-part.result.now ≡ drop c.args.family (table_of (board_of c.args.tables) (is_horizontal c.args.side)) = c.patterns_from-part.ensures in
    let long : length c.patterns_from-part.result.now ≡ length (table_of (board_of c.args.tables) (is_horizontal c.args.side)) - c.args.family = ap length read ∙ length-drop c.args.family (table_of (board_of c.args.tables) (is_horizontal c.args.side)) in
    let into : length c.patterns_from-part.result.now * c.args.side.stride ≤ 3 * period_of (board_of c.args.tables) (is_horizontal c.args.side) = let a = c.args in
    rw (long) (first-stride (board_of c.args.tables) a.side a.family c.requires.places) in
    let starts : c.args.side.cells + length c.patterns_from-part.result.now * c.args.side.stride ≤ length c.args.sums.now = le_trans (add-le-add (le_refl c.args.side.cells) into) c.requires.room in
    let short : length c.args.sums.now < 2 ^ 64 = omega arith in
    record { fits = lt_of_le_of_lt (le_trans (le-add_left _ _) (starts)) (short) }

pub overflow_add-cells : goal.overflow_add-cells
overflow_add-cells c =
    let read : c.patterns_from-part.result.now ≡ drop c.args.family (table_of (board_of c.args.tables) (is_horizontal c.args.side)) = c.patterns_from-part.ensures in
    let long : length c.patterns_from-part.result.now ≡ length (table_of (board_of c.args.tables) (is_horizontal c.args.side)) - c.args.family = ap length read ∙ length-drop c.args.family (table_of (board_of c.args.tables) (is_horizontal c.args.side)) in
    let into : length c.patterns_from-part.result.now * c.args.side.stride ≤ 3 * period_of (board_of c.args.tables) (is_horizontal c.args.side) = let a = c.args in
    rw (long) (first-stride (board_of c.args.tables) a.side a.family c.requires.places) in
    let starts : c.args.side.cells + length c.patterns_from-part.result.now * c.args.side.stride ≤ length c.args.sums.now = le_trans (add-le-add (le_refl c.args.side.cells) into) c.requires.room in
    let short : length c.args.sums.now < 2 ^ 64 = omega arith in
    record { fits = lt_of_le_of_lt (starts) (short) }

pub credit_sum_run-requires-2 : goal.credit_sum_run-requires-2
credit_sum_run-requires-2 c =
    let read : c.patterns_from-part.result.now ≡ drop c.args.family (table_of (board_of c.args.tables) (is_horizontal c.args.side)) = c.patterns_from-part.ensures in
    let long : length c.patterns_from-part.result.now ≡ length (table_of (board_of c.args.tables) (is_horizontal c.args.side)) - c.args.family = ap length read ∙ length-drop c.args.family (table_of (board_of c.args.tables) (is_horizontal c.args.side)) in
    let first : let a = c.args in RunCreditedZ c.fold_sums-terms.result (drop a.family ((table_of (board_of c.args.tables) (is_horizontal c.args.side)))) (length ((table_of (board_of c.args.tables) (is_horizontal c.args.side))) - a.family) a.side.cells a.side.stride a.side.across a.sums.now c.credit_sum_run.new.sums = rw (read, length-drop c.args.family ((table_of (board_of c.args.tables) (is_horizontal c.args.side)))) at c.credit_sum_run.ensures in
    let a = c.args in
    rw c.patterns_from-whole.ensures (second-ready_z (board_of c.args.tables) a.side a.also a.family a.sums.now c.requires c.fold_sums-terms.result c.fold_sums-terms.ensures _ (first) _ (ap (λ (n : ℕ). a.side.cells + n * a.side.stride) (long)))

pub returns : goal.returns
returns c =
    let read : c.patterns_from-part.result.now ≡ drop c.args.family (table_of (board_of c.args.tables) (is_horizontal c.args.side)) = c.patterns_from-part.ensures in
    let long : length c.patterns_from-part.result.now ≡ length (table_of (board_of c.args.tables) (is_horizontal c.args.side)) - c.args.family = ap length read ∙ length-drop c.args.family (table_of (board_of c.args.tables) (is_horizontal c.args.side)) in
    let first : let a = c.args in RunCreditedZ c.fold_sums-terms.result (drop a.family ((table_of (board_of c.args.tables) (is_horizontal c.args.side)))) (length ((table_of (board_of c.args.tables) (is_horizontal c.args.side))) - a.family) a.side.cells a.side.stride a.side.across a.sums.now c.credit_sum_run.new.sums = rw (read, length-drop c.args.family ((table_of (board_of c.args.tables) (is_horizontal c.args.side)))) at c.credit_sum_run.ensures in
    let a = c.args in
    family-credited_z (board_of c.args.tables) a.side a.also a.family a.sums.now c.requires c.fold_sums-terms.result c.fold_sums-terms.ensures _ (first) _ (rw (c.patterns_from-whole.ensures, long) at c.credit_sum_run-2.ensures)
