-- The family's terms are folded; the classes before the table's end make the first run, those past it the second, and both together reach every cell once.
use mathlib.Core.Path.{◌≡◌, ap, ◌∙◌}
use Prim.Native.Nat.{ℕ, ◌+◌, ◌*◌, ◌-◌, ◌^◌, ◌≤◌, ◌<◌}
use native.Mathlib.Nat.{le_refl, le_trans, add-le-add}
use native.Mathlib.Omega.{arith}
use lib.ListN.{length, drop, length-drop}
use Rattle.board.specs.Sides.{table_of, period_of}
use Rattle.room.specs.Room.{is_horizontal}
use Rattle.cells.specs.Credit.{RunCredited}
use Rattle.cells.specs.RunLaws.{first-stride}
use Rattle.cells.specs.CreditLaws.{first-ready, second-ready, family-credited}
use Rattle.tables.proofs.credit.credit_held.Goals as goal
use Rattle.board.specs.Given.{board_of}

pub credit_run-requires : goal.credit_run-requires
credit_run-requires c =
    let read : c.patterns_from-part.result.now ≡ drop c.args.family (table_of (board_of c.args.tables) (is_horizontal c.args.side)) = c.patterns_from-part.ensures in
    let a = c.args in
    rw (read) (first-ready (board_of c.args.tables) a.side a.family a.counts.now a.weights.now c.requires c.fold_family-terms.result c.fold_family-terms.ensures _ (length-drop a.family ((table_of (board_of c.args.tables) (is_horizontal c.args.side)))))

pub overflow_mul-n : goal.overflow_mul-n
overflow_mul-n c =
    let read : c.patterns_from-part.result.now ≡ drop c.args.family (table_of (board_of c.args.tables) (is_horizontal c.args.side)) = c.patterns_from-part.ensures in
    let long : length c.patterns_from-part.result.now ≡ length (table_of (board_of c.args.tables) (is_horizontal c.args.side)) - c.args.family = ap length read ∙ length-drop c.args.family (table_of (board_of c.args.tables) (is_horizontal c.args.side)) in
    let into : length c.patterns_from-part.result.now * c.args.side.stride ≤ 3 * period_of (board_of c.args.tables) (is_horizontal c.args.side) = let a = c.args in
    rw (long) (first-stride (board_of c.args.tables) a.side a.family c.requires.places) in
    let starts : c.args.side.cells + length c.patterns_from-part.result.now * c.args.side.stride ≤ length c.args.counts.now = le_trans (add-le-add (le_refl c.args.side.cells) into) c.requires.room.0 in
    let short : length c.args.counts.now < 2 ^ 64 = omega arith in
    record { fits = omega (arith, starts, short) }

pub overflow_add-cells : goal.overflow_add-cells
overflow_add-cells c =
    let read : c.patterns_from-part.result.now ≡ drop c.args.family (table_of (board_of c.args.tables) (is_horizontal c.args.side)) = c.patterns_from-part.ensures in
    let long : length c.patterns_from-part.result.now ≡ length (table_of (board_of c.args.tables) (is_horizontal c.args.side)) - c.args.family = ap length read ∙ length-drop c.args.family (table_of (board_of c.args.tables) (is_horizontal c.args.side)) in
    let into : length c.patterns_from-part.result.now * c.args.side.stride ≤ 3 * period_of (board_of c.args.tables) (is_horizontal c.args.side) = let a = c.args in
    rw (long) (first-stride (board_of c.args.tables) a.side a.family c.requires.places) in
    let starts : c.args.side.cells + length c.patterns_from-part.result.now * c.args.side.stride ≤ length c.args.counts.now = le_trans (add-le-add (le_refl c.args.side.cells) into) c.requires.room.0 in
    let short : length c.args.counts.now < 2 ^ 64 = omega arith in
    record { fits = omega (arith, starts, short) }

pub credit_run-requires-2 : goal.credit_run-requires-2
credit_run-requires-2 c =
    let read : c.patterns_from-part.result.now ≡ drop c.args.family (table_of (board_of c.args.tables) (is_horizontal c.args.side)) = c.patterns_from-part.ensures in
    let long : length c.patterns_from-part.result.now ≡ length (table_of (board_of c.args.tables) (is_horizontal c.args.side)) - c.args.family = ap length read ∙ length-drop c.args.family (table_of (board_of c.args.tables) (is_horizontal c.args.side)) in
    let first : let a = c.args in RunCredited c.fold_family-terms.result (drop a.family ((table_of (board_of c.args.tables) (is_horizontal c.args.side)))) (length ((table_of (board_of c.args.tables) (is_horizontal c.args.side))) - a.family) a.side.cells a.side.stride a.side.across a.counts.now c.credit_run.new.counts a.weights.now c.credit_run.new.weights = rw (read, length-drop c.args.family ((table_of (board_of c.args.tables) (is_horizontal c.args.side)))) at c.credit_run.ensures in
    let a = c.args in
    rw c.patterns_from-whole.ensures
    (second-ready (board_of c.args.tables) a.side a.family a.counts.now a.weights.now c.requires c.fold_family-terms.result c.fold_family-terms.ensures _ _ (first) _ (ap (λ (n : ℕ). a.side.cells + n * a.side.stride) (long)))

pub returns : goal.returns
returns c =
    let read : c.patterns_from-part.result.now ≡ drop c.args.family (table_of (board_of c.args.tables) (is_horizontal c.args.side)) = c.patterns_from-part.ensures in
    let long : length c.patterns_from-part.result.now ≡ length (table_of (board_of c.args.tables) (is_horizontal c.args.side)) - c.args.family = ap length read ∙ length-drop c.args.family (table_of (board_of c.args.tables) (is_horizontal c.args.side)) in
    let first : let a = c.args in RunCredited c.fold_family-terms.result (drop a.family ((table_of (board_of c.args.tables) (is_horizontal c.args.side)))) (length ((table_of (board_of c.args.tables) (is_horizontal c.args.side))) - a.family) a.side.cells a.side.stride a.side.across a.counts.now c.credit_run.new.counts a.weights.now c.credit_run.new.weights = rw (read, length-drop c.args.family ((table_of (board_of c.args.tables) (is_horizontal c.args.side)))) at c.credit_run.ensures in
    let a = c.args in
    family-credited (board_of c.args.tables) a.side a.family a.counts.now a.weights.now c.requires c.fold_family-terms.result c.fold_family-terms.ensures _ _ (first) _ _
    (rw (c.patterns_from-whole.ensures, long) at c.credit_run-2.ensures)
