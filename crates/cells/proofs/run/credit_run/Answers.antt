-- The faster run does all classes but a few, and one class at a time does the rest: a run of its own, further on.
use Prim.Native.Nat.{ℕ, ◌+◌, ◌*◌, ◌/◌, ◌%◌, ◌^◌, ◌≤◌, ◌<◌}
use native.Mathlib.Omega.{arith}
use borrow.Author.Rules.{part_to_end}
use Rattle.cells.specs.CreditLaws.{next_low, as-horizontal, of-horizontal, as-vertical, of-vertical, rest-ready, rest-credited}
use Rattle.cells.proofs.run.credit_run.Goals as goal

pub credit_pairs-requires : goal.credit_pairs-requires
credit_pairs-requires c = as-horizontal c.args.terms c.args.part.now c.args.n c.args.at c.args.stride c.args.across c.args.counts.now c.args.weights.now c.requires c.if-stride-eq3.true

pub overflow_mul-done-then-stride-eq3 : goal.overflow_mul-done-then-stride-eq3
overflow_mul-done-then-stride-eq3 c =
    let low : (m : ℕ) → m ≤ c.args.n → c.args.at + m * c.args.stride < 2 ^ 64 = λ m h. next_low c.args.terms c.args.part.now c.args.n c.args.at c.args.stride c.args.across c.args.counts.now c.args.weights.now c.requires m h (2 ^ 64) (omega (arith, c.ranges.at)) (omega arith) in
    omega (arith, low (c.args.n / 2 * 2) (omega arith))

pub overflow_add-at : goal.overflow_add-at
overflow_add-at c =
    let low : (m : ℕ) → m ≤ c.args.n → c.args.at + m * c.args.stride < 2 ^ 64 = λ m h. next_low c.args.terms c.args.part.now c.args.n c.args.at c.args.stride c.args.across c.args.counts.now c.args.weights.now c.requires m h (2 ^ 64) (omega (arith, c.ranges.at)) (omega arith) in
    omega (arith, low (c.args.n / 2 * 2) (omega arith))

pub credit_singles-requires : goal.credit_singles-requires
credit_singles-requires c = rw (part_to_end c.args.part.now (c.args.n / 2 * 2)) (rest-ready c.args.terms c.args.part.now c.args.n c.args.at c.args.stride c.args.across c.args.counts.now c.args.weights.now c.requires (c.args.n / 2 * 2) (c.args.n % 2) (omega arith) _ _ (of-horizontal c.args.terms c.args.part.now c.args.n c.args.at c.args.stride c.args.across c.args.counts.now c.args.weights.now c.requires c.if-stride-eq3.true _ _ _ c.credit_pairs.ensures))

pub credit_fours-requires : goal.credit_fours-requires
credit_fours-requires c = as-vertical c.args.terms c.args.part.now c.args.n c.args.at c.args.stride c.args.across c.args.counts.now c.args.weights.now c.requires c.if-stride-eq3.false

pub overflow_mul-done-else-stride-eq3-2 : goal.overflow_mul-done-else-stride-eq3-2
overflow_mul-done-else-stride-eq3-2 c =
    let low : (m : ℕ) → m ≤ c.args.n → c.args.at + m * c.args.stride < 2 ^ 64 = λ m h. next_low c.args.terms c.args.part.now c.args.n c.args.at c.args.stride c.args.across c.args.counts.now c.args.weights.now c.requires m h (2 ^ 64) (omega (arith, c.ranges.at)) (omega arith) in
    omega (arith, low (c.args.n / 4 * 4) (omega arith))

pub overflow_add-at-else-stride-eq3 : goal.overflow_add-at-else-stride-eq3
overflow_add-at-else-stride-eq3 c =
    let low : (m : ℕ) → m ≤ c.args.n → c.args.at + m * c.args.stride < 2 ^ 64 = λ m h. next_low c.args.terms c.args.part.now c.args.n c.args.at c.args.stride c.args.across c.args.counts.now c.args.weights.now c.requires m h (2 ^ 64) (omega (arith, c.ranges.at)) (omega arith) in
    omega (arith, low (c.args.n / 4 * 4) (omega arith))

pub credit_singles-requires-else-stride-eq3 : goal.credit_singles-requires-else-stride-eq3
credit_singles-requires-else-stride-eq3 c = rw (part_to_end c.args.part.now (c.args.n / 4 * 4)) (rest-ready c.args.terms c.args.part.now c.args.n c.args.at c.args.stride c.args.across c.args.counts.now c.args.weights.now c.requires (c.args.n / 4 * 4) (c.args.n % 4) (omega arith) _ _ (of-vertical c.args.terms c.args.part.now c.args.n c.args.at c.args.stride c.args.across c.args.counts.now c.args.weights.now c.requires c.if-stride-eq3.false _ _ _ c.credit_fours.ensures))

pub returns-then-stride-eq3 : goal.returns-then-stride-eq3
returns-then-stride-eq3 c = rest-credited c.args.terms c.args.part.now c.args.n c.args.at c.args.stride c.args.across c.args.counts.now c.args.weights.now c.requires (c.args.n / 2 * 2) (c.args.n % 2) (omega arith) _ _ (of-horizontal c.args.terms c.args.part.now c.args.n c.args.at c.args.stride c.args.across c.args.counts.now c.args.weights.now c.requires c.if-stride-eq3.true _ _ _ c.credit_pairs.ensures) _ _ (rw (part_to_end c.args.part.now (c.args.n / 2 * 2)) at c.credit_singles.ensures)

pub returns-else-stride-eq3 : goal.returns-else-stride-eq3
returns-else-stride-eq3 c = rest-credited c.args.terms c.args.part.now c.args.n c.args.at c.args.stride c.args.across c.args.counts.now c.args.weights.now c.requires (c.args.n / 4 * 4) (c.args.n % 4) (omega arith) _ _ (of-vertical c.args.terms c.args.part.now c.args.n c.args.at c.args.stride c.args.across c.args.counts.now c.args.weights.now c.requires c.if-stride-eq3.false _ _ _ c.credit_fours.ensures) _ _ (rw (part_to_end c.args.part.now (c.args.n / 4 * 4)) at c.credit_singles-else-stride-eq3.ensures)
