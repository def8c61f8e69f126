use native.Mathlib.Omega.{arith}
use Rattle.laws.specs.GridLaws.{h-below, v_below}
use Rattle.soft_logical.specs.LogicalLaws.{positive, cells-few, fit-read}
use borrow.Author.Rules.{rules}
use Rattle.soft_logical.proofs.fit_at.Goals as goal

pub nonzero_rem-a : goal.nonzero_rem-a
nonzero_rem-a c = search rules

pub overflow_mul-a : goal.overflow_mul-a
overflow_mul-a c = record { fits = omega (arith, h-below c.args.periods.h (positive c.requires.h) c.args.row c.args.col, c.requires.h.few) }

pub overflow_add-a : goal.overflow_add-a
overflow_add-a c = record { fits = omega (arith, h-below c.args.periods.h (positive c.requires.h) c.args.row c.args.col, c.requires.h.few) }

pub overflow_mul-b : goal.overflow_mul-b
overflow_mul-b c = search rules

pub overflow_mul-b-2 : goal.overflow_mul-b-2
overflow_mul-b-2 c = record { fits = omega (arith, v_below c.args.periods.v (positive c.requires.v) c.args.row c.args.col, c.requires.v.few, c.requires.h.few) }

pub nonzero_rem-b-2 : goal.nonzero_rem-b-2
nonzero_rem-b-2 c = search rules

pub overflow_add-b : goal.overflow_add-b
overflow_add-b c = record { fits = omega (arith, v_below c.args.periods.v (positive c.requires.v) c.args.row c.args.col, c.requires.v.few, c.requires.h.few) }

pub overflow_add-b-2 : goal.overflow_add-b-2
overflow_add-b-2 c = record { fits = omega (arith, v_below c.args.periods.v (positive c.requires.v) c.args.row c.args.col, c.requires.v.few, c.requires.h.few) }

pub offset_bounds-counts-a : goal.offset_bounds-counts-a
offset_bounds-counts-a c = record { fits = omega (arith, h-below c.args.periods.h (positive c.requires.h) c.args.row c.args.col, c.requires.h.few) }

pub bounds-counts-a : goal.bounds-counts-a
bounds-counts-a c = omega (arith, h-below c.args.periods.h (positive c.requires.h) c.args.row c.args.col, c.requires.room.0)

pub offset_bounds-counts-b : goal.offset_bounds-counts-b
offset_bounds-counts-b c = record { fits = omega (arith, v_below c.args.periods.v (positive c.requires.v) c.args.row c.args.col, c.requires.v.few, c.requires.h.few) }

pub bounds-counts-b : goal.bounds-counts-b
bounds-counts-b c = omega (arith, v_below c.args.periods.v (positive c.requires.v) c.args.row c.args.col, c.requires.room.0)

pub overflow_add-result : goal.overflow_add-result
overflow_add-result c = let s = c in record { fits = omega (arith, cells-few s.args.periods.h s.args.periods.v s.args.edges s.args.counts.now s.args.weights.now s.requires s.args.row s.args.col) }

pub offset_bounds-weights-a : goal.offset_bounds-weights-a
offset_bounds-weights-a c = record { fits = omega (arith, h-below c.args.periods.h (positive c.requires.h) c.args.row c.args.col, c.requires.h.few) }

pub bounds-weights-a : goal.bounds-weights-a
bounds-weights-a c = omega (arith, h-below c.args.periods.h (positive c.requires.h) c.args.row c.args.col, c.requires.room.1)

pub offset_bounds-weights-b : goal.offset_bounds-weights-b
offset_bounds-weights-b c = record { fits = omega (arith, v_below c.args.periods.v (positive c.requires.v) c.args.row c.args.col, c.requires.v.few, c.requires.h.few) }

pub bounds-weights-b : goal.bounds-weights-b
bounds-weights-b c = omega (arith, v_below c.args.periods.v (positive c.requires.v) c.args.row c.args.col, c.requires.room.1)

pub returns : goal.returns
returns c = let s = c in fit-read s.args.periods.h s.args.periods.v s.args.edges s.args.counts.now s.args.weights.now s.requires s.args.row s.args.col
