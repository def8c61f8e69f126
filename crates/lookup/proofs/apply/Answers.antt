use borrow.Author.Rules.{rules}
use mathlib.Core.Path.{◌≡◌, ap₂}
use native.Mathlib.Omega.{arith}
use lib.IntN.{◌+ℤ◌, ◌*ℤ◌}
use mir.Syntax.{w32}
use mir.Facts.{to_z-of_z}
use Rattle.board.specs.Transform.{mat, mapped}
use Rattle.laws.specs.Signed.{read, fit_at, read_at}
use Rattle.board.specs.TransformLaws.{mat-unit, entry-abs, mapped-abs}
use Rattle.lookup.proofs.apply.Goals as goal

-- the two products, as the machine makes them
first : (c : goal.After-entry) → read w32 c.entry.result *ℤ read w32 c.args.col ≡ mat c.args.t c.args.i 0 *ℤ c.args.col
first c = let s = c.before in ap₂ ◌*ℤ◌ (read_at w32 c.entry.ensures (omega (arith, mat-unit s.args.t s.args.i 0))) (to_z-of_z s.ranges.col)

second : (c : goal.After-entry-2) → read w32 c.entry-2.result *ℤ read w32 c.args.row ≡ mat c.args.t c.args.i 1 *ℤ c.args.row
second c = let s = c.before.before in ap₂ ◌*ℤ◌ (read_at w32 c.entry-2.ensures (omega (arith, mat-unit s.args.t s.args.i 1))) (to_z-of_z s.ranges.row)

pub overflow_mul-result : goal.overflow_mul-result
overflow_mul-result c = let s = c.before in fit_at w32 (first c) (omega (arith, entry-abs s.args.t s.args.i 0 s.args.col))

pub entry-requires-2 : goal.entry-requires-2
entry-requires-2 c = search rules

pub overflow_mul-result-2 : goal.overflow_mul-result-2
overflow_mul-result-2 c = let s = c.before.before in fit_at w32 (second c) (omega (arith, entry-abs s.args.t s.args.i 1 s.args.row))

both : (c : goal.After-entry-2) → read w32 (read w32 c.entry.result *ℤ read w32 c.args.col) +ℤ read w32 (read w32 c.entry-2.result *ℤ read w32 c.args.row) ≡ mapped c.args.t c.args.i c.args.col c.args.row
unfolding mapped
both c =
    let s = c.before.before in
    ap₂ ◌+ℤ◌
    (read_at w32 (first c.before) (omega (arith, entry-abs s.args.t s.args.i 0 s.args.col)))
    (read_at w32 (second c) (omega (arith, entry-abs s.args.t s.args.i 1 s.args.row)))

pub overflow_add-result : goal.overflow_add-result
overflow_add-result c = let s = c.before.before in fit_at w32 (both c) (omega (arith, mapped-abs s.args.t s.args.i s.args.col s.args.row))

pub returns : goal.returns
returns c = let s = c.before.before in read_at w32 (both c) (omega (arith, mapped-abs s.args.t s.args.i s.args.col s.args.row))
