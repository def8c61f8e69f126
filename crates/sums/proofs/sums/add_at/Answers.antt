use mathlib.Core.Path.{◌≡◌, ap, ap₂}
use lib.IntN.{pos, ◌+ℤ◌}
use lib.ListN.{get_or, set}
use mir.Syntax.{w64}
use mir.Facts.{to_z-of_z}
use Rattle.laws.specs.Signed.{read, fit_at, read_at}
use borrow.Author.Rules.{rules}
use Rattle.sums.proofs.sums.add_at.Goals as goal

pub overflow_add-sums : goal.overflow_add-sums
overflow_add-sums c =
    let old-back : read w64 (get_or c.args.sums.now c.args.k (pos 0)) ≡ (get_or c.args.sums.now c.args.k (pos 0)) = search rules in
    let sum_back : read w64 (get_or c.args.sums.now c.args.k (pos 0)) +ℤ read w64 c.args.x ≡ (get_or c.args.sums.now c.args.k (pos 0)) +ℤ c.args.x = ap₂ ◌+ℤ◌ old-back (to_z-of_z c.ranges.x) in
    fit_at w64 (sum_back) c.requires.1

pub offset_bounds-sums-k-2 : goal.offset_bounds-sums-k-2
offset_bounds-sums-k-2 c = search rules

pub bounds-sums-k : goal.bounds-sums-k
bounds-sums-k c = search rules

pub shape_of-sums : goal.shape_of-sums
shape_of-sums c = search rules

pub returns : goal.returns
returns c =
    let old-back : read w64 (get_or c.args.sums.now c.args.k (pos 0)) ≡ (get_or c.args.sums.now c.args.k (pos 0)) = search rules in
    let sum_back : read w64 (get_or c.args.sums.now c.args.k (pos 0)) +ℤ read w64 c.args.x ≡ (get_or c.args.sums.now c.args.k (pos 0)) +ℤ c.args.x = ap₂ ◌+ℤ◌ old-back (to_z-of_z c.ranges.x) in
    ap (set c.args.sums.now c.args.k) (read_at w64 (sum_back) c.requires.1)
