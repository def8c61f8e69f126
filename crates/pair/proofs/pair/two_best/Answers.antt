use borrow.Author.Rules.{rules}
use native.Mathlib.Omega.{arith}
use Rattle.pair.specs.PairLaws.{pairs-few, levels-ok, h-read, v-read, two-tied, two-single}
use Rattle.level.specs.Level.{tied_sum}
use Rattle.pair.proofs.pair.two_best.Goals as goal

pub overflow_mul-pairs : goal.overflow_mul-pairs
overflow_mul-pairs c =
    record { fits = omega (arith, pairs-few _ _ c.requires.0 c.requires.1 _ _ c.requires.2 _ _ c.level_max-a.ensures c.level_max-b.ensures) }

pub returns-then-pairs-gt1 : goal.returns-then-pairs-gt1
returns-then-pairs-gt1 c =
    let a = c.args in
    let h = h-read _ _ c.requires.0 c.requires.1 _ _ c.requires.2 _ _ c.level_max-a.ensures c.level_max-b.ensures in
    let v = v-read _ _ c.requires.0 c.requires.1 _ _ c.requires.2 _ _ c.level_max-a.ensures c.level_max-b.ensures in
    let first = c.row_major_first-winner.ensures (tied_sum a.hs.now c.level_max-a.result.top) (tied_sum a.vs.now c.level_max-b.result.top) (λ i r l e. search rules) (λ i r l e. search rules) in
    two-tied _ _ c.requires.0 c.requires.1 _ _ c.requires.2 _ _ c.level_max-a.ensures c.level_max-b.ensures _ _ _ h v _ _ (rw (c.requires.2.hlen, c.requires.2.vlen, h, v) first) c.if-pairs-gt1.true c.other_pair-second.ensures

pub key_of-winner-requires : goal.key_of-winner-requires
key_of-winner-requires c =
    let l = levels-ok _ _ c.requires.0 c.requires.1 _ _ c.requires.2 _ _ c.level_max-a.ensures c.level_max-b.ensures in
    (c.requires.0, c.requires.1, l.h-cell, l.v-cell)

pub second_pair-second-requires : goal.second_pair-second-requires
second_pair-second-requires c =
    (c.requires.0, c.requires.1, levels-ok _ _ c.requires.0 c.requires.1 _ _ c.requires.2 _ _ c.level_max-a.ensures c.level_max-b.ensures)

pub returns : goal.returns
returns c =
    two-single _ _ c.requires.0 c.requires.1 _ _ c.requires.2 _ _ c.level_max-a.ensures c.level_max-b.ensures _ _ c.key_of-winner.ensures c.if-pairs-gt1.false c.second_pair-second.ensures
