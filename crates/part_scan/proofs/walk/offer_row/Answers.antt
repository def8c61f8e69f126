use mathlib.Core.Path.{ap, ◌∙◌}
use Prim.Native.Nat.{◌+◌, ◌-◌}
use Rattle.laws.specs.Words.{all}
use Rattle.part_scan.specs.declared.kept.PartKept.{PartKept}
use Rattle.part_scan.specs.Kept.{walked}
use Rattle.part_scan.specs.Walk.{number_value, first_number}
use Rattle.part_scan.specs.WalkLaws.{row-runs}
use Rattle.part_scan.proofs.walk.offer_row.Goals as goal

pub returns : goal.returns
returns c =
    let a = c.args in
    c.offer_cols.ensures ∙ ap (λ (X : PartKept). walked all (number_value a.hs.now a.vs.now) X (first_number a.listed a.row + a.cols.from) (a.cols.to - a.cols.from)) c.offer_cols-one.ensures ∙ row-runs _ _ a.kept a.listed a.cols a.row c.requires.listed_bound.2 c.requires.listed_bound.1
