use mathlib.Core.Path.{ap, ◌∙◌}
use Prim.Native.Nat.{◌*◌, ◌-◌}
use Rattle.part_scan.specs.declared.kept.PartKept.{PartKept}
use Rattle.part_scan.specs.Kept.{walked}
use Rattle.part_scan.specs.Walk.{number_value, first_number, in_cols}
use Rattle.part_scan.specs.WalkLaws.{part-runs}
use Rattle.part_scan.proofs.walk.offer_origins.Goals as goal

pub returns : goal.returns
returns c =
    let a = c.args in
    c.offer_rows.ensures ∙ ap (λ (X : PartKept). walked (in_cols a.cols) (number_value a.hs.now a.vs.now) X (first_number a.listed a.rows.from) ((a.rows.to - a.rows.from) * 501)) c.offer_rows-one.ensures ∙ part-runs _ _ a.kept a.listed a.rows a.cols c.requires.listed_bound.1 c.requires.listed_bound.2
