use mathlib.Core.Path.{◌≡◌, ap, ◌∙◌}
use Prim.Native.Nat.{ℕ, ◌*◌, ◌-◌}
use native.Mathlib.Omega.{arith}
use Rattle.part_scan.specs.Kept.{walked}
use Rattle.part_scan.specs.Walk.{number_value, first_number, in_cols}
use Rattle.part_scan.specs.WalkLaws.{rows_none, row_more}
use Rattle.part_scan.proofs.walk.offer_rows.Goals as goal

pub loop-row-init : goal.loop-row-init
loop-row-init c = let a = c.args in (omega arith, omega arith, rows_none _ (in_cols a.cols) a.kept _ a.from)

pub loop-row-preserved : goal.loop-row-preserved
loop-row-preserved c =
    let l = c.loop-row in
    let a = c.args in
    (omega arith, omega arith, c.offer_row-held.ensures ∙ row_more _ _ a.kept a.listed a.cols a.from l.row l.held l.invariant.0 l.invariant.2)

pub returns : goal.returns
returns c =
    let l = c.loop-row in
    let a = c.args in
    let e : l.row ≡ a.to = omega arith in
    l.invariant.2 ∙ ap (λ (x : ℕ). walked (in_cols a.cols) (number_value a.hs.now a.vs.now) a.kept (first_number a.listed a.from) ((x - a.from) * 501)) e
