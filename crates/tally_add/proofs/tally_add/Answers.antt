use Rattle.std.proofs.lemmas.Result.{err_from_is_err_and}
use mathlib.Core.Path.{◌≡◌, sym, ap₂, ◌∙◌}
use Prim.Native.Nat.{◌<◌}
use native.Mathlib.Omega.{arith}
use lib.ListN.{set}
use lib.IntN.{ℤ}
use mir.Syntax.{w32}
use mir.Val.{to_z, of_z}
use Rattle.board.specs.Hits.{edges, size}
use Rattle.tally_checks.proofs.JudgedLaws.{RecordOk, add-taken-ok}
use Rattle.tally_checks.specs.Edited.{edit-refused, edit-taken}
use Rattle.tally_add.specs.Added.{added_to}
use borrow.Author.Rules.{rules}
use Rattle.tally_add.proofs.tally_add.Goals as goal

-- the list that was given

pub bounds-rows-i : goal.bounds-rows-i
bounds-rows-i c =
    let known : RecordOk (let a = c.args in edges a.rows.now a.cols.now a.orientations.now a.bits.now a.confidences.now) c.args.tally × ((c.args.tally.edges < size (let a = c.args in edges a.rows.now a.cols.now a.orientations.now a.bits.now a.confidences.now)) × (c.args.tally.edges < 8192)) = add-taken-ok _ _ _ _ _ _ (sym c.in_ok-hit.was ∙ c.judge_add.ensures) in
    let k = known in omega (arith, k.1.0)

pub bounds-cols-i : goal.bounds-cols-i
bounds-cols-i c =
    let known : RecordOk (let a = c.args in edges a.rows.now a.cols.now a.orientations.now a.bits.now a.confidences.now) c.args.tally × ((c.args.tally.edges < size (let a = c.args in edges a.rows.now a.cols.now a.orientations.now a.bits.now a.confidences.now)) × (c.args.tally.edges < 8192)) = add-taken-ok _ _ _ _ _ _ (sym c.in_ok-hit.was ∙ c.judge_add.ensures) in
    let k = known in omega (arith, k.1.0, k.0.cols)

pub bounds-orientations-i : goal.bounds-orientations-i
bounds-orientations-i c =
    let known : RecordOk (let a = c.args in edges a.rows.now a.cols.now a.orientations.now a.bits.now a.confidences.now) c.args.tally × ((c.args.tally.edges < size (let a = c.args in edges a.rows.now a.cols.now a.orientations.now a.bits.now a.confidences.now)) × (c.args.tally.edges < 8192)) = add-taken-ok _ _ _ _ _ _ (sym c.in_ok-hit.was ∙ c.judge_add.ensures) in
    let k = known in omega (arith, k.1.0, k.0.orientations)

pub bounds-bits-i : goal.bounds-bits-i
bounds-bits-i c =
    let known : RecordOk (let a = c.args in edges a.rows.now a.cols.now a.orientations.now a.bits.now a.confidences.now) c.args.tally × ((c.args.tally.edges < size (let a = c.args in edges a.rows.now a.cols.now a.orientations.now a.bits.now a.confidences.now)) × (c.args.tally.edges < 8192)) = add-taken-ok _ _ _ _ _ _ (sym c.in_ok-hit.was ∙ c.judge_add.ensures) in
    let k = known in omega (arith, k.1.0, k.0.bits)

pub bounds-confidences-i : goal.bounds-confidences-i
bounds-confidences-i c =
    let known : RecordOk (let a = c.args in edges a.rows.now a.cols.now a.orientations.now a.bits.now a.confidences.now) c.args.tally × ((c.args.tally.edges < size (let a = c.args in edges a.rows.now a.cols.now a.orientations.now a.bits.now a.confidences.now)) × (c.args.tally.edges < 8192)) = add-taken-ok _ _ _ _ _ _ (sym c.in_ok-hit.was ∙ c.judge_add.ensures) in
    let k = known in omega (arith, k.1.0, k.0.confidences)

pub with_edge-requires : goal.with_edge-requires
with_edge-requires c =
    let known : RecordOk (let a = c.args in edges a.rows.now a.cols.now a.orientations.now a.bits.now a.confidences.now) c.args.tally × ((c.args.tally.edges < size (let a = c.args in edges a.rows.now a.cols.now a.orientations.now a.bits.now a.confidences.now)) × (c.args.tally.edges < 8192)) = add-taken-ok _ _ _ _ _ _ (sym c.in_ok-hit.was ∙ c.judge_add.ensures) in
    let k = known in (k.0.adds, omega (arith, k.1.1))

pub returns-in_err-hit : goal.returns-in_err-hit
returns-in_err-hit c =
    let p = err_from_is_err_and c.from_residual.result c.from_residual.ensures.1 in
    rw (p.1, p.2)
    (edit-refused _ _ _ _ c.judge_add.result c.judge_add.ensures _ c.in_err-hit.was)

pub returns : goal.returns
unfolding added_to
returns c =
    let row_back : to_z w32 (of_z w32 c.args.edge.row) ≡ c.args.edge.row = search rules in
    let col-back : to_z w32 (of_z w32 c.args.edge.col) ≡ c.args.edge.col = search rules in
    let a = c.args in edit-taken _ _ _ _ c.judge_add.result c.judge_add.ensures _ _ _ c.in_ok-hit.was c.with_edge.ensures (ap₂ (λ (x y : ℤ). edges (set a.rows.now a.tally.edges x) (set a.cols.now a.tally.edges y) (set a.orientations.now a.tally.edges a.edge.orientation) (set a.bits.now a.tally.edges a.edge.bit) (set a.confidences.now a.tally.edges a.confidence)) (row_back) (col-back))
