-- `tally_remove`: the edge that the check found is inside each column, so each can close up; a refusal changes nothing.
use Rattle.std.specs.Prelude.{◌≡◌, ℕ, Bool, Ok}
use Rattle.std.proofs.lemmas.Result.{err_from_is_err_and}
use mathlib.Core.Path.{sym, ◌∙◌}
use native.Mathlib.Omega.{arith}
use Rattle.board.specs.Hits.{Board, EdgeList}
use Rattle.tally.specs.declared.Tally.{Tally}
use Rattle.tally_checks.specs.Judged.{judged_named}
use Rattle.tally_checks.proofs.JudgedLaws.{NamedOk, named-taken-ok}
use Rattle.tally_checks.specs.Edited.{edit-refused, edit-taken}
use Rattle.tally_remove.specs.Removed.{removed_from, edges-eq}
use Rattle.tally_remove.proofs.tally_remove.Goals as goal

-- what the check of a named edge found of the list: the edge is there, and each column has the list's places
named : {E : EdgeList} {T : Tally} {p : ℕ} {B : Board} {hit : Bool} → Ok hit ≡ judged_named E T p B → NamedOk E T p B
named found = (named-taken-ok _ _ _ _ _ found).0

pub bounds-orientations-i : goal.bounds-orientations-i
bounds-orientations-i c = let k = named (sym c.in_ok-hit.was ∙ c.judge_named.ensures) in omega (arith, k.exists, k.kept.few, k.kept.orientations)

pub close-requires : goal.close-requires
close-requires c = let k = named (sym c.in_ok-hit.was ∙ c.judge_named.ensures) in (k.exists, omega (arith, k.kept.few))

pub close-requires-2 : goal.close-requires-2
close-requires-2 c = let k = named (sym c.in_ok-hit.was ∙ c.judge_named.ensures) in (k.exists, omega (arith, k.kept.few, k.kept.cols))

pub close-requires-3 : goal.close-requires-3
close-requires-3 c = let k = named (sym c.in_ok-hit.was ∙ c.judge_named.ensures) in (k.exists, omega (arith, k.kept.few, k.kept.orientations))

pub close-requires-4 : goal.close-requires-4
close-requires-4 c = let k = named (sym c.in_ok-hit.was ∙ c.judge_named.ensures) in (k.exists, omega (arith, k.kept.few, k.kept.bits))

pub close-requires-5 : goal.close-requires-5
close-requires-5 c = let k = named (sym c.in_ok-hit.was ∙ c.judge_named.ensures) in (k.exists, omega (arith, k.kept.few, k.kept.confidences))

pub returns-in_err-hit : goal.returns-in_err-hit
returns-in_err-hit c =
    let p = err_from_is_err_and c.from_residual.result c.from_residual.ensures.1 in
    rw (p.1, p.2)
    (edit-refused _ _ _ _ c.judge_named.result c.judge_named.ensures _ c.in_err-hit.was)

pub returns : goal.returns
unfolding removed_from
returns c =
    let closed-up = edges-eq c.close.ensures c.close-2.ensures c.close-3.ensures c.close-4.ensures c.close-5.ensures in
    edit-taken _ _ _ _ c.judge_named.result c.judge_named.ensures _ _ _ c.in_ok-hit.was c.without_edge.ensures closed-up
