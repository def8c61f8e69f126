use Rattle.std.proofs.lemmas.Result.{err_from_is_err_and}
use mathlib.Core.Path.{refl, sym, ◌∙◌}
use Rattle.locate_admission.specs.LocateAdmissionLaws.{locate-accepted}
use Rattle.locate.specs.LocatedLaws.{done_refused, done-accepted}
use Rattle.locate.proofs.locate.Goals as goal

pub locate_accepted-requires : goal.locate_accepted-requires
locate_accepted-requires c = locate-accepted _ _ _ _ (sym c.locate_admission.ensures ∙ c.in_ok-locate_admission.was)

pub returns-in_err-locate_admission : goal.returns-in_err-locate_admission
returns-in_err-locate_admission c =
    let p = err_from_is_err_and c.from_residual.result c.from_residual.ensures.1 in
    rw (p.1, p.2)
    (let a = c.locate_admission in done_refused _ _ _ _ a.result a.ensures _ _ c.in_err-locate_admission.was refl)

pub returns : goal.returns
returns c = let a = c.locate_admission in done-accepted _ _ _ _ a.result a.ensures _ c.in_ok-locate_admission.was c.locate_accepted.ensures
