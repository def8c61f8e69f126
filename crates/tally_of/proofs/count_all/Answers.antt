use Rattle.std.proofs.lemmas.Result.{err_from_is_err_and}
use mathlib.Core.Path.{sym, ◌∙◌}
use Rattle.admission.specs.Accepted.{stats-accepted}
use Rattle.tally_of.specs.BegunLaws.{accepted-sides, all-refused, all-kept}
use Rattle.tally_of.proofs.count_all.Goals as goal

pub count_edges-requires : goal.count_edges-requires
count_edges-requires c = let e = sym c.stats_admission.ensures ∙ c.in_ok-stats_admission.was in record {
  stats_accepted = stats-accepted _ _ _ _ _ e;
  sides = accepted-sides _ _ _ _ _ e;
}

pub returns-in_err-stats_admission : goal.returns-in_err-stats_admission
returns-in_err-stats_admission c =
    let p = err_from_is_err_and c.from_residual.result c.from_residual.ensures.1 in
    rw (p.1, p.2)
    (let a = c.stats_admission in all-refused _ _ _ a.result a.ensures _ c.in_err-stats_admission.was)

pub returns : goal.returns
returns c = let a = c.stats_admission in all-kept _ _ _ a.result a.ensures _ c.in_ok-stats_admission.was c.count_edges.ensures
