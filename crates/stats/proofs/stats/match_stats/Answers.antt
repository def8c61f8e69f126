use Rattle.std.proofs.lemmas.Result.{err_from_is_err_and}
use mathlib.Core.Path.{◌≡◌, sym, ap, ap₂, ◌∙◌}
use Prim.Native.Nat.{ℕ, ◌≤◌}
use native.Mathlib.Omega.{arith}
use lib.Ieee.{Float}
use Rattle.board.specs.Hits.{EdgeList, Board, size}
use Rattle.board.proofs.HitsLaws.{hits-le}
use Rattle.figures.specs.declared.Fit.{Fit}
use Rattle.refusals.specs.Admission.{Admission, accepted}
use Rattle.admission.specs.Refusals.{stats_admission}
use Rattle.admission.specs.Accepted.{StatsAccepted, stats-accepted}
use Rattle.stats.specs.Stats.{hits_and_weight}
use Rattle.stats.specs.StatsLaws.{stats-refused, stats-counted}
use Rattle.stats.proofs.stats.match_stats.Goals as goal
use Rattle.board.specs.Given.{list_of}

-- what the call was given
module _ (E : EdgeList) (t r k : ℕ) (B : Board) where
  -- it was accepted
  was-accepted : (a : Admission) → a ≡ stats_admission E t r k B → a ≡ accepted → StatsAccepted E t r k B
  was-accepted a e w = stats-accepted E t r k B (sym e ∙ w)

  -- the hits are at most the edges
  few : (f : Fit) → f ≡ hits_and_weight E t r k B → f.hits ≤ size E
  unfolding hits_and_weight
  few f e = omega (arith, ap (λ (s : Fit). s.hits) e, hits-le B E t r k)

pub returns-in_err-stats_admission : goal.returns-in_err-stats_admission
returns-in_err-stats_admission c =
    let p = err_from_is_err_and c.from_residual.result c.from_residual.ensures.1 in
    rw (p.1, p.2)
    (let a = c.stats_admission in stats-refused _ _ _ _ _ a.result a.ensures _ c.in_err-stats_admission.was)

pub count_hits-counted-requires : goal.count_hits-counted-requires
count_hits-counted-requires c = was-accepted _ _ _ _ _ _ c.stats_admission.ensures c.in_ok-stats_admission.was

pub overflow_cast-edges : goal.overflow_cast-edges
overflow_cast-edges c = omega (arith, (was-accepted _ _ _ _ _ _ c.stats_admission.ensures c.in_ok-stats_admission.was).list.few)

pub rate-requires : goal.rate-requires
rate-requires c = (few _ _ _ _ _ _ c.count_hits-counted.ensures, (was-accepted _ _ _ _ _ _ c.stats_admission.ensures c.in_ok-stats_admission.was).list.few)

pub mean-requires : goal.mean-requires
mean-requires c = omega (arith, few _ _ _ _ _ _ c.count_hits-counted.ensures, (was-accepted _ _ _ _ _ _ c.stats_admission.ensures c.in_ok-stats_admission.was).list.few)

pub returns : goal.returns
returns c =
    let a = c.stats_admission in
    let g = c.args in
    stats-counted _ _ _ _ _ a.result a.ensures c.count_hits-counted.result _ c.in_ok-stats_admission.was c.count_hits-counted.ensures
    (ap₂ (λ (x y : Float). record { edges = size (list_of g.list); hits = c.count_hits-counted.result.hits; error_rate = x; mean_confidence = y }) c.rate.ensures c.mean.ensures)
