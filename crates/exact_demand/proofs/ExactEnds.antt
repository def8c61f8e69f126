-- HOW AN ACCEPTED EXACT CALL ENDS, in words of placings and lists and in document 01's order: "10 logical, 11, 10 physical, 12, 13".
use Rattle.std.specs.Prelude.{◌≡◌, Bool, true, false, cond, ◌⊎◌, ℕ, ◌-◌, ◌<◌, get_or, Err, Ok}
use Rattle.std.proofs.Math.Path.{refl, sym, ap}
use Rattle.std.proofs.Common.{inl, inr, arith}
use borrow.Author.Tests.{ltb-true}
use Rattle.laws.specs.Tests.{clash}
use Rattle.laws.specs.Words.{one_f}
use Rattle.board.specs.declared.edge.Placing.{Placing}
use Rattle.board.specs.Hits.{size, hits_at}
use Rattle.refusals.specs.Numbers as why
use Rattle.admission.specs.Calls.{HardCall}
use Rattle.admission.specs.Accepted.{HardAccepted}
use Rattle.figures.specs.Figures.{rate_of}
use Rattle.figures.specs.Gate.{passed}
use Rattle.scan.specs.Scan.{over_limit}
use Rattle.scan.specs.declared.scan.RunnerUp.{RunnerUp}
use Rattle.hard_core.proofs.HardNumbers.{physical-within}
use Rattle.verdict.specs.Answers.{Answers, answers}
use Rattle.verdict.proofs.VerdictTheorems.{Agree, test, agree_of, of_agree}
use Rattle.demand.specs.Demand.{WithinLimit}
use Rattle.demand.specs.Late.{SameSquare}
use Rattle.demand.specs.OneSelection.{NoneWithinLimit, NoneLeads}
use Rattle.demand.specs.Winners.{runner_at}
use Rattle.exact_scan.specs.declared.kept.ExactWinner.{ExactWinner}
use Rattle.exact_scan.specs.Kinds.{ExactSelection}
use Rattle.exact.specs.Select.{exact_selection}
use Rattle.exact.specs.Winner.{weight_of_square, IsWinner}
use Rattle.exact.proofs.ExactTheorems.{exact-runner-up-named}
use Rattle.exact_answer.specs.declared.ExactDecoded.{ExactDecoded}
use Rattle.exact_answer.specs.Answers.{ExactAnswer}
use Rattle.exact_verdict.specs.ExactVerdict.{exact_refused_by, exact_decoded_of, exact_judged}
use Rattle.exact_core.specs.ExactCore.{total_units, runner_weight_of, judged_winners, exact_after_physical, exact_after_logical, exact_core}
use Rattle.exact_demand.specs.ExactDemand.{ExactAnswered}
use Rattle.exact_demand.proofs.ExactSelections.{SelectionEnd, no-units, none_within, selected, exact-ended, wins, hits-told, weight-told, within, gate-leads, gate-none}

-- exact answers are made in two ways, as hard ones are
pub exact-answers : Answers {Answer = ExactAnswer} Err Ok
exact-answers = answers

-- both lists have units and a winner, and that of the logical list is within the limit
pub record BothWin (call : HardCall) : Type 0 where
  pub logical_units : 0 < total_units call.logical
  pub physical_units : 0 < total_units call.physical
  pub logical : Placing
  pub logical_wins : IsWinner call.board call.logical call.transforms logical
  pub within : over_limit (size call.logical) call.error_limit (hits_at call.board call.logical call.transforms logical) ≡ false
  pub physical : Placing
  pub physical_wins : IsWinner call.board call.physical call.transforms physical

-- the ways in which an accepted call ends
pub data ExactEnd (call : HardCall) : ExactAnswer → Type 0 where
  no_logical_units : total_units call.logical ≡ 0 → ExactEnd call (exact_refused_by why.no_confidence)
  none-within-limit : 0 < total_units call.logical → NoneWithinLimit call.board call.logical call.transforms call.error_limit → ExactEnd call (exact_refused_by why.none_within_limit)
  no_physical_units : 0 < total_units call.logical → (P : Placing) → WithinLimit call.board call.logical call.transforms call.error_limit P → total_units call.physical ≡ 0 → ExactEnd call (exact_refused_by why.no_confidence)
  winners_differ : (b : BothWin call) → (SameSquare call.transforms b.physical b.logical → ⊥) → ExactEnd call (exact_refused_by why.lists_disagree)
  none_leads : (b : BothWin call) → SameSquare call.transforms b.physical b.logical → NoneLeads call.board call.logical call.transforms call.error_limit → ExactEnd call (exact_refused_by why.not_far_ahead)
  found : (b : BothWin call) → SameSquare call.transforms b.physical b.logical → (d : ExactDecoded) → ExactAnswered call d → ExactEnd call (Ok d)

module _ (call : HardCall) (m n : ℕ) (A : HardAccepted call m n) where
  abbrev LogicalEnd : ExactSelection → Type 0
  LogicalEnd = SelectionEnd call.board call.logical call.transforms call.error_limit A.board A.logical A.transforms.some

  abbrev PhysicalEnd : ExactSelection → Type 0
  PhysicalEnd = SelectionEnd call.board call.physical call.transforms one_f A.board A.physical A.transforms.some

  -- ---- the logical list has a winner
  module _ (u : 0 < total_units call.logical) (w : ExactWinner) (r : RunnerUp) (e : exact_selection call.board call.logical call.transforms call.error_limit ≡ Ok (w, r)) where
    logical-won : IsWinner call.board call.logical call.transforms w.placing
    logical-won = wins call.board call.logical call.transforms call.error_limit A.board A.logical A.transforms.some A.transforms.few w r e

    allowed : over_limit (size call.logical) call.error_limit (hits_at call.board call.logical call.transforms w.placing) ≡ false
    allowed = within call.board call.logical call.transforms call.error_limit A.board A.logical A.transforms.some A.transforms.few w r e

    counted : w.hits ≡ hits_at call.board call.logical call.transforms w.placing
    counted = hits-told call.board call.logical call.transforms call.error_limit A.board A.logical A.transforms.some A.transforms.few w r e

    abbrev t : ℕ
    t = get_or call.transforms w.placing.listed 0

    -- ---- and so has the physical one
    module _ (v : 0 < total_units call.physical) (p : ExactWinner) (o : RunnerUp) (f : exact_selection call.board call.physical call.transforms one_f ≡ Ok (p, o)) where
      abbrev s : ℕ
      s = get_or call.transforms p.placing.listed 0

      abbrev both : BothWin call
      both = record {
        logical_units = u;
        physical_units = v;
        logical = w.placing;
        logical_wins = logical-won;
        within = allowed;
        physical = p.placing;
        physical_wins = wins call.board call.physical call.transforms one_f A.board A.physical A.transforms.some A.transforms.few p o f;
      }

      same : Agree t w.placing s p.placing → SameSquare call.transforms p.placing w.placing
      same a = (sym a.transform, sym a.row, sym a.col)

      abbrev told : ExactDecoded
      told = exact_decoded_of t w r (size call.logical) (total_units call.logical) (runner_weight_of call.board call.logical r)

      -- what is put together of a winner that agrees and passes
      answered : SameSquare call.transforms p.placing w.placing → passed (size call.logical) w.hits r.hits ≡ true → ExactAnswered call told
      unfolding exact_decoded_of
      answered q g =
          let under : r.hits < w.hits = omega (arith, ltb-true (size call.logical - w.hits) (w.hits - r.hits) g) in
          let k = exact-runner-up-named call.board call.logical call.transforms A.board A.logical A.transforms.some call.error_limit w r e A.transforms.few under in
          record {
            square = w.placing;
            runner-up = runner_at k.0 r;
            leads = gate-leads call.board call.logical call.transforms call.error_limit A.board A.logical A.transforms.some A.transforms.few w r e g;
            agrees = record { winner = p.placing; wins = both.physical_wins; square = q };
            runs_up = k.3;
            tells = record { square = (refl, refl, refl); hits = counted; edges = refl; runner-up = (k.2, refl, refl); runner_up_hits = sym k.4 };
            weight = weight-told call.board call.logical call.transforms call.error_limit A.board A.logical A.transforms.some A.transforms.few w r e;
            total = refl;
            runner_up_weight = ap (λ (x : ℕ). weight_of_square call.board call.logical x r.row r.col) (sym k.2);
            rate = ap (rate_of (size call.logical)) counted;
          }

      by-gate : SameSquare call.transforms p.placing w.placing → (b : Bool) → passed (size call.logical) w.hits r.hits ≡ b → ExactEnd call (cond b (Ok told) (exact_refused_by why.not_far_ahead))
      by-gate q true g = found both q told (answered q g)
      by-gate q false g = none_leads both q (gate-none call.board call.logical call.transforms call.error_limit A.board A.logical A.transforms.some A.transforms.few w r e g)

      by-test : (b : Bool) → test t w.placing s p.placing ≡ b → ExactEnd call (cond b (cond (passed (size call.logical) w.hits r.hits) (Ok told) (exact_refused_by why.not_far_ahead)) (exact_refused_by why.lists_disagree))
      by-test true a = by-gate (same (agree_of t w.placing s p.placing a)) (passed (size call.logical) w.hits r.hits) refl
      by-test false a = winners_differ both (λ q. clash (of_agree t w.placing s p.placing (record { transform = sym q.0; row = sym q.1; col = sym q.2 })) a)

      by-judged : ExactEnd call (judged_winners call.board call.logical call.transforms w r p)
      unfolding exact_judged
      by-judged = by-test (test t w.placing s p.placing) refl

    by-physical : (q : ExactSelection) → PhysicalEnd q → ExactEnd call (exact_after_physical call.board call.logical call.transforms w r q)
    by-physical q (no-units z) = no_physical_units u w.placing (logical-won.on-board, allowed) z
    by-physical q (none_within v h) = absurd (physical-within call m n A h)
    by-physical q (selected v p o f) = by-judged v p o f

  by-logical : (q : ExactSelection) → LogicalEnd q → ExactEnd call (exact_after_logical call q)
  by-logical q (no-units z) = no_logical_units z
  by-logical q (none_within u h) = none-within-limit u h
  by-logical q (selected u w r e) =
      by-physical u w r e (exact_selection call.board call.physical call.transforms one_f) (exact-ended call.board call.physical call.transforms one_f A.board A.physical A.transforms.some)

  -- HOW AN ACCEPTED EXACT CALL ENDS
  pub exact-ends : ExactEnd call (exact_core call)
  unfolding exact_core
  exact-ends =
      by-logical (exact_selection call.board call.logical call.transforms call.error_limit) (exact-ended call.board call.logical call.transforms call.error_limit A.board A.logical A.transforms.some)
