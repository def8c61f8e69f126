-- HOW AN ACCEPTED CALL OVER A PART ENDS, in words of placings and lists and in C-15's order: "10 logical, 11, 10 physical, 12, 13".
use Rattle.std.specs.Prelude.{◌≡◌, Bool, true, false, cond, ◌⊎◌, ℕ, ◌<◌, get_or, length, Err, None, Ok, Some}
use Rattle.std.proofs.Math.Path.{refl, ap}
use Rattle.std.proofs.Common.{sym, inl, inr, arith}
use Rattle.laws.specs.Tests.{clash}
use Rattle.laws.specs.Words.{one_f}
use Rattle.board.specs.declared.edge.Placing.{Placing}
use Rattle.board.specs.Hits.{size, hits_at}
use Rattle.refusals.specs.Numbers as why
use Rattle.admission.specs.Calls.{HardCall}
use Rattle.admission.specs.Accepted.{HardAccepted}
use Rattle.figures.specs.Figures.{rate_of}
use Rattle.figures.specs.Gate.{passed}
use Rattle.scan.specs.Scan.{over_limit}
use Rattle.hard.specs.RateLaws.{never-over-one}
use Rattle.verdict.specs.Answers.{Answers, answers}
use Rattle.verdict.proofs.VerdictTheorems.{Agree, test, agree_of, of_agree}
use Rattle.demand.specs.Late.{SameSquare}
use Rattle.exact_scan.specs.declared.kept.ExactWinner.{ExactWinner}
use Rattle.exact_core.specs.ExactCore.{total_units}
use Rattle.part.specs.declared.Part.{Part}
use Rattle.part.specs.Part.{PartOk}
use Rattle.part_select.specs.Kinds.{PartNext}
use Rattle.part_select.specs.Kinds.{PartSelection}
use Rattle.part_select.specs.Select.{part_selection}
use Rattle.part_select.specs.PartWinner.{IsPartWinner}
use Rattle.part_select.proofs.PartTheorems.{start-on, PartSelected}
use Rattle.part_answer.specs.declared.PartDecoded.{PartDecoded}
use Rattle.part_answer.specs.Answers.{PartAnswer}
use Rattle.part_verdict.specs.PartVerdict.{part_refused_by, hits_shown, part_decoded_of, part_judged}
use Rattle.part_core.specs.PartCore.{shown_beside, judged_part, part_after_physical, part_after_logical, part_core}
use Rattle.part_core.specs.PartReady.{logical-won, physical-won}
use Rattle.part_demand.specs.PartDemand.{WithinPart, NoneOfPartWithin, NoneOfPartLeads, Beside, PartAnswered}
use Rattle.part_demand.proofs.PartSelections.{one-placing, PartSelectionEnd, no-units, none_within, selected, part-ended, gate-leads-part, gate-none-part}

-- answers over a part are made in two ways, as hard ones are
pub part-answers : Answers {Answer = PartAnswer} Err Ok
part-answers = answers

-- both lists have units and a winner over the part, and that of the logical list is within the limit
pub record BothWinPart (call : HardCall) (part : Part) : Type 0 where
  pub logical_units : 0 < total_units call.logical
  pub physical_units : 0 < total_units call.physical
  pub logical : Placing
  pub logical_wins : IsPartWinner call.board call.logical call.transforms part logical
  pub within : over_limit (size call.logical) call.error_limit (hits_at call.board call.logical call.transforms logical) ≡ false
  pub physical : Placing
  pub physical_wins : IsPartWinner call.board call.physical call.transforms part physical

-- the ways in which an accepted call ends
pub data PartEnd (call : HardCall) (part : Part) : PartAnswer → Type 0 where
  no_logical_units : total_units call.logical ≡ 0 → PartEnd call part (part_refused_by why.no_confidence)
  none-within-limit : 0 < total_units call.logical → NoneOfPartWithin call.board call.logical call.transforms part call.error_limit → PartEnd call part (part_refused_by why.none_within_limit)
  no_physical_units : 0 < total_units call.logical → (P : Placing) → WithinPart call.board call.logical call.transforms part call.error_limit P → total_units call.physical ≡ 0 → PartEnd call part (part_refused_by why.no_confidence)
  winners_differ : (b : BothWinPart call part) → (SameSquare call.transforms b.physical b.logical → ⊥) → PartEnd call part (part_refused_by why.lists_disagree)
  none_leads : (b : BothWinPart call part) → SameSquare call.transforms b.physical b.logical → NoneOfPartLeads call.board call.logical call.transforms part call.error_limit → PartEnd call part (part_refused_by why.not_far_ahead)
  found : (b : BothWinPart call part) → SameSquare call.transforms b.physical b.logical → (d : PartDecoded) → PartAnswered call part d → PartEnd call part (Ok d)

module _ (call : HardCall) (part : Part) (m n : ℕ) (A : HardAccepted call m n) (flat : length call.board.h ≡ 167) (ok : PartOk part) where
  abbrev LogicalEnd : PartSelection → Type 0
  LogicalEnd = PartSelectionEnd call.board call.logical call.transforms A.board A.logical flat A.vertical part ok call.error_limit A.transforms.some

  abbrev PhysicalEnd : PartSelection → Type 0
  PhysicalEnd = PartSelectionEnd call.board call.physical call.transforms A.board A.physical flat A.vertical part ok one_f A.transforms.some

  -- the physical list never gives 11: with limit 1 every placing is within it
  physical-within-part : NoneOfPartWithin call.board call.physical call.transforms part one_f → ⊥
  physical-within-part h =
      let Q : Placing = record { listed = 0; row = part.row; col = part.col } in
      clash (h Q (start-on call.transforms part ok 0 A.transforms.some))
      (never-over-one (size call.physical) (hits_at call.board call.physical call.transforms Q) A.some_physical A.physical.few)

  -- ---- the logical list has a winner
  module _ (u : 0 < total_units call.logical) (w : ExactWinner) (x : PartNext) (e : part_selection call.board call.logical call.transforms part call.error_limit ≡ Ok (w, x)) where
    won : PartSelected call.board call.logical call.transforms A.board A.logical flat A.vertical part ok call.error_limit w x
    won = logical-won call part m n A flat ok w x e

    abbrev t : ℕ
    t = get_or call.transforms w.placing.listed 0

    abbrev behind : ℕ
    behind = hits_shown (shown_beside call.transforms x)

    -- ---- and so has the physical one
    module _ (v : 0 < total_units call.physical) (p : ExactWinner) (y : PartNext) (f : part_selection call.board call.physical call.transforms part one_f ≡ Ok (p, y)) where
      abbrev s : ℕ
      s = get_or call.transforms p.placing.listed 0

      abbrev both : BothWinPart call part
      both = record {
        logical_units = u;
        physical_units = v;
        logical = w.placing;
        logical_wins = won.winner;
        within = won.within;
        physical = p.placing;
        physical_wins = (physical-won call part m n A flat ok p y f).winner;
      }

      same : Agree t w.placing s p.placing → SameSquare call.transforms p.placing w.placing
      same a = (sym a.transform, sym a.row, sym a.col)

      abbrev told : PartDecoded
      told = part_decoded_of t w (shown_beside call.transforms x) (size call.logical) (total_units call.logical)

      -- what is shown beside the winner is right
      shown-right : (z : PartNext) → PartSelected call.board call.logical call.transforms A.board A.logical flat A.vertical part ok call.error_limit w z
          → Beside call.board call.logical call.transforms part w.placing (shown_beside call.transforms z)
      shown-right None S = one-placing call.transforms part ok A.transforms.some w.placing S.shown
      shown-right (Some r) S = (r.placing, S.shown.0, (refl, refl, refl), S.shown.1.hits, S.shown.1.weight)

      -- what is put together of a winner that agrees and passes
      answered : SameSquare call.transforms p.placing w.placing → passed (size call.logical) w.hits behind ≡ true → PartAnswered call part told
      unfolding part_decoded_of
      answered q g = record {
        square = w.placing;
        leads = gate-leads-part call.board call.logical call.transforms A.board A.logical flat A.vertical part ok call.error_limit A.transforms.some w x won g;
        agrees = record { winner = p.placing; wins = (physical-won call part m n A flat ok p y f).winner; square = q };
        names = (refl, refl, refl);
        hits = won.told.hits;
        edges = refl;
        weight = won.told.weight;
        total = refl;
        rate = ap (rate_of (size call.logical)) won.told.hits;
        beside = shown-right x won;
      }

      by-gate : SameSquare call.transforms p.placing w.placing → (b : Bool) → passed (size call.logical) w.hits behind ≡ b → PartEnd call part (cond b (Ok told) (part_refused_by why.not_far_ahead))
      by-gate q true g = found both q told (answered q g)
      by-gate q false g = none_leads both q (gate-none-part call.board call.logical call.transforms A.board A.logical flat A.vertical part ok call.error_limit A.transforms.some w x won g)

      by-test : (b : Bool) → test t w.placing s p.placing ≡ b → PartEnd call part (cond b (cond (passed (size call.logical) w.hits behind) (Ok told) (part_refused_by why.not_far_ahead)) (part_refused_by why.lists_disagree))
      by-test true a = by-gate (same (agree_of t w.placing s p.placing a)) (passed (size call.logical) w.hits behind) refl
      by-test false a = winners_differ both (λ q. clash (of_agree t w.placing s p.placing (record { transform = sym q.0; row = sym q.1; col = sym q.2 })) a)

      by-judged : PartEnd call part (judged_part (size call.logical) (total_units call.logical) call.transforms w x p)
      unfolding part_judged
      by-judged = by-test (test t w.placing s p.placing) refl

    by-physical : (q : PartSelection) → PhysicalEnd q → PartEnd call part (part_after_physical call.logical call.transforms w x q)
    by-physical q (no-units z) = no_physical_units u w.placing (won.winner.on_part, won.within) z
    by-physical q (none_within v h) = absurd (physical-within-part h)
    by-physical q (selected v p y f) = by-judged v p y f

  by-logical : (q : PartSelection) → LogicalEnd q → PartEnd call part (part_after_logical call part q)
  by-logical q (no-units z) = no_logical_units z
  by-logical q (none_within u h) = none-within-limit u h
  by-logical q (selected u w x e) =
      by-physical u w x e (part_selection call.board call.physical call.transforms part one_f)
      (part-ended call.board call.physical call.transforms A.board A.physical flat A.vertical part ok one_f A.transforms.some)

  -- HOW AN ACCEPTED CALL OVER A PART ENDS
  pub part-ends : PartEnd call part (part_core call part)
  unfolding part_core
  part-ends =
      by-logical (part_selection call.board call.logical call.transforms part call.error_limit)
      (part-ended call.board call.logical call.transforms A.board A.logical flat A.vertical part ok call.error_limit A.transforms.some)
