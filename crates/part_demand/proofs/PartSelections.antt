-- What a selection over a part comes to on one list, in words of placings: no units, no placing of the part within the limit, or a winner; and what its gate says of who leads.
use Rattle.std.specs.Prelude.{◌≡◌, Bool, List, ℕ, ◌+◌, ◌-◌, ◌%◌, ◌≤◌, ◌<◌, get_or, length, Float, Err, None, Ok, Some}
use Rattle.std.proofs.Math.Path.{refl}
use Rattle.std.proofs.Common.{sym, ◌∙◌, arith}
use Rattle.std.proofs.Math.Bool.{true, false, cond}
use Rattle.std.proofs.Math.Logic.{⊎_elim}
use borrow.Author.Tests.{ltb-true, ltb-false, eqb-true, eqb-false}
use Rattle.laws.specs.Tests.{compared}
use Rattle.board.specs.declared.edge.Placing.{Placing}
use Rattle.board.specs.Hits.{EdgeList, Board, size, hits, hits_at}
use Rattle.board.specs.Sides.{period_of}
use Rattle.board.specs.Domain.{ListOk, BoardOk}
use Rattle.refusals.specs.Numbers.{numbered}
use Rattle.refusals.specs.Numbers as why
use Rattle.figures.specs.Gate.{passed}
use Rattle.scan.specs.Scan.{over_limit}
use Rattle.values.specs.Values.{hits_of}
use Rattle.demand.specs.Demand.{Same}
use Rattle.demand.specs.DemandLaws.{same_or_not}
use Rattle.exact_scan.specs.declared.kept.ExactWinner.{ExactWinner}
use Rattle.exact.specs.Select.{no_units}
use Rattle.exact_core.specs.ExactCore.{total_units}
use Rattle.part.specs.declared.Part.{Part}
use Rattle.part.specs.Part.{InSide, OnPart, PartOk}
use Rattle.part_scan.specs.declared.kept.Offer.{Offer}
use Rattle.part_scan.specs.declared.kept.PartKept.{PartKept}
use Rattle.part_scan.specs.declared.kept.PartKept.TheVariants.{Nobody, One, Two}
use Rattle.part_select.specs.Kinds.{PartNext}
use Rattle.part_select.specs.Kinds.{PartSelection}
use Rattle.part_select.specs.Select.{winner_of, finished_with, part_finished, part_scan, part_selection}
use Rattle.part_select.specs.PartWinner.{IsPartWinner}
use Rattle.part_select.proofs.PartTheorems.{start-on, one-origin, PartSelected, part-11}
use Rattle.part_verdict.specs.PartVerdict.{hits_shown}
use Rattle.part_core.specs.PartCore.{shown_beside}
use Rattle.part_demand.specs.PartDemand.{OnePlacing, NoneOfPartWithin, PartLeads, NoneOfPartLeads}

-- a placing that leads over the part is the winner over it, whatever the weights
pub leads-wins-part : (B : Board) (E : EdgeList) (ts : List ℕ) (part : Part) (limit : Float) (Q P : Placing) → PartLeads B E ts part limit Q → IsPartWinner B E ts part P → Same Q P
leads-wins-part B E ts part limit Q P l w =
    ⊎_elim (λ s. s) (λ n. absurd (omega (arith, l.ahead P w.on_part (λ s. n (sym s.0, sym s.1, sym s.2)), w.most_hits Q l.on_part))) (same_or_not Q P)

-- ---- the one case
-- the number after the first one of a side, which is another
side-next : (start number : ℕ) → 1 < number → InSide start number ((start + 1) % 501)
side-next start number l = (1, l, refl)

apart : (start : ℕ) → start ≤ 500 → start ≡ (start + 1) % 501 → ⊥
apart start l e = omega arith

-- a part with one placing has one origin, and one transform is listed
pub one-placing : (ts : List ℕ) (part : Part) → PartOk part → 0 < length ts → (P : Placing) → ((Q : Placing) → OnPart ts part Q → Same Q P) → OnePlacing ts part
one-placing ts part ok some P only = record {
  transform = ⊎_elim (λ l. absurd (two-listed l)) (λ l. omega arith) (compared 1 (length ts));
  row = ⊎_elim (λ l. absurd (two-rows l)) (λ l. omega (arith, ok.down.some)) (compared 1 part.rows);
  col = ⊎_elim (λ l. absurd (two-cols l)) (λ l. omega (arith, ok.across.some)) (compared 1 part.cols);
}
  where
    start : (p : ℕ) → p < length ts → Same (record { listed = p; row = part.row; col = part.col }) P
    start p l = only (record { listed = p; row = part.row; col = part.col }) (start-on ts part ok p l)

    two-listed : 1 < length ts → ⊥
    two-listed l = omega (arith, (start 0 some).0, (start 1 l).0)

    two-rows : 1 < part.rows → ⊥
    two-rows l =
        let n = only (record { listed = 0; row = (part.row + 1) % 501; col = part.col }) (some, (side-next part.row part.rows l, (start-on ts part ok 0 some).1.1)) in
        apart part.row ok.down.begins ((start 0 some).1 ∙ sym n.1)

    two-cols : 1 < part.cols → ⊥
    two-cols l =
        let n = only (record { listed = 0; row = part.row; col = (part.col + 1) % 501 }) (some, ((start-on ts part ok 0 some).1.0, side-next part.col part.cols l)) in
        apart part.col ok.across.begins ((start 0 some).2 ∙ sym n.2)

-- and one with one origin, where one transform is listed, has one placing
pub one-placing-only : (ts : List ℕ) (part : Part) → PartOk part → OnePlacing ts part → (P Q : Placing) → OnPart ts part P → OnPart ts part Q → Same P Q
one-placing-only ts part ok o = one-origin ts part ok (omega (arith, o.transform)) o.row o.col

module _ (B : Board) (E : EdgeList) (ts : List ℕ) (board : BoardOk B) (list : ListOk E) (h : period_of B true ≡ 167) (v : period_of B false ≡ 167) (part : Part) (ok : PartOk part) (limit : Float) (some : 0 < length ts) where
  -- the three ways in which a selection ends
  pub data PartSelectionEnd : PartSelection → Type 0 where
    no-units : total_units E ≡ 0 → PartSelectionEnd (Err (numbered why.no_confidence))
    none_within : 0 < total_units E → NoneOfPartWithin B E ts part limit → PartSelectionEnd (Err (numbered why.none_within_limit))
    selected : 0 < total_units E → (w : ExactWinner) (next : PartNext) → part_selection B E ts part limit ≡ Ok (w, next) → PartSelectionEnd (Ok (w, next))

  some-units : no_units E ≡ false → 0 < total_units E
  unfolding no_units
  some-units k = let z = eqb-false (total_units E) 0 k in ⊎_elim (λ l. l) (λ l. absurd (z (omega arith))) (compared 0 (total_units E))

  with-end : no_units E ≡ false → (c : Offer) (next : PartNext) → part_selection B E ts part limit ≡ finished_with (size E) limit c next → PartSelectionEnd (finished_with (size E) limit c next)
  unfolding finished_with
  with-end k c next e = go (over_limit (size E) limit (hits_of c.value)) e
    where
      go : (b : Bool) → part_selection B E ts part limit ≡ cond {A = PartSelection} b (Err (numbered why.none_within_limit)) (Ok ((winner_of c), next)) → PartSelectionEnd (cond {A = PartSelection} b (Err (numbered why.none_within_limit)) (Ok ((winner_of c), next)))
      go true d = none_within (some-units k) (part-11 B E ts board list h v part ok limit some k d)
      go false d = selected (some-units k) (winner_of c) next d

  kept-end : no_units E ≡ false → (K : PartKept) → part_selection B E ts part limit ≡ part_finished (size E) limit K → PartSelectionEnd (part_finished (size E) limit K)
  kept-end k Nobody e = none_within (some-units k) (part-11 B E ts board list h v part ok limit some k e)
  kept-end k (One c) e = with-end k c None e
  kept-end k (Two c r) e = with-end k c (Some (winner_of r)) e

  -- HOW A SELECTION OVER A PART ENDS
  pub part-ended : PartSelectionEnd (part_selection B E ts part limit)
  unfolding part_selection no_units
  part-ended = go (no_units E) refl refl
    where
      go : (b : Bool) → no_units E ≡ b → part_selection B E ts part limit ≡ cond b (Err (numbered why.no_confidence)) (part_finished (size E) limit (part_scan B E ts part))
          → PartSelectionEnd (cond {A = PartSelection} b (Err (numbered why.no_confidence)) (part_finished (size E) limit (part_scan B E ts part)))
      go true k e = no-units (eqb-true (total_units E) 0 k)
      go false k e = kept-end k (part_scan B E ts part) e

  -- ---- the gate
  -- where the winner passes it, the winner leads
  pub gate-leads-part : (w : ExactWinner) (next : PartNext) → PartSelected B E ts board list h v part ok limit w next → passed (size E) w.hits (hits_shown (shown_beside ts next)) ≡ true → PartLeads B E ts part limit w.placing
  gate-leads-part w None S g = record {
    on_part = S.winner.on_part;
    within = S.within;
    ahead = λ Q o n. absurd (n (S.shown Q o));
    alone = λ z. omega (arith, ltb-true (size E - w.hits) (w.hits - 0) g, S.told.hits);
  }
  gate-leads-part w (Some r) S g = record {
    on_part = S.winner.on_part;
    within = S.within;
    ahead = λ Q o n. omega (arith, ltb-true (size E - w.hits) (w.hits - r.hits) g, S.told.hits, S.shown.1.hits, S.shown.0.no_third Q o n);
    alone = λ z. omega (arith, ltb-true (size E - w.hits) (w.hits - r.hits) g, S.told.hits);
  }

  -- where it does not, no placing of the part leads
  pub gate-none-part : (w : ExactWinner) (next : PartNext) → PartSelected B E ts board list h v part ok limit w next → passed (size E) w.hits (hits_shown (shown_beside ts next)) ≡ false → NoneOfPartLeads B E ts part limit
  gate-none-part w None S g Q l =
      let s = leads-wins-part B E ts part limit Q w.placing l S.winner in
      let e : hits_at B E ts Q ≡ hits_at B E ts w.placing = λ i. hits B E (get_or ts (s.0 i) 0) (s.1 i) (s.2 i) in
      omega (arith, l.alone (one-placing ts part ok some w.placing S.shown), e, S.told.hits, ltb-false (size E - w.hits) (w.hits - 0) g)
  gate-none-part w (Some r) S g Q l =
      let s = leads-wins-part B E ts part limit Q w.placing l S.winner in
      let e : hits_at B E ts Q ≡ hits_at B E ts w.placing = λ i. hits B E (get_or ts (s.0 i) 0) (s.1 i) (s.2 i) in
      let a = l.ahead r.placing S.shown.0.on_part (λ t. S.shown.0.other (t.0 ∙ s.0, t.1 ∙ s.1, t.2 ∙ s.2)) in
      omega (arith, a, e, S.told.hits, S.shown.1.hits, ltb-false (size E - w.hits) (w.hits - r.hits) g)
