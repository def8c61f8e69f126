-- DEMAND 3, HARD. For accepted inputs with some confidence in each list, hard decode answers exactly when one placing of the logical list leads and agrees with
-- the winner of the physical list; it gives that placing, and a runner-up that is another placing with hits no third exceeds. Hits are board's, edge by edge.
use Rattle.std.specs.Prelude.{◌≡◌, Bool, false, cond, ℕ, Err, Ok}
use Rattle.std.proofs.Math.Path.{refl, sym, subst}
use Rattle.std.proofs.Common.{ap, ◌∙◌}
use Rattle.std.proofs.Math.Bool.{true}
use Rattle.std.proofs.Math.Dec.{eqb}
use Rattle.std.proofs.Math.ListN.{get_or}
use borrow.Author.Tests.{eq-eqb, eqb-true}
use Rattle.answer.specs.Answers.{Answer}
use Rattle.laws.specs.Tests.{and-true}
use Rattle.laws.specs.Words.{one_f}
use Rattle.board.specs.declared.edge.Placing.{Placing}
use Rattle.board.specs.Hits.{size}
use Rattle.admission.specs.Calls.{HardCall}
use Rattle.admission.specs.Accepted.{HardAccepted}
use Rattle.figures.specs.Gate.{passed}
use Rattle.figures.specs.Figures.{no_confidence}
use Rattle.hard.specs.Select.{selection}
use Rattle.hard.proofs.SelectTheorems.{sole-selected}
use Rattle.scan.specs.declared.scan.Candidate.{Candidate}
use Rattle.scan.specs.declared.scan.RunnerUp.{RunnerUp}
use Rattle.hard.specs.Kinds.{Selection}
use Rattle.refusals.specs.Numbers.{numbered}
use Rattle.refusals.specs.Numbers as why
use Rattle.answer.specs.declared.Decoded.{Decoded}
use Rattle.verdict.specs.Verdict.{refused_by, agreed, decoded_of, judged}
use Rattle.hard_core.specs.HardDemand.{HardAnswered}
use Rattle.hard_core.specs.Hard.{after_physical, after_logical, hard_core}
use Rattle.verdict.specs.Answers.{answers, never_both}
use Rattle.demand.specs.Demand.{Leads, AgreesPhysical, Tells}
use Rattle.demand.specs.DemandLaws.{key_of, key-same, leads-sole}
use Rattle.demand.specs.Winners.{runner_at, winner-on, winner-leads, winner-hits, named, runner-hits, runs_up}

module _ (call : HardCall) (m n : ℕ) (A : HardAccepted call m n) where
  -- ---- found: then a placing leads and agrees, and the answer tells it
  module _ (d : Decoded) where
    module _ (x : Candidate) (r : RunnerUp) (y : Candidate) (o : RunnerUp) (e : selection call.board call.logical call.transforms call.error_limit ≡ Ok (x, r)) (f : selection call.board call.physical call.transforms one_f ≡ Ok (y, o)) where
      abbrev t : ℕ
      t = get_or call.transforms x.placing.listed 0

      abbrev s : ℕ
      s = get_or call.transforms y.placing.listed 0

      answered : agreed t x s y ≡ true → passed (size call.logical) x.hits r.hits ≡ true → ◌≡◌ {A = Answer} (Ok (decoded_of t x r (size call.logical))) (Ok d) → HardAnswered call d
      unfolding agreed decoded_of
      answered a g k =
          let q : decoded_of t x r (size call.logical) ≡ d = cc in
          let u = and-true (eqb t s) _ a in
          let v = and-true (eqb x.placing.row y.placing.row) (eqb x.placing.col y.placing.col) u.1 in
          let l = A.logical in
          record {
            square = x.placing;
            runner-up = runner_at (named call.board call.logical call.transforms call.error_limit A.board l A.transforms.few x r e g).0 r;
            leads = winner-leads call.board call.logical call.transforms call.error_limit A.board l A.transforms.few x r e g;
            agrees = record { winner = y; runner = o; chosen = f; transform = sym (eqb-true t s u.0); row = sym (eqb-true x.placing.row y.placing.row v.0); col = sym (eqb-true x.placing.col y.placing.col v.1) };
            runs_up = runs_up call.board call.logical call.transforms call.error_limit A.board l A.transforms.few x r e g;
            tells = subst (λ (z : Decoded). Tells call.board call.logical call.logical call.transforms x.placing (runner_at (named call.board call.logical call.transforms call.error_limit A.board l A.transforms.few x r e g).0 r) z.square z.hits z.edges z.runner_up z.runner_up_hits) q (record {
              square = (refl, refl, refl);
              hits = winner-hits call.board call.logical call.transforms call.error_limit A.board l A.transforms.few x r e g;
              edges = refl;
              runner-up = ((named call.board call.logical call.transforms call.error_limit A.board l A.transforms.few x r e g).2, refl, refl);
              runner_up_hits = sym (runner-hits call.board call.logical call.transforms call.error_limit A.board l A.transforms.few x r e g);
            });
          }

      by-gate : (b : Bool) → passed (size call.logical) x.hits r.hits ≡ b → agreed t x s y ≡ true → cond b (Ok (decoded_of t x r (size call.logical))) (refused_by why.not_far_ahead) ≡ Ok d → HardAnswered call d
      by-gate true g a k = answered a g k
      by-gate false g a k = absurd (never_both answers d (numbered why.not_far_ahead) k)

      by-agreed : (b : Bool) → agreed t x s y ≡ b → cond b (cond (passed (size call.logical) x.hits r.hits) (Ok (decoded_of t x r (size call.logical))) (refused_by why.not_far_ahead)) (refused_by why.lists_disagree) ≡ Ok d → HardAnswered call d
      by-agreed true a k = by-gate (passed (size call.logical) x.hits r.hits) refl a k
      by-agreed false a k = absurd (never_both answers d (numbered why.lists_disagree) k)

      from-judged : judged t x r s y (size call.logical) ≡ Ok d → HardAnswered call d
      unfolding judged
      from-judged h = by-agreed (agreed t x s y) refl h

    from-physical : (x : Candidate) (r : RunnerUp) (q : Selection) → selection call.board call.logical call.transforms call.error_limit ≡ Ok (x, r) → selection call.board call.physical call.transforms one_f ≡ q → after_physical call.logical call.transforms x r q ≡ Ok d → HardAnswered call d
    from-physical x r (Err k) e f h = absurd (never_both answers d k h)
    from-physical x r (Ok (y, o)) e f h = from-judged x r y o e f h

    from-logical : (q : Selection) → selection call.board call.logical call.transforms call.error_limit ≡ q → after_logical call q ≡ Ok d → HardAnswered call d
    from-logical (Err k) e h = absurd (never_both answers d k h)
    from-logical (Ok (x, r)) e h = from-physical x r (selection call.board call.physical call.transforms one_f) e refl h

    -- FOUND MEANS TRUE
    pub hard-sound : hard_core call ≡ Ok d → HardAnswered call d
    unfolding hard_core
    hard-sound h = from-logical (selection call.board call.logical call.transforms call.error_limit) refl h

  -- ---- a placing leads and agrees: then hard decode finds
  -- A TRUE SQUARE IS FOUND
  pub hard-complete : no_confidence call.logical ≡ false → (Q : Placing) → Leads call.board call.logical call.transforms call.error_limit Q → AgreesPhysical call.board call.physical call.transforms Q → (d : Decoded) × (hard_core call ≡ Ok d)
  unfolding hard_core judged agreed
  hard-complete h Q l a =
      let s = sole-selected call.board call.logical call.transforms call.error_limit A.board A.logical A.transforms.few h Q.listed (key_of call.board A.board Q) (leads-sole call.board A.board call.transforms call.logical call.error_limit Q l) in
      let x = s.0 in
      let r = s.1 in
      let k = key-same call.board A.board call.transforms Q x.placing l.on-board (winner-on call.board call.logical call.transforms call.error_limit A.board A.logical A.transforms.few x r s.2) (s.4, s.5) in
      let y = a.winner in
      let t = get_or call.transforms x.placing.listed 0 in
      let v = get_or call.transforms y.placing.listed 0 in
      let p1 : eqb t v ≡ true = eq-eqb t v (ap (λ (i : ℕ). get_or call.transforms i 0) (sym k.0) ∙ sym a.transform) in
      let p2 : eqb x.placing.row y.placing.row ≡ true = eq-eqb x.placing.row y.placing.row (sym k.1 ∙ sym a.row) in
      let p3 : eqb x.placing.col y.placing.col ≡ true = eq-eqb x.placing.col y.placing.col (sym k.2 ∙ sym a.col) in
      (decoded_of t x r (size call.logical), rw (s.2, a.chosen, p1, p2, p3, s.3))
