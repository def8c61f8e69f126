-- THE TWO HARD MODES ON ONE ACCEPTED CALL: by who leads, since no two placings of a list do, and by how each ends. No table occurs.
use Rattle.std.specs.Prelude.{◌≡◌, List, ℕ, ◌≤◌, get_or, Float, Err, Ok}
use Rattle.std.proofs.Math.Path.{refl, subst}
use Rattle.std.proofs.Common.{sym, ap₂, ◌∙◌, inl, inr, arith}
use Rattle.laws.specs.Tests.{clash}
use Rattle.board.specs.declared.edge.Placing.{Placing}
use Rattle.board.specs.Hits.{EdgeList, Board, hits, hits_at}
use Rattle.refusals.specs.Numbers.{numbered}
use Rattle.refusals.specs.Numbers as why
use Rattle.admission.specs.Calls.{HardCall}
use Rattle.admission.specs.Accepted.{HardAccepted}
use Rattle.figures.specs.Figures.{rate_of}
use Rattle.answer.specs.declared.Decoded.{Decoded}
use Rattle.answer.specs.Answers.{Answer}
use Rattle.verdict.specs.Verdict.{decoded_of}
use Rattle.demand.specs.Demand.{Same, Leads, RunsUp}
use Rattle.demand.specs.DemandLaws.{leader-named}
use Rattle.demand.specs.OneSelection.{NoneWithinLimit, NoneLeads, Winner, winner-some}
use Rattle.hard_core.specs.Hard.{hard_core}
use Rattle.hard_core.specs.HardDemand.{HardAnswered}
use Rattle.hard_core.proofs.HardNumbers as ended
use Rattle.hard_core.proofs.HardTheorems.{hard-sound}
use Rattle.exact_answer.specs.declared.ExactDecoded.{ExactDecoded}
use Rattle.exact_answer.specs.Answers.{ExactAnswer}
use Rattle.exact_core.specs.ExactCore.{exact_core}
use Rattle.exact_demand.specs.ExactDemand.{ExactAnswered}
use Rattle.exact_demand.proofs.ExactEnds.{ExactEnd, no_logical_units, none-within-limit, no_physical_units, winners_differ, none_leads, found, exact-ends}
use Rattle.claims.proofs.TenFieldsTheorems.{hard-ten-fields}
use Rattle.claims.specs.ExactPromises.{SameFound, ModesAgree, both_find, both_refuse, hard_refuses, exact_refuses}

-- ---- a runner-up of a placing that leads is not another placing with as many hits
not-as : (B : Board) (E : EdgeList) (ts : List ℕ) (limit : Float) (P Q R : Placing) → Leads B E ts limit P → RunsUp B E ts P R → hits_at B E ts Q ≡ hits_at B E ts P → Same R Q → ⊥
not-as B E ts limit P Q R l r e s =
    let h : hits_at B E ts R ≡ hits_at B E ts Q = λ i. hits B E (get_or ts (s.0 i) 0) (s.1 i) (s.2 i) in
    omega (arith, h, e, l.ahead R r.on-board r.other)

-- so of two placings that lead, with as many hits, one's runner-up has no more hits than the other's
no_more : (B : Board) (E : EdgeList) (ts : List ℕ) (limit : Float) (P Q R S : Placing) → Leads B E ts limit P → RunsUp B E ts P R → RunsUp B E ts Q S → hits_at B E ts Q ≡ hits_at B E ts P → hits_at B E ts R ≤ hits_at B E ts S
no_more B E ts limit P Q R S l r q e = q.no_third R r.on-board (not-as B E ts limit P Q R l r e)

-- ---- both find
module _ (call : HardCall) (d : Decoded) (x : ExactDecoded) (a : HardAnswered call d) (b : ExactAnswered call x) (rate : d.error_rate ≡ rate_of d.edges d.hits) where
  abbrev P : Placing
  P = a.square

  abbrev Q : Placing
  Q = b.square

  abbrev at : Placing → ℕ
  at = hits_at call.board call.logical call.transforms

  -- both lead, so they name one square
  named : (get_or call.transforms P.listed 0 ≡ x.square.transform) × (P.row ≡ x.square.row) × (P.col ≡ x.square.col)
  named = leader-named call.board call.logical call.transforms call.error_limit P Q x.square a.leads b.leads b.tells.square

  level : at P ≡ at Q
  level =
      let q = b.tells.square in
      let t = named.0 ∙ sym q.0 in
      let r = named.1 ∙ sym q.1 in
      let c = named.2 ∙ sym q.2 in
      λ i. hits call.board call.logical (t i) (r i) (c i)

  pub found_alike : SameFound d x
  found_alike =
      let p = a.tells.square in
      let t = sym p.0 ∙ named.0 in
      let r = sym p.1 ∙ named.1 in
      let c = sym p.2 ∙ named.2 in
      record {
        square = λ i. record { transform = t i; row = r i; col = c i };
        hits = a.tells.hits ∙ level ∙ sym b.tells.hits;
        edges = a.tells.edges ∙ sym b.tells.edges;
        rate = rate ∙ ap₂ rate_of a.tells.edges (a.tells.hits ∙ level) ∙ sym b.rate;
        runner_up_hits =
            let one = no_more call.board call.logical call.transforms call.error_limit P Q a.runner-up b.runner-up a.leads a.runs_up b.runs_up (sym level) in
            let two = no_more call.board call.logical call.transforms call.error_limit Q P b.runner-up a.runner-up b.leads b.runs_up a.runs_up level in
            omega (arith, one, two, a.tells.runner_up_hits, b.tells.runner_up_hits);
      }

module _ (call : HardCall) (m n : ℕ) (A : HardAccepted call m n) where
  -- the rate of a found hard answer is that of its own hits and edges
  pub hard-rate : (d : Decoded) → hard_core call ≡ Ok d → d.error_rate ≡ rate_of d.edges d.hits
  unfolding decoded_of
  hard-rate d e = subst (λ (z : Decoded). z.error_rate ≡ rate_of z.edges z.hits) (hard-ten-fields call m n A d e).decoded refl

  -- hard decode refuses by 11, by 13, or finds: against each end of exact decode
  at-eleven : (x : ExactAnswer) → ExactEnd call x → NoneWithinLimit call.board call.logical call.transforms call.error_limit → ModesAgree (Err (numbered why.none_within_limit)) x
  at-eleven x (no_logical_units z) h = exact_refuses _ (numbered why.no_confidence) (inl refl)
  at-eleven x (none-within-limit u k) h = both_refuse (numbered why.none_within_limit)
  at-eleven x (no_physical_units u P k z) h = exact_refuses _ (numbered why.no_confidence) (inl refl)
  at-eleven x (winners_differ b k) h = exact_refuses _ (numbered why.lists_disagree) (inr refl)
  at-eleven x (none_leads b k l) h = clash (h b.logical b.logical_wins.on-board) b.within
  at-eleven x (found b k e y) h = clash (h b.logical b.logical_wins.on-board) b.within

  at-thirteen : (x : ExactAnswer) → ExactEnd call x → Winner call.board call.logical call.transforms call.error_limit A.board A.logical A.transforms.few → NoneLeads call.board call.logical call.transforms call.error_limit → ModesAgree (Err (numbered why.not_far_ahead)) x
  at-thirteen x (no_logical_units z) w h = exact_refuses _ (numbered why.no_confidence) (inl refl)
  at-thirteen x (none-within-limit u k) w h =
      let s = (winner-some call.board call.logical call.transforms call.error_limit A.board A.logical A.transforms.few w).1 in
      clash (k s.one s.on-board) s.within
  at-thirteen x (no_physical_units u P k z) w h = exact_refuses _ (numbered why.no_confidence) (inl refl)
  at-thirteen x (winners_differ b k) w h = exact_refuses _ (numbered why.lists_disagree) (inr refl)
  at-thirteen x (none_leads b k l) w h = both_refuse (numbered why.not_far_ahead)
  at-thirteen x (found b k e y) w h = absurd (h y.square y.leads)

  at-found : (x : ExactAnswer) → ExactEnd call x → (d : Decoded) → hard_core call ≡ Ok d → ModesAgree (Ok d) x
  at-found x (no_logical_units z) d e = exact_refuses _ (numbered why.no_confidence) (inl refl)
  at-found x (none-within-limit u k) d e = let a = hard-sound call m n A d e in clash (k a.square a.leads.on-board) a.leads.within
  at-found x (no_physical_units u P k z) d e = exact_refuses _ (numbered why.no_confidence) (inl refl)
  at-found x (winners_differ b k) d e = exact_refuses _ (numbered why.lists_disagree) (inr refl)
  at-found x (none_leads b k l) d e = let a = hard-sound call m n A d e in absurd (l a.square a.leads)
  at-found x (found b k f y) d e = both_find d f (found_alike call d f (hard-sound call m n A d e) y (hard-rate d e))

  by-hard : (h : Answer) → ended.HardEnd call m n A h → hard_core call ≡ h → (x : ExactAnswer) → ExactEnd call x → ModesAgree h x
  by-hard h (ended.no_logical_confidence k) e x y = hard_refuses (numbered why.no_confidence) x (inl refl)
  by-hard h (ended.none_within k l) e x y = at-eleven x y l
  by-hard h (ended.no_physical_confidence k l o) e x y = hard_refuses (numbered why.no_confidence) x (inl refl)
  by-hard h (ended.winners_differ w p k) e x y = hard_refuses (numbered why.lists_disagree) x (inr refl)
  by-hard h (ended.none_leads w p k l) e x y = at-thirteen x y w l
  by-hard h (ended.found w p k g d) e x y = at-found x y d e

  -- THE CORES AGREE, or one of them refuses by 10 or 12
  pub cores-agree : ModesAgree (hard_core call) (exact_core call)
  cores-agree = by-hard (hard_core call) (ended.hard-ends call m n A) refl (exact_core call) (exact-ends call m n A)
