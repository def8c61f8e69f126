-- One list judged by hits alone, whichever engine does it, and what of it slides with the picture (C-21). No engine, table, weight or score occurs.
use Rattle.std.specs.Prelude.{◌≡◌, refl, Bool, true, false, List, ℕ, Float}
use Rattle.std.proofs.Common.{sym, ◌∙◌, arith}
use Rattle.laws.specs.Tests.{clash}
use Rattle.board.specs.declared.edge.Placing.{Placing}
use Rattle.board.specs.Hits.{EdgeList, Board, hits_at}
use Rattle.refusals.specs.declared.Refusal.{Refusal}
use Rattle.refusals.specs.Numbers.{numbered}
use Rattle.refusals.specs.Numbers as why
use Rattle.demand.specs.Demand.{Same, Leads, RunnerUpExists}
use Rattle.demand.specs.DemandLaws.{leads-once}
use Rattle.demand.specs.OneSelection.{NoneWithinLimit, SomeWithinLimit, NoneLeads}
use Rattle.sliding.proofs.PermutedLaws.{Permuted, turned, none_stays, some-stays, leads-there, others-no-more, runner-up-same, same-hits, same_back}

-- what one list comes to: a refusal, or a placing with its hits and the runner-up's
pub data Told : Type 0 where
  refused : Refusal → Told
  found : (square : Placing) (hits runner_up_hits : ℕ) → Told

-- the right one, by hits: 10 where the list has no confidence (`none` is true, by whichever sum the engine goes), 11 where no placing is within the limit, 13 where none leads, else the one that leads
pub data ByHits (B : Board) (E : EdgeList) (ts : List ℕ) (limit : Float) (none : Bool) : Told → Type 0 where
  no-confidence : none ≡ true → ByHits B E ts limit none (refused (numbered why.no_confidence))
  none_within : none ≡ false → NoneWithinLimit B E ts limit → ByHits B E ts limit none (refused (numbered why.none_within_limit))
  none_leads : none ≡ false → SomeWithinLimit B E ts limit → NoneLeads B E ts limit → ByHits B E ts limit none (refused (numbered why.not_far_ahead))
  leads : none ≡ false → (P : Placing) (h r : ℕ) → Leads B E ts limit P → h ≡ hits_at B E ts P → RunnerUpExists B E ts P r → ByHits B E ts limit none (found P h r)

-- the same refusal; or the same hits and runner-up hits, at the placing that f makes of the first one's
abbrev pub ToldThere : (Placing → Placing) → Told → Told → Type 0
ToldThere f (refused one) (refused other) = other ≡ one
ToldThere f (refused one) (found P h r) = ⊥
ToldThere f (found P h r) (refused other) = ⊥
ToldThere f (found P h r) (found Q k s) = (k ≡ h) × (s ≡ r) × Same Q (f P)

module _ (B : Board) (ts : List ℕ) (E F : EdgeList) (f g : Placing → Placing) (p : Permuted B ts E F f g) (limit : Float) (none : Bool) where
  q : Permuted B ts F E g f
  q = turned B ts E F f g p

  within_both : NoneWithinLimit B E ts limit → SomeWithinLimit B F ts limit → ⊥
  within_both n s = clash (none_stays B ts E F f g p limit n s.one s.on-board) s.within

  within-both-back : SomeWithinLimit B E ts limit → NoneWithinLimit B F ts limit → ⊥
  within-both-back s n = let t = some-stays B ts E F f g p limit s in clash (n t.one t.on-board) t.within

  leader-within : (G : EdgeList) (P : Placing) → Leads B G ts limit P → SomeWithinLimit B G ts limit
  leader-within G P l = record { one = P; on-board = l.on-board; within = l.within }

  both-lead : (P Q : Placing) (h r k s : ℕ) → Leads B E ts limit P → h ≡ hits_at B E ts P → RunnerUpExists B E ts P r
      → Leads B F ts limit Q → k ≡ hits_at B F ts Q → RunnerUpExists B F ts Q s → ToldThere f (found P h r) (found Q k s)
  both-lead P Q h r k s l eh x m ek y =
      let o = l.on-board in
      let same : Same Q (f P) = leads-once B F ts limit Q (f P) m (leads-there B ts E F f g p limit P l) in
      let there = runner-up-same B F ts Q (f P) s same y in
      let back = runner-up-same B E ts P (g (f P)) r (same_back (g (f P)) P (p.back_there P o)) x in (
        ek ∙ same-hits B F ts Q (f P) same ∙ p.hits-stay P o ∙ sym eh,
        omega (arith, others-no-more B ts E F f g p P r s o x there, others-no-more B ts F E g f q (f P) s r (p.there P o) there back),
        same,
      )

  -- WHAT IS JUDGED BY HITS SLIDES: where a rearrangement of the placings keeps hits, both lists come to the same, at the rearranged placing
  pub told-there : (x y : Told) → ByHits B E ts limit none x → ByHits B F ts limit none y → ToldThere f x y
  told-there x y (no-confidence a) (no-confidence b) = refl
  told-there x y (no-confidence a) (none_within b n) = clash a b
  told-there x y (no-confidence a) (none_leads b s n) = clash a b
  told-there x y (no-confidence a) (leads b Q k s m ek z) = clash a b
  told-there x y (none_within a n) (no-confidence b) = clash b a
  told-there x y (none_within a n) (none_within b m) = refl
  told-there x y (none_within a n) (none_leads b s m) = absurd (within_both n s)
  told-there x y (none_within a n) (leads b Q k s m ek z) = absurd (within_both n (leader-within F Q m))
  told-there x y (none_leads a s n) (no-confidence b) = clash b a
  told-there x y (none_leads a s n) (none_within b m) = absurd (within-both-back s m)
  told-there x y (none_leads a s n) (none_leads b t m) = refl
  told-there x y (none_leads a s n) (leads b Q k t m ek z) = absurd (n (g Q) (leads-there B ts F E g f q limit Q m))
  told-there x y (leads a P h r l eh z) (no-confidence b) = clash b a
  told-there x y (leads a P h r l eh z) (none_within b m) = absurd (within-both-back (leader-within E P l) m)
  told-there x y (leads a P h r l eh z) (none_leads b s m) = absurd (m (f P) (leads-there B ts E F f g p limit P l))
  told-there x y (leads a P h r l eh z) (leads b Q k s m ek w) = both-lead P Q h r k s l eh z m ek w
