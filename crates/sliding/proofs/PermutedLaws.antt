-- One list and another whose placings are those of the first, rearranged: where the rearrangement keeps hits, both come to the same outcome, at the rearranged placing. By hits alone.
use Rattle.std.specs.Prelude.{◌≡◌, refl, List, ℕ, ◌≤◌, Float}
use Rattle.std.proofs.Common.{sym, ap₂, ◌∙◌, arith}
use Rattle.board.specs.declared.edge.Placing.{Placing}
use Rattle.board.specs.Hits.{EdgeList, Board, size, hits_at}
use Rattle.scan.specs.Scan.{over_limit}
use Rattle.demand.specs.Demand.{OnBoard, Same, Leads, RunnerUpExists}
use Rattle.demand.specs.OneSelection.{NoneWithinLimit, SomeWithinLimit}

-- f and g rearrange the placings of the board, each the other's way back, and F has at f P the hits that E has at P
pub record Permuted (B : Board) (ts : List ℕ) (E F : EdgeList) (f g : Placing → Placing) : Type 0 where
  pub edges : size F ≡ size E
  pub there : (P : Placing) → OnBoard B ts P → OnBoard B ts (f P)
  pub back : (P : Placing) → OnBoard B ts P → OnBoard B ts (g P)
  pub back_there : (P : Placing) → OnBoard B ts P → Same (g (f P)) P
  pub there_back : (P : Placing) → OnBoard B ts P → Same (f (g P)) P
  pub hits-stay : (P : Placing) → OnBoard B ts P → hits_at B F ts (f P) ≡ hits_at B E ts P
  pub f_same : (P Q : Placing) → Same P Q → Same (f P) (f Q)
  pub g_same : (P Q : Placing) → Same P Q → Same (g P) (g Q)

-- the same placing has the same hits
pub same-hits : (B : Board) (E : EdgeList) (ts : List ℕ) (P Q : Placing) → Same P Q → hits_at B E ts P ≡ hits_at B E ts Q
same-hits B E ts P Q s = rw (s.0, s.1, s.2) refl

pub same_back : (P Q : Placing) → Same P Q → Same Q P
same_back P Q s = (sym s.0, sym s.1, sym s.2)

pub same-on : (P Q R : Placing) → Same P Q → Same Q R → Same P R
same-on P Q R s t = (s.0 ∙ t.0, s.1 ∙ t.1, s.2 ∙ t.2)

-- the other way round
pub turned : (B : Board) (ts : List ℕ) (E F : EdgeList) (f g : Placing → Placing) → Permuted B ts E F f g → Permuted B ts F E g f
turned B ts E F f g p = record {
  edges = sym p.edges;
  there = p.back;
  back = p.there;
  back_there = p.there_back;
  there_back = p.back_there;
  hits-stay = λ P o. sym (p.hits-stay (g P) (p.back P o)) ∙ same-hits B F ts (f (g P)) P (p.there_back P o);
  f_same = p.g_same;
  g_same = p.f_same;
}

module _ (B : Board) (ts : List ℕ) (E F : EdgeList) (f g : Placing → Placing) (p : Permuted B ts E F f g) where
  -- every placing of F is one of E, rearranged
  hits-back : (Q : Placing) → OnBoard B ts Q → hits_at B E ts (g Q) ≡ hits_at B F ts Q
  hits-back = (turned B ts E F f g p).hits-stay

  -- another placing stays another one
  other-back : (P Q : Placing) → OnBoard B ts P → (Same Q (f P) → ⊥) → OnBoard B ts Q → Same (g Q) P → ⊥
  other-back P Q o n u s = n (same-on Q (f (g Q)) (f P) (same_back (f (g Q)) Q (p.there_back Q u)) (p.f_same (g Q) P s))

  module _ (limit : Float) where
    pub none_stays : NoneWithinLimit B E ts limit → NoneWithinLimit B F ts limit
    none_stays n Q o = ap₂ (λ (e h : ℕ). over_limit e limit h) p.edges (sym (hits-back Q o)) ∙ n (g Q) (p.back Q o)

    pub some-stays : SomeWithinLimit B E ts limit → SomeWithinLimit B F ts limit
    some-stays s = record {
      one = f s.one;
      on-board = p.there s.one s.on-board;
      within = ap₂ (λ (e h : ℕ). over_limit e limit h) p.edges (p.hits-stay s.one s.on-board) ∙ s.within;
    }

    -- what leads leads there
    pub leads-there : (P : Placing) → Leads B E ts limit P → Leads B F ts limit (f P)
    leads-there P l =
        let o = l.on-board in
        let e = p.hits-stay P o in
        record {
          on-board = p.there P o;
          within = ap₂ (λ (n h : ℕ). over_limit n limit h) p.edges e ∙ l.within;
          ahead = λ Q u n. omega (arith, e, p.edges, hits-back Q u, l.ahead (g Q) (p.back Q u) (other-back P Q o n u));
        }

  -- no placing but f P has more hits than those that one but P has
  pub others-no-more : (P : Placing) (a b : ℕ) → OnBoard B ts P → RunnerUpExists B E ts P a → RunnerUpExists B F ts (f P) b → b ≤ a
  others-no-more P a b o x y =
      let Q = y.one in
      let u = y.runs_up.on-board in
      omega (arith, x.with_hits, y.with_hits, hits-back Q u, x.runs_up.no_third (g Q) (p.back Q u) (other-back P Q o y.runs_up.other u))

-- a runner-up of a placing is one of the same placing
pub runner-up-same : (B : Board) (E : EdgeList) (ts : List ℕ) (P Q : Placing) (r : ℕ) → Same P Q → RunnerUpExists B E ts P r → RunnerUpExists B E ts Q r
runner-up-same B E ts P Q r s x = record {
  one = x.one;
  runs_up = record {
    on-board = x.runs_up.on-board;
    other = λ e. x.runs_up.other (same-on x.one Q P e (same_back P Q s));
    no_third = λ R o n. x.runs_up.no_third R o (λ e. n (same-on R P Q e s));
  };
  with_hits = x.with_hits;
}
