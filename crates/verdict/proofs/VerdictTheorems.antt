-- What a verdict tells, in the winners' own numbers (demands 2 and 3 on this crate's definitions): found exactly when the winners agree and the gate is passed; a
-- found answer tells the winner's square and hits, and the runner-up's. A refusal has its own number.
use Rattle.std.specs.Prelude.{◌≡◌, Bool, ◌&&◌, ℕ, ◌-◌, eqb, Ok}
use Rattle.std.proofs.Math.Path.{refl, subst}
use Rattle.std.proofs.Math.Bool.{true, false, cond}
use Rattle.std.proofs.Common.{eq-eqb, eqb-true}
use Rattle.laws.specs.Tests.{clash, not_so, and-true}
use Rattle.refusals.specs.Numbers.{numbered}
use Rattle.refusals.specs.Numbers as why
use Rattle.board.specs.declared.edge.Placing.{Placing}
use Rattle.scan.specs.declared.scan.Candidate.{Candidate}
use Rattle.scan.specs.declared.scan.RunnerUp.{RunnerUp}
use Rattle.figures.specs.Gate.{passed}
use Rattle.answer.specs.declared.Square.{Square}
use Rattle.answer.specs.declared.Decoded.{Decoded}
use Rattle.verdict.specs.Verdict.{refused_by, agreed, decoded_of, judged}
use Rattle.verdict.specs.Answers.{answers, never_both}

-- "origin and matrix must agree": the transforms and the origins of two placings are the same
pub record Agree (t : ℕ) (P : Placing) (s : ℕ) (Q : Placing) : Type 0 where
  pub transform : t ≡ s
  pub row : P.row ≡ Q.row
  pub col : P.col ≡ Q.col

-- what an answer says, hard or soft: the square of the placing P under the transform t, so many hits of so many edges, and the runner-up's square and hits
pub record Says (t : ℕ) (P : Placing) (hits edges : ℕ) (runner : RunnerUp) (square : Square) (told-hits told-edges : ℕ) (runner-up : Square) (runner-up-told : ℕ) : Type 0 where
  pub transform : square.transform ≡ t
  pub row : square.row ≡ P.row
  pub col : square.col ≡ P.col
  pub hits-told : told-hits ≡ hits
  pub edges_told : told-edges ≡ edges
  pub runner_up_hits : runner-up-told ≡ runner.hits
  pub runner_up_transform : runner-up.transform ≡ runner.transform
  pub runner_up_row : runner-up.row ≡ runner.row
  pub runner_up_col : runner-up.col ≡ runner.col

-- ---- the test of agreement
abbrev pub test : ℕ → Placing → ℕ → Placing → Bool
test t P s Q = eqb t s && (eqb P.row Q.row && eqb P.col Q.col)

pub agree_of : (t : ℕ) (P : Placing) (s : ℕ) (Q : Placing) → test t P s Q ≡ true → Agree t P s Q
agree_of t P s Q e =
    let u = and-true (eqb t s) (eqb P.row Q.row && eqb P.col Q.col) e in
    let v = and-true (eqb P.row Q.row) (eqb P.col Q.col) u.1 in
    record { transform = eqb-true t s u.0; row = eqb-true P.row Q.row v.0; col = eqb-true P.col Q.col v.1 }

pub of_agree : (t : ℕ) (P : Placing) (s : ℕ) (Q : Placing) → Agree t P s Q → test t P s Q ≡ true
of_agree t P s Q a = rw (eq-eqb t s a.transform, eq-eqb P.row Q.row a.row, eq-eqb P.col Q.col a.col)

pub of-differ : (t : ℕ) (P : Placing) (s : ℕ) (Q : Placing) → (Agree t P s Q → ⊥) → test t P s Q ≡ false
of-differ t P s Q n = not_so (test t P s Q) (λ e. n (agree_of t P s Q e))

-- ---- two tests, one inside the other
pub both_hold : {A : Type 0} (a b : Bool) (x y z : A) → a ≡ true → b ≡ true → cond a (cond b x y) z ≡ x
both_hold true true x y z p q = refl
both_hold true false x y z p q = clash q refl
both_hold false b x y z p q = clash p refl

pub first_holds : {A : Type 0} (a b : Bool) (x y z : A) → a ≡ true → b ≡ false → cond a (cond b x y) z ≡ y
first_holds true true x y z p q = clash refl q
first_holds true false x y z p q = refl
first_holds false b x y z p q = clash p refl

pub none-holds : {A : Type 0} (a : Bool) (x z : A) → a ≡ false → cond a x z ≡ z
none-holds true x z p = clash refl p
none-holds false x z p = refl

-- ---- hard: the logical winner w under the transform t, with its runner-up, and the physical winner p under the transform s
module _ (t : ℕ) (w : Candidate) (runner : RunnerUp) (s : ℕ) (p : Candidate) (edges : ℕ) where
  -- WINNERS THAT AGREE AND PASS ARE FOUND
  pub judged-complete : Agree t w.placing s p.placing → passed edges w.hits runner.hits ≡ true → (d : Decoded) × (judged t w runner s p edges ≡ Ok d)
  unfolding judged agreed
  judged-complete a g = (decoded_of t w runner edges, both_hold (test t w.placing s p.placing) (passed edges w.hits runner.hits) _ _ _ (of_agree t w.placing s p.placing a) g)

  -- 12 where they differ, 13 where they agree and do not pass
  pub judged-12 : (Agree t w.placing s p.placing → ⊥) → judged t w runner s p edges ≡ refused_by why.lists_disagree
  unfolding judged agreed
  judged-12 n = none-holds (test t w.placing s p.placing) _ _ (of-differ t w.placing s p.placing n)

  pub judged-13 : Agree t w.placing s p.placing → passed edges w.hits runner.hits ≡ false → judged t w runner s p edges ≡ refused_by why.not_far_ahead
  unfolding judged agreed
  judged-13 a g = first_holds (test t w.placing s p.placing) (passed edges w.hits runner.hits) _ _ _ (of_agree t w.placing s p.placing a) g

  -- what a found answer says
  pub record Judged (d : Decoded) : Type 0 where
    pub agree : Agree t w.placing s p.placing
    pub ahead : passed edges w.hits runner.hits ≡ true
    pub says : Says t w.placing w.hits edges runner d.square d.hits d.edges d.runner_up d.runner_up_hits
    pub margin : d.margin_hits ≡ w.hits - runner.hits

  -- what is found is told as document 01 says
  pub judged-is : (d : Decoded) → judged t w runner s p edges ≡ Ok d → decoded_of t w runner edges ≡ d
  unfolding judged
  judged-is d h = go (agreed t w s p) (passed edges w.hits runner.hits) h
    where
      go : (a b : Bool) → cond a (cond b (Ok (decoded_of t w runner edges)) (refused_by why.not_far_ahead)) (refused_by why.lists_disagree) ≡ Ok d → decoded_of t w runner edges ≡ d
      go true true k = cc
      go true false k = absurd (never_both answers d (numbered why.not_far_ahead) k)
      go false b k = absurd (never_both answers d (numbered why.lists_disagree) k)

  by-gate : (d : Decoded) (b : Bool) → passed edges w.hits runner.hits ≡ b → Agree t w.placing s p.placing → cond b (Ok (decoded_of t w runner edges)) (refused_by why.not_far_ahead) ≡ Ok d → Judged d
  unfolding decoded_of
  by-gate d true g a k =
      let q : decoded_of t w runner edges ≡ d = cc in
      subst (λ (z : Decoded). Judged z) q (record {
        agree = a;
        ahead = g;
        says = record { transform = refl; row = refl; col = refl; hits-told = refl; edges_told = refl; runner_up_hits = refl; runner_up_transform = refl; runner_up_row = refl; runner_up_col = refl };
        margin = refl;
      })
  by-gate d false g a k = absurd (never_both answers d (numbered why.not_far_ahead) k)

  by-agreed : (d : Decoded) (b : Bool) → test t w.placing s p.placing ≡ b → cond b (cond (passed edges w.hits runner.hits) (Ok (decoded_of t w runner edges)) (refused_by why.not_far_ahead)) (refused_by why.lists_disagree) ≡ Ok d → Judged d
  by-agreed d true e k = by-gate d (passed edges w.hits runner.hits) refl (agree_of t w.placing s p.placing e) k
  by-agreed d false e k = absurd (never_both answers d (numbered why.lists_disagree) k)

  -- FOUND MEANS TRUE
  pub judged-sound : (d : Decoded) → judged t w runner s p edges ≡ Ok d → Judged d
  unfolding judged agreed
  judged-sound d h = by-agreed d (test t w.placing s p.placing) refl h
