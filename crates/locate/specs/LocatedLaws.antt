-- What the lead and the first origin with the runner-up's hits come to: the answer is the one that the meaning asks for.
use Rattle.std.specs.Prelude.{◌≡◌, refl, ◌⊎◌, Bool, true, false, List, ℕ, ◌+◌, ◌*◌, ◌-◌, ◌/◌, ◌%◌, ◌≤◌, ◌<◌, get_or, length, Float, Err, Ok}
use Rattle.std.proofs.Math.Path.{sym}
use Rattle.std.proofs.Common.{ap, ap₂, subst, ◌∙◌, inl, inr, arith}
use Rattle.std.proofs.Math.Logic.{⊎_elim}
use borrow.Author.Tests.{ltb-true, lt-ltb, eqb-true, eq-eqb}
use Rattle.laws.specs.Tests.{clash, compared, apart, decided}
use Rattle.laws.specs.First.{first-none, first_passes, first-before}
use Rattle.board.specs.Hits.{EdgeList, Board, size, bare, look, hit, hits}
use Rattle.board.specs.Sides.{period_of}
use Rattle.board.specs.Domain.{BoardOk}
use Rattle.board.proofs.HitsLaws.{hits-le}
use Rattle.classes.specs.ClassesLaws.{hits-bare}
use Rattle.answer.specs.declared.Square.{Square}
use Rattle.refusals.specs.declared.Refusal.{Refusal}
use Rattle.refusals.specs.Admission.{Admission, accepted}
use Rattle.refusals.specs.Numbers.{numbered}
use Rattle.refusals.specs.Numbers as why
use Rattle.locate_answer.specs.Answers.{LocateAnswer}
use Rattle.locate_admission.specs.LocateAdmission.{locate_admission}
use Rattle.figures.specs.Gate.{passed}
use Rattle.figures.specs.Figures.{no_confidence}
use Rattle.grid.specs.BoardGrid.{period-h, period-v, none-small}
use Rattle.scan.specs.Scan.{over_limit}
use Rattle.hard.specs.Placings.{NoneWithin, SomeWithin, Sole}
use Rattle.hard.specs.RateLaws.{fewer-over}
use Rattle.hard.proofs.SelectTheorems.{hits_at_key}
use Rattle.firsts.specs.Firsts.{key_has, first_key}
use Rattle.lead.specs.declared.Lead.{Lead}
use Rattle.lead.specs.Lead.{lead_after, peaks}
use Rattle.lead.specs.LeadLaws.{Leading, leading}
use Rattle.locate.specs.Located.{FirstOther, origins_of, square_at, LocatedAs, LocateDone}

-- ---- by any hits of n positions and the keys below `none`, of a list of `edges` edges
module _ (n none edges : ℕ) (limit : Float) (hit : ℕ → ℕ → ℕ) (S : Lead) (A : Leading n none hit S) (few : edges ≤ 8192) (bound : (p k : ℕ) → hit p k ≤ edges) where
  -- no placing has more than the best
  most : (p k : ℕ) → p < n → k < none → hit p k ≤ S.best
  most p k h l = go (decided p S.listed) (decided k S.key)
    where
      go : (p ≡ S.listed) ⊎ (p ≡ S.listed → ⊥) → (k ≡ S.key) ⊎ (k ≡ S.key → ⊥) → hit p k ≤ S.best
      go (inl e) (inl d) = omega (arith, ap₂ hit e d, A.at)
      go (inl e) (inr d) = omega (arith, A.others p k h l (λ x. d x.1), A.under)
      go (inr e) d = omega (arith, A.others p k h l (λ x. e x.0), A.under)

  best-le : S.best ≤ edges
  best-le = omega (arith, A.at, bound S.listed S.key)

  -- the best is over the limit: all are
  pub none_within : over_limit edges limit S.best ≡ true → NoneWithin n none edges limit hit
  none_within o p k h l = fewer-over edges limit (hit p k) S.best few (most p k h l) best-le o

  -- the best is within the limit
  pub some-within : over_limit edges limit S.best ≡ false → SomeWithin n none edges limit hit
  some-within o = (S.listed, S.key, A.listed_in, A.key_in, ap (over_limit edges limit) A.at ∙ o)

  -- the gate is not passed: none is ahead
  pub none_ahead : passed edges S.best S.next ≡ false → (p k : ℕ) → Sole n none edges limit hit p k → ⊥
  none_ahead g p k Z = go (decided p S.listed) (decided k S.key)
    where
      behind : ((S.listed ≡ p) × (S.key ≡ k) → ⊥) → ⊥
      behind ne = omega (arith, Z.ahead S.listed S.key A.listed_in A.key_in ne, A.at, most p k Z.listed Z.key)

      go : (p ≡ S.listed) ⊎ (p ≡ S.listed → ⊥) → (k ≡ S.key) ⊎ (k ≡ S.key → ⊥) → ⊥
      go (inl e) (inl d) =
          let w = A.had in
          let b : hit p k ≡ S.best = ap₂ hit e d ∙ A.at in
          clash (lt-ltb (edges - S.best) (S.best - S.next) (omega (arith, Z.ahead S.from w.0 A.from_in w.1 (λ x. w.2 (x.0 ∙ e, x.1 ∙ d)), w.3, b))) g
      go (inl e) (inr d) = behind (λ x. d (sym x.1))
      go (inr e) d = behind (λ x. e (sym x.0))

  module _ (g : passed edges S.best S.next ≡ true) where
    ahead : S.next + (edges - S.best) < S.best
    ahead = omega (arith, ltb-true (edges - S.best) (S.best - S.next) g)

    -- the gate is passed: the best is ahead of every other
    pub sole : over_limit edges limit S.best ≡ false → Sole n none edges limit hit S.listed S.key
    sole o = record {
      listed = A.listed_in;
      key = A.key_in;
      allowed = ap (over_limit edges limit) A.at ∙ o;
      ahead = λ q j h l ne. omega (arith, A.others q j h l ne, A.at, ahead);
    }

    -- and the first key of position `from` with the runner-up's hits is the first of the others
    pub first-other : (j : ℕ) → j < none → hit S.from j ≡ S.next → ((l : ℕ) → l < j → hit S.from l ≡ S.next → ⊥) → FirstOther n none hit S.listed S.key S.from j S.next
    first-other j h e least = record {
      listed = A.from_in;
      key = h;
      other = λ x. omega (arith, ap₂ hit x.0 x.1, A.at, e, ahead);
      hits = e;
      most = A.others;
      first = first;
    }
      where
        first : (i l : ℕ) → i < n → l < none → ((i ≡ S.listed) × (l ≡ S.key) → ⊥) → hit i l ≡ S.next → (S.from < i) ⊎ ((S.from ≡ i) × (j ≤ l))
        first i l hi hl ne d = go (apart S.from i) (compared l j)
          where
            go : (S.from ≡ i) ⊎ ((S.from < i) ⊎ (i < S.from)) → (l < j) ⊎ (j ≤ l) → (S.from < i) ⊎ ((S.from ≡ i) × (j ≤ l))
            go (inl q) (inl m) = absurd (least l m (ap (λ (x : ℕ). hit x l) q ∙ d))
            go (inl q) (inr m) = inr (q, m)
            go (inr (inl q)) m = inl q
            go (inr (inr q)) m = absurd (omega (arith, A.early i l q hl ne, d))

-- ---- of a board, a list and its transforms
-- the lead is by the hits of every placing
pub leads : (B : Board) (E : EdgeList) (ts : List ℕ) → BoardOk B → 0 < length ts → (S : Lead) → S ≡ lead_after (peaks B (bare E) ts) (length ts - 1) → Leading (length ts) (origins_of B) (hits_at_key B E ts) S
unfolding hits hit look
leads B E ts ok some S e = rw e (leading B (bare E) ts ok some)

-- keys are small
pub keys-small : (B : Board) → BoardOk B → origins_of B ≤ 2250000
keys-small B ok = none-small (period_of B true) (period_of B false) (period-h B ok) (period-v B ok)

module _ (B : Board) (E : EdgeList) (ts : List ℕ) (S : Lead) (A : Leading (length ts) (origins_of B) (hits_at_key B E ts) S) where
  -- the first key with as many hits as the runner-up's, at the first position that has one
  module _ (k : ℕ) (is : k ≡ first_key B (bare E) (get_or ts S.from 0) S.next) where
    abbrev test : ℕ → Bool
    test = key_has B (bare E) (get_or ts S.from 0) S.next

    counts : (j : ℕ) → hits B (bare E) (get_or ts S.from 0) (j / (3 * period_of B false)) (j % (3 * period_of B false)) ≡ hits_at_key B E ts S.from j
    counts j = hits-bare B E (get_or ts S.from 0) (j / (3 * period_of B false)) (j % (3 * period_of B false))

    pub runner-in : k < origins_of B
    unfolding first_key
    runner-in = ⊎_elim (λ h. h)
        (λ h. let w = A.had in clash (eq-eqb _ _ (counts w.0 ∙ w.3)) (first-none test (origins_of B) (omega (arith, is, h)) w.0 w.1))
        (compared k (origins_of B))

    runner-hits : hits_at_key B E ts S.from k ≡ S.next
    unfolding first_key
    runner-hits = sym (counts k) ∙ eqb-true _ _ (ap test is ∙ first_passes test (origins_of B) (omega (arith, is, runner-in)))

    runner-least : (l : ℕ) → l < k → hits_at_key B E ts S.from l ≡ S.next → ⊥
    unfolding first_key
    runner-least l h e = clash (eq-eqb _ _ (counts l ∙ e)) (first-before test (origins_of B) l (omega (arith, is, h)))

  -- ---- the four answers to an accepted list
  module _ (limit : Float) (few : size E ≤ 8192) (told : no_confidence E ≡ false) where
    bound : (p k : ℕ) → hits_at_key B E ts p k ≤ size E
    bound p k = hits-le B E (get_or ts p 0) (k / (3 * period_of B false)) (k % (3 * period_of B false))

    pub best-few : S.best ≤ size E
    best-few = best-le (length ts) (origins_of B) (size E) limit (hits_at_key B E ts) S A few bound

    pub answers-11 : (r : LocateAnswer) → over_limit (size E) limit S.best ≡ true → r ≡ Err (numbered why.none_within_limit) → LocatedAs B E ts limit r
    answers-11 r o e = subst (LocatedAs B E ts limit) (sym e) (inr (told, inl (refl, none_within (length ts) (origins_of B) (size E) limit (hits_at_key B E ts) S A few bound o)))

    module _ (o : over_limit (size E) limit S.best ≡ false) where
      pub answers-13 : (r : LocateAnswer) → passed (size E) S.best S.next ≡ false → r ≡ Err (numbered why.not_far_ahead) → LocatedAs B E ts limit r
      answers-13 r g e =
          subst (LocatedAs B E ts limit) (sym e)
          (inr (told, inr (refl, some-within (length ts) (origins_of B) (size E) limit (hits_at_key B E ts) S A few bound o, none_ahead (length ts) (origins_of B) (size E) limit (hits_at_key B E ts) S A few bound g)))

      pub answers-found : (k : ℕ) (a b : Square) → passed (size E) S.best S.next ≡ true → k ≡ first_key B (bare E) (get_or ts S.from 0) S.next
          → a ≡ square_at B ts S.listed S.key → b ≡ square_at B ts S.from k → LocatedAs B E ts limit (Ok (record { square = a; hits = S.best; runner_up = b; runner_up_hits = S.next }))
      answers-found k a b g is x y = (
        told,
        record {
          listed = S.listed;
          key = S.key;
          other_listed = S.from;
          other_key = k;
          sole = sole (length ts) (origins_of B) (size E) limit (hits_at_key B E ts) S A few bound g o;
          square = x;
          hits = sym A.at;
          runner-up = y;
          others = first-other (length ts) (origins_of B) (size E) limit (hits_at_key B E ts) S A few bound g k (runner-in k is) (runner-hits k is) (runner-least k is);
        },
      )

pub answers-10 : (B : Board) (E : EdgeList) (ts : List ℕ) (limit : Float) (r : LocateAnswer) → no_confidence E ≡ true → r ≡ Err (numbered why.no_confidence) → LocatedAs B E ts limit r
answers-10 B E ts limit r h e = subst (LocatedAs B E ts limit) (sym e) (inl (h, refl))

-- ---- the two ends of a call
module _ (B : Board) (E : EdgeList) (ts : List ℕ) (limit : Float) (a : Admission) (e : a ≡ locate_admission E ts B limit) where
  pub done_refused : (r : Refusal) (x : LocateAnswer) → a ≡ Err r → x ≡ Err r → LocateDone B E ts limit x
  done_refused r x n k = record { done = rw (sym e ∙ n) k }

  pub done-accepted : (x : LocateAnswer) → a ≡ accepted → LocatedAs B E ts limit x → LocateDone B E ts limit x
  done-accepted x n k = record { done = rw (sym e ∙ n) k }
