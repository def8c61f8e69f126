-- What an edit leaves: "A refused edit changes neither list nor record."
use Rattle.std.specs.Prelude.{◌≡◌, Bool, Err, Ok}
use Rattle.std.proofs.Common.{sym, ◌∙◌}
use Rattle.std.proofs.Math.Path.{ap}
use Rattle.board.specs.Hits.{EdgeList}
use Rattle.refusals.specs.declared.Refusal.{Refusal}
use Rattle.tally.specs.declared.Tally.{Tally}
use Rattle.tally.specs.Answers.{Judged}
use Rattle.tally.specs.Answers.{TallyAnswer}

-- the answer: the refusal, or the record that whether the edge is a hit makes
unfoldable pub answered : Judged → (Bool → Tally) → TallyAnswer
answered (Err r) f = Err r
answered (Ok hit) f = Ok (f hit)

-- the list: as it was, or edited
unfoldable pub listed : Judged → EdgeList → EdgeList → EdgeList
listed (Err r) E E' = E
listed (Ok hit) E E' = E'

-- WHAT AN EDIT PROMISES for all inputs, by its judgement j: its answer a, and all of the list L that it leaves
pub record Done (j : Judged) (f : Bool → Tally) (E E' : EdgeList) (a : TallyAnswer) (L : EdgeList) : Type 0 where
  pub answer : a ≡ answered j f
  pub list : L ≡ listed j E E'

module _ (f : Bool → Tally) (E E' : EdgeList) (j i : Judged) (given : i ≡ j) where
  pub edit-refused : (r : Refusal) → i ≡ Err r → Done j f E E' (Err r) E
  unfolding answered listed
  edit-refused r h = record { answer = ap (λ (x : Judged). answered x f) (sym h ∙ given); list = ap (λ (x : Judged). listed x E E') (sym h ∙ given) }

  pub edit-taken : (b : Bool) (T : Tally) (L : EdgeList) → i ≡ Ok b → T ≡ f b → L ≡ E' → Done j f E E' (Ok T) L
  unfolding answered listed
  edit-taken b T L h k l = record { answer = ap Ok k ∙ ap (λ (x : Judged). answered x f) (sym h ∙ given); list = l ∙ ap (λ (x : Judged). listed x E E') (sym h ∙ given) }

-- any two results that the promise allows are equal
pub edit-unique : (j : Judged) (f : Bool → Tally) (E E' : EdgeList) (a b : TallyAnswer) (L M : EdgeList) → Done j f E E' a L → Done j f E E' b M → (a ≡ b) × (L ≡ M)
edit-unique j f E E' a b L M p q = (p.answer ∙ sym q.answer, p.list ∙ sym q.list)
