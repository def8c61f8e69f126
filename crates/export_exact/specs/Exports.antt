-- What the exported exact decode promises for all inputs: the public library's answer as a struct, and the lent room as the public library leaves it.
use Rattle.std.specs.Prelude.{◌≡◌, List, ℕ}
use Rattle.admission.specs.Calls.{HardCall}
use Rattle.exact_answer.specs.Answers.{ExactAnswer}
use Rattle.decode_exact.specs.ExactAnswer.{ExactCallDone}
use Rattle.flat_exact.specs.declared.FlatExact.{FlatExact}
use Rattle.flat_exact.specs.FlatExact.{flat_exact}

-- exact decode: r is the struct of what `decode_exact` promises to tell, and both room slices are what it promises to leave
pub record ExactFlat (call : HardCall) (c c' : List ℕ) (u u' : List ℕ) (r : FlatExact) : Type 0 where
  pub told : ExactAnswer
  pub done : ExactCallDone call c c' u u' told
  pub shown : r ≡ flat_exact told
