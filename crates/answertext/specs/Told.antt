-- Answers of the three decoders as one that is told.
use Rattle.std.specs.Prelude.{Option, Some, None, Err, Ok}
use Rattle.answer.specs.declared.AnyAnswer.{AnyAnswer}
use Rattle.answer.specs.declared.AnyAnswer.TheVariants as any
use Rattle.exact_answer.specs.Answers.{ExactAnswer}
use Rattle.answertext.specs.declared.shown.Shown.{Shown}
use Rattle.answertext.specs.Shown.{shown_of_hard, shown_of_soft, shown_of_exact}
use Rattle.answertext.specs.declared.told.Told.{Told}
use Rattle.answertext.specs.declared.told.Told.TheVariants as told

-- hard and soft decode's
abbrev pub told_of_any : AnyAnswer → Told
told_of_any (any.Hard d) = told.Hard d
told_of_any (any.Soft d) = told.Soft d
told_of_any (any.Refused r) = told.Refused r

-- exact decode's
abbrev pub told_of_exact : ExactAnswer → Told
told_of_exact (Ok d) = told.Exact d
told_of_exact (Err r) = told.Refused r

-- what a told answer shows; a refusal shows nothing
abbrev pub shown_of_told : Told → Option Shown
shown_of_told (told.Hard d) = Some (shown_of_hard d)
shown_of_told (told.Soft d) = Some (shown_of_soft d)
shown_of_told (told.Exact d) = Some (shown_of_exact d)
shown_of_told (told.Located s) = Some s
shown_of_told (told.Refused r) = None
