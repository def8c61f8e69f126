-- What a call leaves in the room that it was lent.
use Rattle.std.specs.Prelude.{List, ℕ, Err, Ok}
use Rattle.laws.specs.Words.{cleared}
use Rattle.refusals.specs.Admission.{Admission}

-- what a room slice holds at exit, of which n places are used (demand 1): "After refusals 1 to 9 the lent room is untouched; after every other call the used room is zero"
unfoldable pub left : {A : Type 0} → A → ℕ → Admission → List A → List A
left zero n (Ok _) room = cleared zero n room
left zero n (Err r) room = room
