use mathlib.Core.Path.{sym, ap, ◌∙◌}
use Rattle.room.specs.Room.{sums_for}
use Rattle.admission.specs.Refusals.{soft_room_short}
use Rattle.soft_admission.proofs.soft_room_short.Goals as goal

pub returns-then-room_short : goal.returns-then-room_short
unfolding soft_room_short
returns-then-room_short c = simp (sym c.room_short.ensures ∙ c.if-room_short.true)

pub sums_for-requires : goal.sums_for-requires
sums_for-requires c = c.asked_length.ensures.1

pub returns : goal.returns
unfolding soft_room_short
returns c =
    let least = c.sums_for.ensures ∙ ap sums_for c.asked_length.ensures.0 in
    simp (sym c.room_short.ensures ∙ c.if-room_short.false, sym least)
