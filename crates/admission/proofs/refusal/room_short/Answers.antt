use mathlib.Core.Path.{◌≡◌, sym, ap, ◌∙◌}
use borrow.Author.Tests.{lt-ltb, le-ltb}
use Rattle.room.specs.Room.{tables_for}
use Rattle.admission.specs.Refusals.{asked_length, room_short}
use Rattle.admission.proofs.refusal.room_short.Goals.{After-tables_for-least}
use Rattle.admission.proofs.refusal.room_short.Goals as goal

pub tables_for-least-requires : goal.tables_for-least-requires
tables_for-least-requires c = c.asked_length.ensures.1

-- the least room, by the spec's words
least : (c : After-tables_for-least) → c.tables_for-least.result ≡ tables_for (asked_length c.args.l)
least c = c.tables_for-least.ensures ∙ ap tables_for c.asked_length.ensures.0

pub returns-then-counts-least : goal.returns-then-counts-least
unfolding room_short
returns-then-counts-least c = simp (sym (least c.before), lt-ltb _ _ c.if-counts-least.true)

pub returns-else-counts-least : goal.returns-else-counts-least
unfolding room_short
returns-else-counts-least c = simp (sym (least c.before), le-ltb _ _ c.if-counts-least.false)
