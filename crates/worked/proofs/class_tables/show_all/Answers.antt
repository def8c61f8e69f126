-- `show_all`: the list and both tables are accepted, for each transform.
use Rattle.std.proofs.Common.{refl, lit<}
use Rattle.worked.specs.Given.{ready}
use Rattle.worked.proofs.class_tables.show_all.Goals as goal

pub show-requires-clause-tables_ready : goal.show-requires-clause-tables_ready
show-requires-clause-tables_ready g c = ready _ _ 1 _ _ c.fill_patterns.ensures c.fill_patterns-2.ensures (lit< tt) refl refl

pub show-requires-2-clause-tables_ready : goal.show-requires-2-clause-tables_ready
show-requires-2-clause-tables_ready g c = ready _ _ 2 _ _ c.fill_patterns.ensures c.fill_patterns-2.ensures (lit< tt) c.show.ensures.0 c.show.ensures.1
