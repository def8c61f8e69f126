use Rattle.scan.proofs.record.is_ahead.Goals as goal

pub returns-then-lead : goal.returns-then-lead
returns-then-lead c = simp c.if-lead.true c.beats.ensures
