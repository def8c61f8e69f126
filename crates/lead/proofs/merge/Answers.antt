use borrow.Author.Tests.{lt-ltb, le-ltb}
use Rattle.lead.proofs.merge.Goals as goal

pub returns-then-lead-peak-2 : goal.returns-then-lead-peak-2
returns-then-lead-peak-2 c = simp (lt-ltb _ _ c.if-lead-peak.true, lt-ltb _ _ c.if-lead-peak-2.true)

pub returns-then-lead-peak : goal.returns-then-lead-peak
returns-then-lead-peak c = simp (lt-ltb _ _ c.if-lead-peak.true, le-ltb _ _ c.if-lead-peak-2.false)

pub returns-then-lead-peak-3 : goal.returns-then-lead-peak-3
returns-then-lead-peak-3 c = simp (le-ltb _ _ c.if-lead-peak.false, lt-ltb _ _ c.if-lead-peak-3.true)

pub returns : goal.returns
returns c = simp (le-ltb _ _ c.if-lead-peak.false, le-ltb _ _ c.if-lead-peak-3.false)
