use borrow.Author.Tests.{lt-ltb, le-ltb}
use Rattle.tops.proofs.push.Goals as goal

pub returns-then-top-hits : goal.returns-then-top-hits
returns-then-top-hits c = simp (lt-ltb _ _ c.if-top-hits.true)

pub returns-then-top-hits-2 : goal.returns-then-top-hits-2
returns-then-top-hits-2 c = simp (le-ltb _ _ c.if-top-hits.false, lt-ltb _ _ c.if-top-hits-2.true)

pub returns : goal.returns
returns c = simp (le-ltb _ _ c.if-top-hits.false, le-ltb _ _ c.if-top-hits-2.false)
