-- `found_bad`: each way out is a law, under the tests that were left behind.
use Rattle.answer_checks.specs.FoundBadLaws.{no_edges_lem, many-edges, many-hits, by-runner-up}
use Rattle.answer_checks.proofs.found_bad.Goals as goal

pub returns-then-edges-eq0 : goal.returns-then-edges-eq0
returns-then-edges-eq0 c = no_edges_lem _ c.if-edges-eq0.true

pub returns-then-edges-gt8192 : goal.returns-then-edges-gt8192
returns-then-edges-gt8192 c = many-edges _ c.if-edges-eq0.false c.if-edges-gt8192.true

pub returns-then-hits-edges : goal.returns-then-hits-edges
returns-then-hits-edges c = many-hits _ c.if-edges-eq0.false c.if-edges-gt8192.false c.if-hits-edges.true

pub returns : goal.returns
returns c = by-runner-up _ c.if-edges-eq0.false c.if-edges-gt8192.false c.if-hits-edges.false
