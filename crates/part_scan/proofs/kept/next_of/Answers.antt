use Rattle.part_scan.specs.KeptLaws.{next-new, next-old}
use Rattle.part_scan.proofs.kept.next_of.Goals as goal

pub returns-then-hits_of : goal.returns-then-hits_of
returns-then-hits_of c = next-new c.args.r c.args.c _ _ c.hits_of.ensures c.hits_of-2.ensures c.if-hits_of.true

pub returns : goal.returns
returns c = next-old c.args.r c.args.c _ _ c.hits_of.ensures c.hits_of-2.ensures c.if-hits_of.false
