use Rattle.part_scan.specs.KeptLaws.{second-early, second-late, second-fewer}
use Rattle.part_scan.proofs.kept.second_of.Goals as goal

pub returns-then-r-w : goal.returns-then-r-w
returns-then-r-w c = second-early c.args.w c.args.r _ _ c.hits_of.ensures c.hits_of-2.ensures c.if-hits_of.true c.if-r-w.true

pub returns-else-r-w : goal.returns-else-r-w
returns-else-r-w c = second-late c.args.w c.args.r _ _ c.hits_of.ensures c.hits_of-2.ensures c.if-hits_of.true c.if-r-w.false

pub returns-else-hits_of : goal.returns-else-hits_of
returns-else-hits_of c = second-fewer c.args.w c.args.r _ _ c.hits_of.ensures c.hits_of-2.ensures c.if-hits_of.false
