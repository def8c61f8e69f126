use Rattle.level.specs.Sums.{sums}
use Rattle.pair.specs.PairLaws.{two-small}
use Rattle.soft.specs.ScanLaws.{folded}
use Rattle.soft.proofs.record.fold_transform.Goals as goal

pub candidate_of-winner-requires : goal.candidate_of-winner-requires
candidate_of-winner-requires c =
    (c.requires.period.0, c.requires.period.1, c.requires.period.2, (two-small _ _ c.requires.period.0 c.requires.period.1 _ _ c.requires.period.2 _ c.two_best-two.ensures).0)

pub candidate_of-second-requires : goal.candidate_of-second-requires
candidate_of-second-requires c =
    (c.requires.period.0, c.requires.period.1, c.requires.period.2, (two-small _ _ c.requires.period.0 c.requires.period.1 _ _ c.requires.period.2 _ c.two_best-two.ensures).1)

pub returns : goal.returns
returns c =
    folded _ _ (sums c.args.hs.now c.args.vs.now) c.args.scan c.offer-one.result c.offer-both.result c.two_best-two.result _ _ c.two_best-two.ensures c.candidate_of-winner.ensures c.candidate_of-second.ensures c.offer-one.ensures c.offer-both.ensures
