use Rattle.export_locate.proofs.samburext_locate_3.Goals as goal

pub returns : goal.returns
returns c = record { told = c.locate-answer.result; done = c.locate-answer.ensures; shown = c.flattened_located.ensures }
