use Rattle.export_soft.proofs.samburext_decode_soft_3.Goals as goal

pub returns : goal.returns
returns c = record { told = c.decode_soft-answer.result; done = c.decode_soft-answer.ensures; shown = c.flattened_soft.ensures }
