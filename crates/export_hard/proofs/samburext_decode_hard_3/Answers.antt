use Rattle.export_hard.proofs.samburext_decode_hard_3.Goals as goal

pub returns : goal.returns
returns c = record { told = c.decode_hard-answer.result; done = c.decode_hard-answer.ensures; shown = c.flattened.ensures }
