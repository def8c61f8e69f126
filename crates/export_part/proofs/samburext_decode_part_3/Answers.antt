use Rattle.export_part.proofs.samburext_decode_part_3.Goals as goal

pub returns : goal.returns
returns c = record { told = c.decode_part-answer.result; done = c.decode_part-answer.ensures; shown = c.flattened_part.ensures }
