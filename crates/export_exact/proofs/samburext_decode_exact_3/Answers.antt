use Rattle.export_exact.proofs.samburext_decode_exact_3.Goals as goal

pub returns : goal.returns
returns c = record { told = c.decode_exact-answer.result; done = c.decode_exact-answer.ensures; shown = c.flattened_exact.ensures }
