use Rattle.vt_streaming.proofs.results.stream_result.Goals as goal

pub apply_at-refused-requires-clause-entry : goal.apply_at-refused-requires-clause-entry
apply_at-refused-requires-clause-entry g c = c.requires.entry c.if-refused.false
