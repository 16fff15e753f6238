use Rattle.vt_store.proofs.strip.make_strip.Goals as goal

pub strip_size-size-requires-clause-shape : goal.strip_size-size-requires-clause-shape
strip_size-size-requires-clause-shape g c = c.requires.next.shape

pub strip_size-size-requires-clause-strip : goal.strip_size-size-requires-clause-strip
strip_size-size-requires-clause-strip g c = c.requires.next.inside
