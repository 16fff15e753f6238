use Rattle.std.proofs.Common.{rules}
use Rattle.vt_outside.proofs.memory_sink.MemorySinkSink.put.Goals as goal

pub returns-then-met-clause-half : goal.returns-then-met-clause-half
returns-then-met-clause-half c = search rules
