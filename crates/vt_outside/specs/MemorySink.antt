-- What a sink in memory is, as callers speak of it.
use Rattle.std.specs.Prelude.{ℕ, Bool, List}
use Rattle.vt_outside.specs.Fails.{is_listed}
use Rattle.vt_outside.specs.declared.fails.Fail.{Fail}
use Rattle.vt_outside.specs.declared.fails.Fail.TheVariants.{Put}
use Rattle.vt_outside.specs.declared.memory_sink.MemorySink.{MemorySink}

-- the bytes put so far
abbrev pub sink_bytes : MemorySink → List ℕ
sink_bytes sink = sink.held.items

-- the calls that are to fail
abbrev pub sink_fails : MemorySink → List Fail
sink_fails sink = sink.fails.elements

-- how many puts were asked of it
abbrev pub sink_puts : MemorySink → ℕ
sink_puts sink = sink.puts

-- how many faults it has met
abbrev pub sink_faults : MemorySink → ℕ
sink_faults sink = sink.faults

-- how many puts it has refused for memory
abbrev pub sink_refusals : MemorySink → ℕ
sink_refusals sink = sink.refusals

-- the next put is in the list
abbrev pub is_put_listed : MemorySink → Bool
is_put_listed sink = is_listed (sink_fails sink) (Put (sink_puts sink))
