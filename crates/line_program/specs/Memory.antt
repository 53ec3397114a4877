-- What contracts see of a source and a sink in memory. This project's own.
use Rattle.std.specs.Prelude.{ℕ, List, drop}
use Rattle.line_program.specs.declared.memory.MemorySource.{MemorySource}
use Rattle.line_program.specs.declared.memory.MemorySink.{MemorySink}

-- the bytes left
abbrev pub source_left : MemorySource → List ℕ
source_left source = drop source.place source.bytes.items

-- how many calls there were; it stays at 2^64 - 1 once it is there
abbrev pub source_calls : MemorySource → ℕ
source_calls source = source.calls

-- the calls that fail, counted from 1
abbrev pub source_fails : MemorySource → List ℕ
source_fails source = source.fails.items

-- how many calls failed
abbrev pub source_faults : MemorySource → ℕ
source_faults source = source.faults

-- the bytes written
abbrev pub sink_written : MemorySink → List ℕ
sink_written sink = sink.bytes.items

-- how many calls there were; it stays at 2^64 - 1 once it is there
abbrev pub sink_calls : MemorySink → ℕ
sink_calls sink = sink.calls

-- the calls that fail, counted from 1
abbrev pub sink_fails : MemorySink → List ℕ
sink_fails sink = sink.fails.items

-- how many calls failed
abbrev pub sink_faults : MemorySink → ℕ
sink_faults sink = sink.faults
