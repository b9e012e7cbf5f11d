-- Sources and sinks over std's readers and writers.
use Rattle.std.specs.Prelude.{ℕ, ◌-◌, List, length, take}
use Rattle.std.specs.Option.{option_map}
use Rattle.std.specs.declared.option.Option.{Option}
use Rattle.wire_io.specs.declared.real.StdSource.{StdSource}
use Rattle.wire_io.specs.declared.real.StdSink.{StdSink}

-- the reader that a source reads
abbrev pub reader_of : {R : Type 0} → StdSource R → R
reader_of source = source.reader

-- how often a source failed
abbrev pub read_faults_of : {R : Type 0} → StdSource R → ℕ
read_faults_of source = source.faults

-- the writer that a sink writes to
abbrev pub writer_of : {W : Type 0} → StdSink W → W
writer_of sink = sink.writer

-- how often a sink failed
abbrev pub write_faults_of : {W : Type 0} → StdSink W → ℕ
write_faults_of sink = sink.faults

-- how many of the last bytes that its writer took could not be flushed
abbrev pub unflushed_of : {W : Type 0} → StdSink W → ℕ
unflushed_of sink = sink.unflushed

-- the known bytes, without this many at the end
abbrev pub without_last : Option (List ℕ) → ℕ → Option (List ℕ)
without_last known count = option_map (λ bytes. take (length bytes - count) bytes) known
