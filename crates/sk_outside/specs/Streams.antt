-- What a source and a sink over std show: what they stand on, and their counts of faults.
use Rattle.std.specs.Prelude.{ℕ}
use Rattle.sk_outside.specs.declared.stdio.StdSource.{StdSource}
use Rattle.sk_outside.specs.declared.stdio.StdSink.{StdSink}

abbrev pub reader_of : {R : Type 0} → StdSource R → R
reader_of source = source.reader

abbrev pub source_count : {R : Type 0} → StdSource R → ℕ
source_count source = source.faults

abbrev pub writer_of : {W : Type 0} → StdSink W → W
writer_of sink = sink.writer

abbrev pub sink_count : {W : Type 0} → StdSink W → ℕ
sink_count sink = sink.faults
