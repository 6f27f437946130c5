-- What the sources and sinks over std's readers and writers hold.
use Rattle.std.specs.Prelude.{ℕ}
use Rattle.ss_lines.specs.declared.std_io.ReadSource.{ReadSource}
use Rattle.ss_lines.specs.declared.std_io.WriteSink.{WriteSink}

-- the reader that a source reads
abbrev pub reader_of : {R : Type 0} → ReadSource R → R
reader_of s = s.reader

-- how often the reader has failed
abbrev pub read_faults : {R : Type 0} → ReadSource R → ℕ
read_faults s = s.faults

-- the writer that a sink writes to
abbrev pub writer_of : {W : Type 0} → WriteSink W → W
writer_of s = s.writer

-- how often the writer has failed
abbrev pub write_faults : {W : Type 0} → WriteSink W → ℕ
write_faults s = s.faults
