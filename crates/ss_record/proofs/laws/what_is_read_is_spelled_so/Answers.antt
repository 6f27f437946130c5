use Rattle.ss_record.proofs.RecordTakes.{record_takes}
use Rattle.ss_record.proofs.laws.what_is_read_is_spelled_so.Goals as goal

pub returns : goal.returns
returns c = λ bytes e rest are read. let takes = record_takes bytes e rest are read in (takes.0, takes.2, takes.3)
