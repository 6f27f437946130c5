-- What a report says of how a run ended.
use Rattle.std.specs.Prelude.{◌≡◌, ◌==◌, ◌++◌, ℕ, cond, List, []}
use Rattle.serde_json.specs.Data.{Data}
use Rattle.ss_model.specs.declared.catalog.Catalog.{Catalog}
use Rattle.ss_model.specs.declared.entry.Answer.{Answer}
use Rattle.ss_model.specs.declared.entry.Answer.TheVariants.{NoMemory, ListFull, Halted}
use Rattle.ss_model.specs.declared.entry.Listed.{Listed}
use Rattle.ss_model.specs.declared.entry.Request.{Request}
use Rattle.ss_model.specs.Contents.{Table}
use Rattle.ss_model.specs.Database.{Database, empty_database}
use Rattle.ss_model.specs.Replays.{after}
use Rattle.ss_model.specs.Report.{Stop, Whole, Stopped, reply_lines, report_text, voter_text}
use Rattle.ss_model.specs.ReportLines.{list_lines}
use Rattle.ss_shard.specs.Contents.{tables_of}
use Rattle.ss_shard.specs.Shards.{HasTables}
use Rattle.ss_report_laws.specs.Replies.{weave}
use Rattle.ss_report.specs.declared.run_end.End.{End}
use Rattle.ss_report.specs.declared.run_end.End.TheVariants.{Tables as TablesEnd, Stopped as StoppedEnd, Voter as VoterEnd}

-- the answer to a request that has none: at status 5 that the disk has failed, at status 9 that the list is full, and else that there was no memory
abbrev pub missing_answer : End → Answer
missing_answer (StoppedEnd status count faults) = cond (status == 5) (Halted faults) (cond (status == 9) (ListFull count) NoMemory)
missing_answer end = NoMemory

-- the replies in the order of the input, and behind them the entries, of which the first has this place
abbrev pub report_lines : Catalog → List Request → List Answer → ℕ → List Listed → List Data
report_lines catalog requests answers first list = reply_lines catalog requests answers ++ list_lines catalog first list

-- a database with these tables, and nothing else
abbrev pub with_tables : Catalog → List Table → Database
with_tables catalog tables = record (empty_database catalog) { contents = record { tables = tables; windows = [] } }

-- the tables of an end, if it has some, are of the catalogue's keys and limits
abbrev pub HasEndTables : Catalog → End → Type 0
HasEndTables catalog (TablesEnd database) = HasTables catalog database.whole.tables
HasEndTables catalog end = Unit {0}

-- the bytes are the report with this end: with tables, that of each database which has them after the list; with a stop, that of each
-- stop of this status and count; and else the summary
abbrev pub IsReportOf : Catalog → List Request → List (List Answer) → ℕ → List Listed → End → List ℕ → Type 0
IsReportOf catalog requests answers first list (TablesEnd database) bytes =
    (db : Database) → tables_of database.whole.tables ≡ (after catalog db list).contents.tables →
    bytes ≡ report_text catalog requests (weave NoMemory requests answers) first list db Whole
IsReportOf catalog requests answers first list (StoppedEnd status count faults) bytes =
    (db : Database) (stop : Stop) → stop.status ≡ status → stop.count ≡ count →
    bytes ≡ report_text catalog requests (weave (missing_answer (StoppedEnd status count faults)) requests answers) first list db (Stopped stop)
IsReportOf catalog requests answers first list (VoterEnd votes) bytes = bytes ≡ voter_text votes list
