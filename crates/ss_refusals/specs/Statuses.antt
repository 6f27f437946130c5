-- The numbers of statuses, and what is written at each.
use Rattle.std.specs.Prelude.{ℕ, List, [], ◌∷◌, ◌++◌, codes, decimal}
use Rattle.std.specs.declared.io.ErrorKind.{ErrorKind}
use Rattle.std.specs.declared.io.ErrorKind.TheVariants.{OutOfMemory}
use Rattle.serde_json.specs.Data.{Data, string}
use Rattle.ss_lines.specs.declared.line.LineError.{LineError}
use Rattle.ss_lines.specs.declared.line.LineError.TheVariants as cause
use Rattle.ss_model.specs.declared.entry.Mode.{Mode}
use Rattle.ss_model.specs.declared.entry.Mode.TheVariants.{Strong, Weak}
use Rattle.ss_model.specs.ReportLines.{array_of, count, line_text}
use Rattle.ss_catalog_outline.specs.declared.limits.Counted.{Counted}
use Rattle.ss_catalog_outline.specs.declared.limits.Counted.TheVariants.{Tables, Streams, Windows, Triggers, Procedures, Columns, Inputs, Statements, Steps}
use Rattle.ss_catalog.specs.declared.error.CatalogError.{CatalogError}
use Rattle.ss_catalog.specs.declared.error.CatalogError.TheVariants as catalog
use Rattle.ss_catalog_requests.specs.declared.request.RequestError.{RequestError}
use Rattle.ss_catalog_requests.specs.declared.request.RequestError.TheVariants as request
use Rattle.ss_nest.specs.declared.error.NestError.{NestError}
use Rattle.ss_nest.specs.declared.error.NestError.TheVariants as nested
use Rattle.ss_refusals.specs.declared.input.InputError.{InputError}
use Rattle.ss_refusals.specs.declared.input.InputError.TheVariants.{Line as OfLine, NoCatalog, Catalog as OfCatalog, Request as OfRequest}
use Rattle.ss_refusals.specs.declared.refusals.FaultIn.{FaultIn}
use Rattle.ss_refusals.specs.declared.refusals.FaultIn.TheVariants as fault_in
use Rattle.ss_refusals.specs.declared.status.Status.{Status}
use Rattle.ss_refusals.specs.declared.status.Status.TheVariants.{Done, Usage, Input, ReadFault, WriteFault, Disk, NoMemory, Foreign, OtherCatalog, Limit, OtherMode, Differs}

-- the program's exit status
abbrev pub status_number : Status → ℕ
status_number Done = 0
status_number Usage = 1
status_number Input = 2
status_number ReadFault = 3
status_number WriteFault = 4
status_number Disk = 5
status_number NoMemory = 6
status_number Foreign = 7
status_number OtherCatalog = 8
status_number Limit = 9
status_number OtherMode = 11
status_number Differs = 12

-- ---- texts

-- the bytes at status 0 where an empty disk is recovered: there were no executions
abbrev pub nothing_text : List ℕ
nothing_text = codes "[\"done\",0]\n"

-- the bytes at status 1
abbrev pub usage_text : List ℕ
usage_text = codes "[\"usage\"]\n"

-- the bytes at status 3
abbrev pub read_fault_text : List ℕ
read_fault_text = codes "[\"read_fault\"]\n"

-- the bytes at status 5 where no client had started
abbrev pub disk_fault_text : List ℕ
disk_fault_text = codes "[\"disk_fault\"]\n"

-- the bytes at status 6
abbrev pub no_memory_text : List ℕ
no_memory_text = codes "[\"no_memory\"]\n"

-- the bytes at status 7: the file that is no store's, and its first byte that can't be
abbrev pub foreign_text : ℕ → ℕ → List ℕ
foreign_text file at = line_text (array_of (string (codes "foreign") ∷ count file ∷ count at ∷ []))

-- the bytes at status 8: the text of the stored catalogue and that of the given one
abbrev pub other_catalog_text : List ℕ → List ℕ → List ℕ
other_catalog_text stored given = line_text (array_of (string (codes "other_catalog") ∷ string stored ∷ string given ∷ []))

-- the bytes at status 11: the mode of the store
abbrev pub other_mode_text : Mode → List ℕ
other_mode_text Strong = codes "[\"other_mode\",\"strong\"]\n"
other_mode_text Weak = codes "[\"other_mode\",\"weak\"]\n"

-- a refused line with its code, and what it is refused for
abbrev pub input_text : ℕ → List ℕ → List Data → List ℕ
input_text line code about = line_text (array_of (string (codes "input") ∷ count line ∷ string code ∷ about))

-- ---- the texts of refusals

-- the code of a fault of a SQL text
abbrev pub fault_code : ℕ → List ℕ
fault_code code = codes "S" ++ decimal code

-- the word for what there are too many of
abbrev pub counted_word : Counted → List ℕ
counted_word Tables = codes "tables"
counted_word Streams = codes "streams"
counted_word Windows = codes "windows"
counted_word Triggers = codes "triggers"
counted_word Procedures = codes "procedures"
counted_word Columns = codes "columns"
counted_word Inputs = codes "inputs"
counted_word Statements = codes "statements"
counted_word Steps = codes "steps"

-- the bytes of a refusal of one line's bytes, or of all bytes
abbrev pub bytes_refusal : LineError → List ℕ
bytes_refusal cause.NoMemory = no_memory_text
bytes_refusal cause.ReadFault = read_fault_text
bytes_refusal (cause.LineTooLong line) = input_text line (codes "L2") []
bytes_refusal cause.InputTooLong = input_text 0 (codes "L3") []
bytes_refusal (cause.NotJson line) = input_text line (codes "L4") []

-- what a catalogue is refused for: the code, and what it is about; out of memory has none
abbrev pub catalog_fault : CatalogError → List Data
catalog_fault catalog.NoMemory = []
catalog_fault (catalog.Shape path) = string (codes "C1") ∷ string path ∷ []
catalog_fault (catalog.Twice name) = string (codes "C2") ∷ string name ∷ []
catalog_fault (catalog.Unknown name) = string (codes "C3") ∷ string name ∷ []
catalog_fault (catalog.SqlFault name step fault) = string (codes "C4") ∷ string name ∷ count step ∷ string (fault_code fault.code) ∷ count fault.at ∷ []
catalog_fault (catalog.WorkflowCycle name) = string (codes "C5") ∷ string name ∷ []
catalog_fault (catalog.TriggerCycle name) = string (codes "C6") ∷ string name ∷ []
catalog_fault (catalog.LocalityBroken name step) = string (codes "C7") ∷ string name ∷ count step ∷ []
catalog_fault (catalog.StreamEnds name) = string (codes "C8") ∷ string name ∷ []
catalog_fault (catalog.WindowOwner name) = string (codes "C9") ∷ string name ∷ []
catalog_fault (catalog.Limit counted) = string (codes "C10") ∷ string (counted_word counted) ∷ []

-- a line that is refused for its catalogue, or for the body that it installs, whose fault is told behind the code C15
abbrev pub fault_text : FaultIn → ℕ → List Data → List ℕ
fault_text fault_in.Catalog line fault = line_text (array_of (string (codes "input") ∷ count line ∷ fault))
fault_text fault_in.Body line fault = input_text line (codes "C15") fault

-- the bytes of a refusal of the catalogue on this line, or of the body
abbrev pub catalog_refusal : ℕ → CatalogError → FaultIn → List ℕ
catalog_refusal line catalog.NoMemory fault_in.Catalog = no_memory_text
catalog_refusal line e site = fault_text site line (catalog_fault e)

-- the bytes of a refusal of the catalogue on this line, or of its nests
abbrev pub nest_refusal : ℕ → NestError → List ℕ
nest_refusal line nested.NoMemory = no_memory_text
nest_refusal line (nested.Catalog e) = catalog_refusal line e fault_in.Catalog
nest_refusal line (nested.Shape path) = input_text line (codes "N1") (string path ∷ [])
nest_refusal line (nested.Unknown name) = input_text line (codes "N2") (string name ∷ [])
nest_refusal line (nested.Twice name) = input_text line (codes "N3") (string name ∷ [])
nest_refusal line (nested.NotClosed name) = input_text line (codes "N4") (string name ∷ [])
nest_refusal line (nested.Touch name) = input_text line (codes "N5") (string name ∷ [])
nest_refusal line (nested.Window name) = input_text line (codes "N6") (string name ∷ [])

-- the bytes of a refusal of a request
abbrev pub request_refusal : RequestError → List ℕ
request_refusal request.NoMemory = no_memory_text
request_refusal (request.Shape line) = input_text line (codes "C11") []
request_refusal (request.UnknownTarget line) = input_text line (codes "C12") []
request_refusal (request.Arguments line) = input_text line (codes "C13") []
request_refusal (request.TooManyRows line) = input_text line (codes "C14") []
request_refusal (request.Nested line) = input_text line (codes "C16") []
request_refusal (request.BadBody line e) = catalog_refusal line e fault_in.Body

-- the bytes of a refusal; where there is no catalogue, that is refused as a whole, on line 1
abbrev pub refusal_text : InputError → List ℕ
refusal_text (OfLine e) = bytes_refusal e
refusal_text NoCatalog = input_text 1 (codes "C1") (string (codes "$") ∷ [])
refusal_text (OfCatalog line e) = nest_refusal line e
refusal_text (OfRequest e) = request_refusal e

-- ---- the statuses of refusals

-- the status of a refusal of one line's bytes, or of all bytes
abbrev pub bytes_status : LineError → Status
bytes_status cause.NoMemory = NoMemory
bytes_status cause.ReadFault = ReadFault
bytes_status _ = Input

-- the status of a refusal of the catalogue, or of its nests
abbrev pub catalog_status : NestError → Status
catalog_status nested.NoMemory = NoMemory
catalog_status _ = Input

-- the status of a refusal of a request
abbrev pub request_status : RequestError → Status
request_status request.NoMemory = NoMemory
request_status _ = Input

-- the status of a refusal
abbrev pub refusal_status : InputError → Status
refusal_status (OfLine e) = bytes_status e
refusal_status NoCatalog = Input
refusal_status (OfCatalog line e) = catalog_status e
refusal_status (OfRequest e) = request_status e

-- ---- the words of the command line

-- the status where the words can't be had: out of memory, or a faulty command line
abbrev pub words_status : ErrorKind → Status
words_status OutOfMemory = NoMemory
words_status _ = Usage
