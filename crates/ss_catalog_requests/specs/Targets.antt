-- What a request's name is the name of, and what that takes.
use Rattle.std.specs.Prelude.{ℕ, List, [], Bool, false, ◌&&◌, length, slice_get, Option, Some, None, option_map, unwrap_or}
use Rattle.std.specs.List.{find, range_with_len}
use Rattle.std.specs.Str.{bytes_eq}
use Rattle.ss_value.specs.declared.schema.Column.{Column}
use Rattle.ss_model.specs.declared.catalog.Procedure.{Procedure}
use Rattle.ss_model.specs.declared.catalog.StreamDef.{StreamDef}
use Rattle.ss_model.specs.declared.catalog.Catalog.{Catalog}
use Rattle.ss_model.specs.Database.{is_call, is_border_stream}
use Rattle.ss_model.specs.Settling.{procedure_numbers}

-- whether there is a procedure, and it is a call procedure of this name
abbrev pub is_call_named : List ℕ → Option Procedure → Bool
is_call_named name None = false
is_call_named name (Some p) = bytes_eq p.name name && is_call p.kind

-- the number of the first call procedure of this name
abbrev pub call_named : Catalog → List ℕ → Option ℕ
call_named catalog name = find (λ n. is_call_named name (slice_get catalog.procedures n)) (procedure_numbers catalog)

-- whether there is a procedure, and it has this name
abbrev pub is_procedure_named : List ℕ → Option Procedure → Bool
is_procedure_named name None = false
is_procedure_named name (Some p) = bytes_eq p.name name

-- the number of the first procedure of this name, of whatever kind
abbrev pub procedure_named : Catalog → List ℕ → Option ℕ
procedure_named catalog name = find (λ n. is_procedure_named name (slice_get catalog.procedures n)) (procedure_numbers catalog)

-- whether there is a stream, and it has this name
abbrev pub is_stream_named : List ℕ → Option StreamDef → Bool
is_stream_named name None = false
is_stream_named name (Some s) = bytes_eq s.name name

-- whether a stream is a border stream of this name
abbrev pub is_border_stream_named : Catalog → List ℕ → ℕ → Bool
is_border_stream_named catalog name s = is_stream_named name (slice_get catalog.streams s) && is_border_stream catalog s

-- the number of the first border stream of this name
abbrev pub border_stream_named : Catalog → List ℕ → Option ℕ
border_stream_named catalog name = find (is_border_stream_named catalog name) (range_with_len 0 (length catalog.streams))

-- the arguments of a procedure
abbrev pub procedure_args : Catalog → ℕ → List Column
procedure_args catalog n = unwrap_or (option_map (λ p. p.args) (slice_get catalog.procedures n)) []
