-- What clients asked for among the entries of a list, and what of it are pushes.
use Rattle.std.specs.Prelude.{Bool, true, false, not, List, map}
use Rattle.std.specs.List.{filter}
use Rattle.ss_model.specs.declared.entry.Entry.{Entry}
use Rattle.ss_model.specs.declared.entry.Entry.TheVariants.{Push}
use Rattle.ss_model.specs.declared.entry.Listed.{Listed}
use Rattle.ss_model.specs.Report.{is_step}

-- the entries of a list
abbrev pub listed_entries : List Listed → List Entry
listed_entries list = map (λ (l : Listed). l.entry) list

-- the calls and pushes among entries
abbrev pub asked_of : List Entry → List Entry
asked_of entries = filter (λ (e : Entry). not (is_step e)) entries

-- whether an entry is a push
abbrev pub is_push : Entry → Bool
is_push (Push client index s source seq rows) = true
is_push _ = false

-- the pushes among entries
abbrev pub pushes_among : List Entry → List Entry
pushes_among entries = filter is_push entries

-- the pushes of a list, with their outcomes
abbrev pub pushes_of : List Listed → List Listed
pushes_of list = filter (λ (l : Listed). is_push l.entry) list
