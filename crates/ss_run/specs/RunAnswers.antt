-- Which lists answer which requests.
use Rattle.std.specs.Prelude.{Bool, not, List, map}
use Rattle.std.specs.List.{filter, list_all}
use Rattle.ss_model.specs.declared.catalog.Catalog.{Catalog}
use Rattle.ss_model.specs.declared.entry.Entry.{Entry}
use Rattle.ss_model.specs.declared.entry.Listed.{Listed}
use Rattle.ss_model.specs.declared.entry.Request.{Request}
use Rattle.ss_model.specs.Database.{fits_entry}
use Rattle.ss_model.specs.Report.{asked_entries, is_step}
use Rattle.ss_report_laws.specs.PartOf.{IsPartOf}

-- whether each request names what the catalogue has, with arguments or rows that fit it
abbrev pub all_fit : Catalog → List Request → Bool
all_fit catalog requests = list_all (fits_entry catalog) (asked_entries requests)

-- the entries of a list that clients asked for
abbrev pub client_entries : List Listed → List Entry
client_entries list = filter (λ e. not (is_step e)) (map (λ (l : Listed). l.entry) list)

-- the entries that clients asked for are those of the requests, in order, without some of them
abbrev pub AnswersInOrder : List Request → List Listed → Type 0
AnswersInOrder requests list = IsPartOf (client_entries list) (asked_entries requests)
