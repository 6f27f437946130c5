-- The catalogue of the voting show, and the numbers that names have in it.
use Rattle.std.specs.Prelude.{◌≡◌, ℕ, List, Some, codes}
use Rattle.serde_json.specs.Data.{Data}
use Rattle.serde_json.specs.Read.{read}
use Rattle.ss_model.specs.declared.catalog.Catalog.{Catalog}
use Rattle.ss_catalog_requests.specs.Targets.{call_named, border_stream_named}
use Rattle.ss_nest.specs.Reads.{ReadsNested}
use Rattle.ss_voter.specs.declared.catalog.TheConstants.{VOTER}

-- its text: the first line of an input
abbrev pub voter_text : List ℕ
voter_text = VOTER.now

-- a catalogue that this text is read as
pub record IsVoter (catalog : Catalog) : Type 0 where
  pub value : Data
  pub json : read voter_text ≡ Some value
  pub reads : ReadsNested value catalog

-- ---- what the script names

abbrev pub begin_show_number : ℕ
begin_show_number = 0

abbrev pub add_number : ℕ
add_number = 1

abbrev pub votes_in_number : ℕ
votes_in_number = 0

-- these are the numbers that requests get for these names
pub record HasNumbers (catalog : Catalog) : Type 0 where
  pub begin_show : call_named catalog (codes "begin_show") ≡ Some begin_show_number
  pub add : call_named catalog (codes "add") ≡ Some add_number
  pub votes_in : border_stream_named catalog (codes "votes_in") ≡ Some votes_in_number

-- law: in the catalogue of the voting show they are
abbrev pub VoterHasNumbers : Type 0
VoterHasNumbers = (catalog : Catalog) → IsVoter catalog → HasNumbers catalog
