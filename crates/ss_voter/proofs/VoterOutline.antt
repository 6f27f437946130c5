-- What the text of the voting show's catalogue is read as.
use Rattle.std.proofs.Common.{◌≡◌, ◌&&◌, ◌==◌, Bool, true, false, List, [], ◌∷◌, length, slice_get, Option, Some, None, Ok, IfOk, IfSome, refl}
use Rattle.std.specs.Float.Numeral.{scan_numeral}
use Rattle.std.specs.List.{list_all, zip}
use Rattle.json.specs.Json.{items, members, value}
use Rattle.json.specs.Lex.{lex, punctuate}
use Rattle.json.specs.Text.{content}
use Rattle.json.specs.Word.{word, after_number}
use Rattle.serde_json.specs.Read.{read, number_of}
use Rattle.ss_value.specs.declared.schema.ColType.{ColType}
use Rattle.ss_value.specs.declared.schema.ColType.TheVariants.{Int, Text}
use Rattle.ss_value.specs.declared.schema.Column.{Column}
use Rattle.ss_model.specs.declared.catalog.Catalog.{Catalog}
use Rattle.ss_model.specs.declared.catalog.Procedure.{Procedure}
use Rattle.ss_model.specs.declared.catalog.StreamDef.{StreamDef}
use Rattle.ss_model.specs.Database.{is_border_stream, is_call}
use Rattle.ss_catalog_outline.specs.declared.types.Outline.{Outline}
use Rattle.ss_catalog_outline.specs.Outlines.{read_outline}
use Rattle.ss_catalog_resolve.specs.Steps.{is_same_kind}
use Rattle.ss_nest.specs.Outlines.{plain_value, read_nests}
use Rattle.ss_voter.specs.VoterCatalog.{HasNumbers, add_number, begin_show_number, voter_text, votes_in_number}
use Rattle.ss_voter.proofs.Bodiless.{bodiless}

-- whether columns have these types, one each
abbrev pub has_kinds : List Column → List ColType → Bool
has_kinds columns kinds = (length columns == length kinds) && list_all (λ p. is_same_kind p.0.kind p.1) (zip columns kinds)

-- whether there is a call procedure with arguments of these types
abbrev pub is_call_of : List ColType → Option Procedure → Bool
is_call_of arguments None = false
is_call_of arguments (Some p) = is_call p.kind && has_kinds p.args arguments

-- whether there is a stream with columns of these types
abbrev pub is_stream_of : List ColType → Option StreamDef → Bool
is_stream_of columns None = false
is_stream_of columns (Some s) = has_kinds s.schema columns

-- what the script names is there
pub record HasTargets (catalog : Catalog) : Type 0 where
  pub begin_show : is_call_of (Int ∷ []) (slice_get catalog.procedures begin_show_number) ≡ true
  pub add : is_call_of (Int ∷ Text ∷ []) (slice_get catalog.procedures add_number) ≡ true
  pub votes_in : is_stream_of (Int ∷ Int ∷ []) (slice_get catalog.streams votes_in_number) ≡ true
  pub border : is_border_stream catalog votes_in_number ≡ true

-- an outline has it, under the numbers of its names
pub record HasScript (o : Outline) : Type 0 where
  pub targets : HasTargets (bodiless o)
  pub numbers : HasNumbers (bodiless o)

-- the text is JSON, and what it says is an outline that has it, and no nests: computed
pub voter_read : IfSome (read voter_text) (λ d. IfOk (read_outline (plain_value d)) HasScript × (read_nests d ≡ Ok []))
unfolding lex punctuate content word after_number items members value number_of scan_numeral
voter_read = (
  record {
    targets = record { begin_show = refl; add = refl; votes_in = refl; border = refl };
    numbers = record { begin_show = refl; add = refl; votes_in = refl };
  },
  refl,
)
