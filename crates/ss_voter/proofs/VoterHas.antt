-- What a catalogue has that the voting show's text is read as.
use Rattle.std.proofs.Common.{◌≡◌, ◌∙◌, ◌&&◌, ℕ, List, [], ◌∷◌, length, slice_get, Option, Some, Ok, IfOk, IfSome, codes, refl, ap, subst}
use Rattle.std.specs.List.{find, list_any, range_with_len}
use Rattle.serde_json.specs.Data.{Data}
use Rattle.serde_json.specs.Read.{read}
use Rattle.ss_value.specs.declared.schema.ColType.{ColType}
use Rattle.ss_value.specs.declared.schema.ColType.TheVariants.{Int, Text}
use Rattle.ss_model.specs.declared.catalog.Catalog.{Catalog}
use Rattle.ss_model.specs.declared.catalog.Nest.{Nest}
use Rattle.ss_model.specs.declared.catalog.Procedure.{Procedure}
use Rattle.ss_model.specs.declared.catalog.StreamDef.{StreamDef}
use Rattle.ss_model.specs.Database.{is_border, is_border_stream, takes_stream}
use Rattle.ss_model.specs.Nests.{nest_procedure, nested_procedures}
use Rattle.ss_model.specs.Settling.{procedure_numbers}
use Rattle.ss_catalog_json.specs.Readings.{OrFault}
use Rattle.ss_catalog_outline.specs.declared.types.Outline.{Outline}
use Rattle.ss_catalog_outline.specs.Outlines.{read_outline}
use Rattle.ss_catalog_resolve.specs.Bodies.{Resolves}
use Rattle.ss_catalog.specs.Checks.{HasRightOwners, IsResolved}
use Rattle.ss_catalog.specs.Reads.{Reads}
use Rattle.ss_catalog.proofs.CallerLemmas.{ok_same}
use Rattle.ss_catalog_requests.specs.Targets.{call_named, border_stream_named, is_border_stream_named, is_call_named, is_stream_named}
use Rattle.ss_nest.specs.Members.{nests_of}
use Rattle.ss_nest.specs.Outlines.{plain_value, read_nests}
use Rattle.ss_nest.proofs.CallerLemmas.{none_in_place}
use Rattle.ss_voter.specs.VoterCatalog.{HasNumbers, IsVoter, VoterHasNumbers, add_number, begin_show_number, voter_text, votes_in_number}
use Rattle.ss_voter.proofs.Bodiless.{alike, any_alike, as_many, bodiless, find_alike}
use Rattle.ss_voter.proofs.VoterOutline.{HasScript, HasTargets, is_call_of, is_stream_of, voter_read}

module _ (o : Outline) (catalog : Catalog) (r : Resolves o catalog) where
  -- the streams are those of the outline
  stream_is : {X : Type 0} (f : Option StreamDef → X) (n : ℕ) → f (slice_get catalog.streams n) ≡ f (slice_get (bodiless o).streams n)
  stream_is f n = ap (λ (ss : List StreamDef). f (slice_get ss n)) r.streams

  calls_alike : (kinds : List ColType) (n : ℕ) → is_call_of kinds (slice_get catalog.procedures n) ≡ is_call_of kinds (slice_get (bodiless o).procedures n)
  calls_alike kinds n = alike o (is_call_of kinds) (λ p body. refl) 0 o.procedures catalog.procedures r.procedures n

  border_alike : (s : ℕ) → is_border_stream catalog s ≡ is_border_stream (bodiless o) s
  border_alike s = any_alike o (λ (p : Procedure). is_border p.kind && takes_stream s p) (λ p body. refl) 0 o.procedures catalog.procedures r.procedures

  named_alike : (name : List ℕ) → call_named catalog name ≡ call_named (bodiless o) name
  named_alike name =
      find_alike (λ n. is_call_named name (slice_get catalog.procedures n)) (λ n. is_call_named name (slice_get (bodiless o).procedures n))
      (alike o (is_call_named name) (λ p body. refl) 0 o.procedures catalog.procedures r.procedures) (procedure_numbers catalog)
      ∙ ap (λ many. find (λ n. is_call_named name (slice_get (bodiless o).procedures n)) (range_with_len 0 many)) (as_many o 0 o.procedures catalog.procedures r.procedures)

  stream_named_alike : (name : List ℕ) → border_stream_named catalog name ≡ border_stream_named (bodiless o) name
  stream_named_alike name =
      find_alike (is_border_stream_named catalog name) (is_border_stream_named (bodiless o) name)
      (λ s. ap (λ b. b && is_border_stream catalog s) (stream_is (is_stream_named name) s)
      ∙ ap (λ b. is_stream_named name (slice_get (bodiless o).streams s) && b) (border_alike s))
      (range_with_len 0 (length catalog.streams))
      ∙ ap (λ (ss : List StreamDef). find (is_border_stream_named (bodiless o) name) (range_with_len 0 (length ss))) r.streams

  targets_of : HasTargets (bodiless o) → HasTargets catalog
  targets_of has = record {
    begin_show = calls_alike (Int ∷ []) begin_show_number ∙ has.begin_show;
    add = calls_alike (Int ∷ Text ∷ []) add_number ∙ has.add;
    votes_in = stream_is (is_stream_of (Int ∷ Int ∷ [])) votes_in_number ∙ has.votes_in;
    border = border_alike votes_in_number ∙ has.border;
  }

  numbers_of : HasNumbers (bodiless o) → HasNumbers catalog
  numbers_of has = record {
    begin_show = named_alike (codes "begin_show") ∙ has.begin_show;
    add = named_alike (codes "add") ∙ has.add;
    votes_in = stream_named_alike (codes "votes_in") ∙ has.votes_in;
  }

-- what the text says: the outline has the script's targets, and there are no nests
abbrev Says : Data → Outline → Type 0
Says d o = HasScript o × (read_nests d ≡ Ok [])

said_so : (d : Data) (o : Outline) → read_outline (plain_value d) ≡ Ok o → IfOk (read_outline (plain_value d)) HasScript × (read_nests d ≡ Ok []) → Says d o
said_so d o shaped says = (subst (λ (r : OrFault Outline). IfOk r HasScript) shaped says.0, says.1)

of_outline : (d : Data) (o : Outline) → read voter_text ≡ Some d → read_outline (plain_value d) ≡ Ok o → Says d o
of_outline d o json shaped =
    said_so d o shaped
    (subst (λ (m : Option Data). IfSome m (λ x. IfOk (read_outline (plain_value x)) HasScript × (read_nests x ≡ Ok []))) json voter_read)

-- a catalogue that has passed all checks has passed the first ones, and its SQL is read
resolved : (d : Data) (o : Outline) (catalog : Catalog) → HasRightOwners d o catalog → IsResolved d o catalog
resolved d o catalog passes = passes.0.0.0.0.0

-- ---- a catalogue with the procedures and streams of another has what that has

module _ (plain other : Catalog) (procedures : other.procedures ≡ plain.procedures) (streams : other.streams ≡ plain.streams) where
  targets_too : HasTargets plain → HasTargets other
  targets_too has = record {
    begin_show = ap (λ (ps : List Procedure). is_call_of (Int ∷ []) (slice_get ps begin_show_number)) procedures ∙ has.begin_show;
    add = ap (λ (ps : List Procedure). is_call_of (Int ∷ Text ∷ []) (slice_get ps add_number)) procedures ∙ has.add;
    votes_in = ap (λ (ss : List StreamDef). is_stream_of (Int ∷ Int ∷ []) (slice_get ss votes_in_number)) streams ∙ has.votes_in;
    border = ap (λ (ps : List Procedure). list_any (λ p. is_border p.kind && takes_stream votes_in_number p) ps) procedures ∙ has.border;
  }

  call_too : (name : List ℕ) → call_named other name ≡ call_named plain name
  call_too name = ap (λ (ps : List Procedure). find (λ n. is_call_named name (slice_get ps n)) (range_with_len 0 (length ps))) procedures

  stream_too : (name : List ℕ) → border_stream_named other name ≡ border_stream_named plain name
  stream_too name =
      λ k. find (λ s. is_stream_named name (slice_get (streams k) s) && list_any (λ p. is_border p.kind && takes_stream s p) (procedures k)) (range_with_len 0 (length (streams k)))

  numbers_too : HasNumbers plain → HasNumbers other
  numbers_too has = record {
    begin_show = call_too (codes "begin_show") ∙ has.begin_show;
    add = call_too (codes "add") ∙ has.add;
    votes_in = stream_too (codes "votes_in") ∙ has.votes_in;
  }

-- ---- the show's catalogue

module _ (catalog : Catalog) (is : IsVoter catalog) where
  abbrev plain : Catalog
  plain = is.reads.plain

  reads : Reads (plain_value is.value) plain
  reads = is.reads.passes.0.0.0.0.1.0

  whole : IsResolved (plain_value is.value) reads.outline plain
  whole = resolved (plain_value is.value) reads.outline plain reads.passes

  says : Says is.value reads.outline
  says = of_outline is.value reads.outline is.json whole.0.0.0.0

  no_nests : is.reads.nests ≡ []
  no_nests =
      let known = is.reads.passes.0.0.0.0 in
      let none : known.0 ≡ [] = ok_same (read_nests is.value) known.0 [] known.1.1 says.1 in
      ok_same (nests_of plain known.0) is.reads.nests [] known.2 (ap (nests_of plain) none)

  procedures_are : catalog.procedures ≡ plain.procedures
  procedures_are =
      ap (λ (c : Catalog). c.procedures) is.reads.joined
      ∙ ap (λ (nests : List Nest). nested_procedures plain nests 0 plain.procedures) no_nests
      ∙ none_in_place (nest_procedure plain) 0 plain.procedures

  streams_are : catalog.streams ≡ plain.streams
  streams_are = ap (λ (c : Catalog). c.streams) is.reads.joined

  pub voter_targets : HasTargets catalog
  voter_targets = targets_too plain catalog procedures_are streams_are (targets_of reads.outline plain whole.1 says.0.targets)

  voter_numbers_of : HasNumbers catalog
  voter_numbers_of = numbers_too plain catalog procedures_are streams_are (numbers_of reads.outline plain whole.1 says.0.numbers)

pub voter_numbers : VoterHasNumbers
voter_numbers = voter_numbers_of
