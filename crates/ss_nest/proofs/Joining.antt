-- What is joined is what the value reads as, and is accepted.
use Rattle.std.proofs.Common.{◌≡◌, ◌∙◌, ℕ, List, [], false, Some, sym, ap, subst}
use Rattle.serde_json.specs.Data.{Data}
use Rattle.serde_json.specs.Read.{read}
use Rattle.serde_json.specs.Written.{has_float, compact_text}
use Rattle.ss_model.specs.declared.catalog.Catalog.{Catalog}
use Rattle.ss_model.specs.declared.catalog.Nest.{Nest}
use Rattle.ss_model.specs.Accepted.{Accepted}
use Rattle.ss_model.specs.Nests.{nested_catalog, NestedIsAccepted}
use Rattle.ss_catalog.specs.Texts.{IsCompactTextOf}
use Rattle.ss_catalog.proofs.CallerLemmas.{read_in_order, resolved_of}
use Rattle.ss_nest.specs.Outlines.{plain_value}
use Rattle.ss_nest.specs.Reads.{IsReadPlain, HasRightNests, ReadsNested}
use Rattle.ss_nest.proofs.AreNests.{are_nests}
use Rattle.ss_nest.proofs.Compact.{nested_floatless}
use Rattle.ss_nest.proofs.OneAnswer.{known_of, plain_of}

-- the plain catalogue has no bodies to be installed
pub plain_unspared : (d : Data) (c : Catalog) → IsReadPlain d c → c.spares ≡ []
plain_unspared d c h = (resolved_of (plain_value d) h.outline c h.passes).1.spares

module _ (d : Data) (plain : Catalog) (nests : List Nest) (text : List ℕ) (right : HasRightNests d plain nests) (made : Catalog) (is : made ≡ nested_catalog plain nests text) where
  no_float : read text ≡ Some d → has_float d ≡ false
  no_float back =
      let known = known_of d plain nests right in
      nested_floatless d plain known.0 (read_in_order text d back) (plain_of d plain nests known) known.1.1

  pub reads_joined : IsCompactTextOf d text → (has_float d ≡ false → text ≡ compact_text d) → ReadsNested d made
  reads_joined compact as_text = record {
    plain = plain;
    nests = nests;
    passes = right;
    joined = is ∙ ap (nested_catalog plain nests) (as_text (no_float compact.reads_back));
    reads_back = ap (λ (c : Catalog). read c.text) is ∙ compact.reads_back;
  }

  pub accepted_joined : Accepted plain → NestedIsAccepted → Accepted made
  accepted_joined accepted law = subst Accepted (sym is) (law plain accepted nests text (are_nests d plain nests accepted right))
