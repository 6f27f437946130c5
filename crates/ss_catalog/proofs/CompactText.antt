-- The text of a value that is read as a catalogue is its compact text, since it has no float.
use Rattle.std.proofs.Common.{◌≡◌, ℕ, List, ap, ◌∙◌}
use Rattle.json.specs.Print.{print}
use Rattle.serde_json.specs.Data.{Data}
use Rattle.serde_json.specs.Written.{compact_text}
use Rattle.serde_json.proofs.Texts.{tokens_from_order, print-outline}
use Rattle.ss_catalog_outline.specs.declared.types.Outline.{Outline}
use Rattle.ss_catalog.specs.Texts.{IsCompactTextOf}
use Rattle.ss_catalog.specs.Checks.{IsShaped}
use Rattle.ss_catalog.proofs.InOrder.{read_in_order}
use Rattle.ss_catalog.proofs.OutlineNoFloats.{outline_has_no_float}

pub the_compact_text : (d : Data) (o : Outline) (text : List ℕ) → IsShaped d o → IsCompactTextOf d text → text ≡ compact_text d
the_compact_text d o text shaped h =
    h.compact ∙ ap print (tokens_from_order text d h.order (outline_has_no_float d o (read_in_order text d h.reads_back) shaped)) ∙ print-outline d
