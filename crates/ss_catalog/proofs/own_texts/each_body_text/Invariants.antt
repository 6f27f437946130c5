use Rattle.std.proofs.Common.{◌≡◌, ◌≤◌, ◌++◌, drop, false}
use Rattle.serde_json.specs.Data.{items_depth}
use Rattle.serde_json.specs.Read.{max_depth}
use Rattle.serde_json.specs.View.{items_view}
use Rattle.serde_json.specs.Written.{items_have_float}
use Rattle.ss_catalog.specs.Texts.{each_body_text}
use Rattle.ss_catalog.proofs.own_texts.each_body_text.Given as goal

abbrev pub invariant-loop-procedure : goal.invariant-loop-procedure
invariant-loop-procedure l = record {
  levels : items_depth (items_view (drop l.procedure-index l.procedures)) ≤ max_depth;
  no_float : items_have_float (items_view (drop l.procedure-index l.procedures)) ≡ false;
  texts : each_body_text (items_view l.procedures) ≡ l.texts ++ each_body_text (items_view (drop l.procedure-index l.procedures));
}
