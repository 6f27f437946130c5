use Rattle.std.proofs.Common.{◌≡◌, ◌≤◌, false, sym, subst, arith}
use Rattle.serde_json.specs.Data.{Items, depth, items_depth}
use Rattle.serde_json.specs.Read.{max_depth}
use Rattle.serde_json.specs.View.{view}
use Rattle.serde_json.specs.Written.{items_have_float}
use Rattle.ss_catalog.specs.Texts.{procedure_values}
use Rattle.ss_catalog.proofs.Inside.{procedures_depth, procedures_floatless}
use Rattle.ss_catalog.proofs.own_texts.body_texts.Goals as goal

pub each_body_text-requires-clause-levels : goal.each_body_text-requires-clause-levels
each_body_text-requires-clause-levels c =
    let less : items_depth (procedure_values (view c.args.value.now)) ≤ depth (view c.args.value.now) = procedures_depth (view c.args.value.now) in
    subst (λ (ds : Items). items_depth ds ≤ max_depth) (sym c.procedure_values.ensures) (omega arith)

pub each_body_text-requires-clause-no_float : goal.each_body_text-requires-clause-no_float
each_body_text-requires-clause-no_float c =
    subst (λ (ds : Items). items_have_float ds ≡ false) (sym c.procedure_values.ensures) (procedures_floatless (view c.args.value.now) c.requires.no_float)
