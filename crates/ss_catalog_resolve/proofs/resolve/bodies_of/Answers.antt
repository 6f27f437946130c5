use Rattle.std.proofs.Common.{◌≡◌, ◌∙◌, length, ap, subst, map, arith}
use Rattle.std.proofs.lemmas.List.{length-map}
use Rattle.ss_catalog_outline.specs.declared.types.Outline.{Outline}
use Rattle.ss_catalog_outline.specs.Names.{procedure_name}
use Rattle.ss_catalog_resolve.specs.declared.definitions.Sections.{Sections}
use Rattle.ss_catalog_resolve.specs.Numbered.{table_of, window_of}
use Rattle.ss_catalog_resolve.specs.Answers.{Answers}
use Rattle.ss_catalog_resolve.specs.Bodies.{BodiesRead}
use Rattle.ss_catalog_resolve.proofs.Narrow.{few_tables, few_windows}
use Rattle.ss_catalog_resolve.proofs.resolve.bodies_of.Goals as goal

pub shared_scope-requires-clause-tables : goal.shared_scope-requires-clause-tables
shared_scope-requires-clause-tables c =
    let o = c.args.outline.now in
    let few = few_tables o c.requires.few in
    let same : length c.args.sections.now.tables ≡ length o.tables = ap (λ (s : Sections). length s.tables) c.requires.sections ∙ length-map o.tables table_of in
    omega arith

pub shared_scope-requires-clause-windows : goal.shared_scope-requires-clause-windows
shared_scope-requires-clause-windows c =
    let o = c.args.outline.now in
    let few = few_windows o c.requires.few in
    let same : length c.args.sections.now.windows ≡ length o.windows = ap (λ (s : Sections). length s.windows) c.requires.sections ∙ length-map o.windows (window_of (map procedure_name o.procedures)) in
    omega arith

pub returns : goal.returns
returns c = subst (λ (o : Outline). Answers (BodiesRead o) c.bodies.result) c.in_ok-names.ensures c.bodies.ensures
