use Rattle.std.proofs.Common.{◌∙◌, ap, None, List}
use Rattle.ss_value.specs.declared.schema.Column.{Column}
use Rattle.ss_sql_type.specs.declared.scope.Scope.{Scope}
use Rattle.ss_sql_type.specs.Queries.{scope_narrow}
use Rattle.ss_catalog_resolve.specs.Numbered.{inputs_of}
use Rattle.ss_catalog_resolve.specs.Steps.{columns_of_stream, stream_number}
use Rattle.ss_catalog_resolve.proofs.Narrow.{narrow_procedure, short_stream}
use Rattle.ss_catalog_resolve.proofs.insert_steps.Body.for_each_step.Goals as goal

pub read_in_order-requires-clause-narrow : goal.read_in_order-requires-clause-narrow
read_in_order-requires-clause-narrow c =
    let names = c.args.self.now.names.now in
    let o = names.outline.now in
    let columns = columns_of_stream o c.args.stream.now in
    ap (λ (cs : List Column). scope_narrow (record { sources = c.args.scope.now.sources; targets = c.args.scope.now.targets; params = cs; out = c.args.scope.now.out })) (c.replace-args.ensures.after ∙ c.in_ok-columns.ensures)
    ∙ ap (λ (s : Scope). scope_narrow (record { sources = s.sources; targets = s.targets; params = columns; out = s.out })) c.requires.sees
    ∙ narrow_procedure o names.few (inputs_of o c.args.self.now.procedure.now) columns None (short_stream o names.few (stream_number o c.args.stream.now))
