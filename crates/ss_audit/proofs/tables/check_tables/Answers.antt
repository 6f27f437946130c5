use Rattle.std.proofs.Common.{◌≡◌, ◌∙◌, ◌++◌, [], ℕ, List, map, flat_map, length, Ok, sym, ap, subst}
use Rattle.std.proofs.lemmas.Result.{IfErr-weaker, err_from_is_err_and}
use Rattle.ss_lemmas.proofs.Results.{on_so}
use Rattle.ss_model.specs.declared.catalog.TableDef.{TableDef}
use Rattle.ss_model.specs.Contents.{Table}
use Rattle.ss_model.specs.Database.{Database as Model}
use Rattle.ss_model.specs.ReportLines.{database_lines, table_lines}
use Rattle.ss_shard.specs.Contents.{rows_by_key}
use Rattle.ss_report.specs.declared.tables.Defined.{Defined}
use Rattle.ss_report.specs.Lent.{defined_table}
use Rattle.ss_replay.specs.Replaying.{IsOn}
use Rattle.ss_audit_laws.specs.Checks.{all_say}
use Rattle.ss_audit.specs.declared.broken.Broken.{Broken}
use Rattle.ss_audit.specs.Breaks.{BreaksAs}
use Rattle.ss_audit.proofs.Naming.{tables_many, tables_shown}
use Rattle.ss_audit.proofs.Saying.{ComesTo, breaks_left, breaks_more, breaks_whole, said_more, told_all}
use Rattle.ss_audit.proofs.tables.check_tables.Goals as goal

pub by_name-requires : goal.by_name-requires
by_name-requires c =
    ap (λ ts. length ts) c.tables.ensures ∙ tables_many c.args.catalog.now c.args.database.now c.requires.on.0 c.requires.on.1 ∙ sym (ap (λ (ts : List TableDef). length ts) c.as_slice.ensures)

pub loop-defined-init : goal.loop-defined-init
loop-defined-init c = λ d on more.
    let catalog = c.args.catalog.now in
    let es = c.in_ok-named.named.entries in
    let shown = c.into_iter-defined-iterator.ensures.into_iter_gives ∙ c.values-defined-items.ensures.rest in
    let all = tables_shown catalog c.args.database.now d on es (rw (c.as_slice.ensures, c.tables.ensures) at c.in_ok-named.ensures) in
    ap (λ (tables : List (TableDef × Table)). all_say c.args.end (flat_map (λ t. table_lines t.0 t.1) tables ++ more) c.args.lines.now) (ap (map defined_table) shown ∙ all)

pub loop-defined-preserved : goal.loop-defined-preserved
loop-defined-preserved c = λ d on.
    let defined = c.in-Some.defined.now in
    let behind = c.next.new.self in
    said_more c.args.end (table_lines defined.def.now (rows_by_key defined.table.now.live)) (flat_map (λ t. table_lines t.0 t.1) (map defined_table behind)) (database_lines c.args.catalog.now d)
    c.loop-defined.rest.now c.in_ok-behind.behind.now c.args.lines.now c.in_ok-behind.ensures.ok
    (subst (λ (ds : List Defined). ComesTo c.args.end (flat_map (λ t. table_lines t.0 t.1) (map defined_table ds)) c.loop-defined.rest.now (database_lines c.args.catalog.now d) c.args.lines.now) c.in-Some.ensures.steps (c.loop-defined.invariant d on))

pub returns-in_err-behind-clause-broken : goal.returns-in_err-behind-clause-broken
returns-in_err-behind-clause-broken c =
    let p = err_from_is_err_and c.from_residual-in_err-behind.result c.from_residual-in_err-behind.ensures.1 in
    rw (p.1, p.2) (λ d on.
    let defined = c.in-Some.defined.now in
    let behind = c.next.new.self in
    breaks_whole c.args.end (database_lines c.args.catalog.now d) c.args.lines.now _
    (breaks_more c.args.end (table_lines defined.def.now (rows_by_key defined.table.now.live)) (flat_map (λ t. table_lines t.0 t.1) (map defined_table behind)) (database_lines c.args.catalog.now d)
    c.loop-defined.rest.now c.args.lines.now _ c.in_err-behind.ensures.broken
    (subst (λ (ds : List Defined). ComesTo c.args.end (flat_map (λ t. table_lines t.0 t.1) (map defined_table ds)) c.loop-defined.rest.now (database_lines c.args.catalog.now d) c.args.lines.now) c.in-Some.ensures.steps (c.loop-defined.invariant d on))))

pub returns-clause-ok : goal.returns-clause-ok
returns-clause-ok c =
    let lines = c.args.lines.now in
    on_so c.nothing_left.result ((end : ℕ) → all_say end [] c.loop-defined.rest.now ≡ Ok tt) ((d : Model) → IsOn c.args.catalog.now c.args.database.now d → all_say c.args.end (database_lines c.args.catalog.now d) lines ≡ Ok tt)
    (λ told d on. told_all c.args.end (database_lines c.args.catalog.now d) c.loop-defined.rest.now lines
    (subst (λ (ds : List Defined). ComesTo c.args.end (flat_map (λ t. table_lines t.0 t.1) (map defined_table ds)) c.loop-defined.rest.now (database_lines c.args.catalog.now d) lines) c.in-None.ensures.steps.0 (c.loop-defined.invariant d on))
    (told c.args.end)) c.nothing_left.ensures.ok

pub returns-clause-broken : goal.returns-clause-broken
returns-clause-broken c =
    let lines = c.args.lines.now in
    IfErr-weaker c.nothing_left.result (λ (e : Broken). (end : ℕ) → BreaksAs (all_say end [] c.loop-defined.rest.now) e) (λ (e : Broken). (d : Model) → IsOn c.args.catalog.now c.args.database.now d → BreaksAs (all_say c.args.end (database_lines c.args.catalog.now d) lines) e)
    (λ e broken d on. breaks_left c.args.end (database_lines c.args.catalog.now d) c.loop-defined.rest.now lines e
    (subst (λ (ds : List Defined). ComesTo c.args.end (flat_map (λ t. table_lines t.0 t.1) (map defined_table ds)) c.loop-defined.rest.now (database_lines c.args.catalog.now d) lines) c.in-None.ensures.steps.0 (c.loop-defined.invariant d on))
    (broken c.args.end)) c.nothing_left.ensures.broken
