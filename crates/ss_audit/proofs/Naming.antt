-- The names of tables, in the order of the report.
use Rattle.std.proofs.Common.{◌≡◌, ◌∙◌, ℕ, List, [], ◌∷◌, map, length, refl, sym, ap, Bor}
use Rattle.std.proofs.lemmas.List.{length-map}
use Rattle.std.specs.FinMap as finmap
use Rattle.std.specs.Map.{values_of}
use Rattle.ss_model.specs.declared.catalog.Catalog.{Catalog}
use Rattle.ss_model.specs.declared.catalog.TableDef.{TableDef}
use Rattle.ss_model.specs.Contents.{Table}
use Rattle.ss_model.specs.Database.{Database as Model, empty_database}
use Rattle.ss_model.specs.ReportLines.{tables_by_name}
use Rattle.ss_shard.specs.declared.database.Database.{Database}
use Rattle.ss_shard.specs.Contents.{tables_of}
use Rattle.ss_report.specs.declared.tables.Defined.{Defined}
use Rattle.ss_report.specs.Lent.{defined_table, named_table}
use Rattle.ss_report.proofs.CallerLemmas.{values_named}
use Rattle.ss_replay.specs.Replaying.{IsOn}
use Rattle.ss_audit_laws.specs.Shape.{table_names}

names_behind : (ds : List Defined) → map (λ (d : Defined). (d.def.now).name) ds ≡ map (λ (t : TableDef × Table). t.0.name) (map defined_table ds)
names_behind [] = refl
names_behind (d ∷ ds) = ap (λ (ns : List (List ℕ)). (d.def.now).name ∷ ns) (names_behind ds)

-- the program's tables are as many as the catalogue's
pub tables_many : (catalog : Catalog) (database : Database) (d : Model) → IsOn catalog database d → length database.whole.tables ≡ length catalog.tables
tables_many catalog database d on = sym (length-map database.whole.tables _) ∙ ap length on.stands.shard.contents.tables ∙ on.whole.contents.table_count

-- the tables of a map by name are those of the database
pub tables_shown : (catalog : Catalog) (database : Database) (d : Model) → IsOn catalog database d → (es : List (Bor (List ℕ) × Defined))
    → map named_table es ≡ finmap.entries (tables_by_name catalog.tables (tables_of database.whole.tables))
    → map defined_table (values_of es) ≡ finmap.values (tables_by_name catalog.tables d.contents.tables)
tables_shown catalog database d on es are =
    values_named es (tables_by_name catalog.tables d.contents.tables) (are ∙ ap (λ (ts : List Table). finmap.entries (tables_by_name catalog.tables ts)) on.stands.shard.contents.tables)

-- before all executions their names are those of the report
pub names_shown : (catalog : Catalog) (database : Database) → IsOn catalog database (empty_database catalog) → (es : List (Bor (List ℕ) × Defined))
    → map named_table es ≡ finmap.entries (tables_by_name catalog.tables (tables_of database.whole.tables))
    → map (λ (d : Defined). (d.def.now).name) (values_of es) ≡ table_names catalog
names_shown catalog database on es are = names_behind (values_of es) ∙ ap (map (λ (t : TableDef × Table). t.0.name)) (tables_shown catalog database (empty_database catalog) on es are)
