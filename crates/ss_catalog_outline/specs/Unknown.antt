-- Unknown names: those in fields that name nothing.
use Rattle.std.specs.Prelude.{ℕ, List, [], ◌∷◌, ◌++◌, map, Bool, not, Option, option_map}
use Rattle.std.specs.List.{find, flat_map}
use Rattle.ss_catalog_outline.specs.declared.types.PlacementOutline.{PlacementOutline}
use Rattle.ss_catalog_outline.specs.declared.types.PlacementOutline.TheVariants.{Part, By}
use Rattle.ss_catalog_outline.specs.declared.types.TableOutline.{TableOutline}
use Rattle.ss_catalog_outline.specs.declared.types.WindowOutline.{WindowOutline}
use Rattle.ss_catalog_outline.specs.declared.types.TriggerOutline.{TriggerOutline}
use Rattle.ss_catalog_outline.specs.declared.types.TouchOutline.{TouchOutline}
use Rattle.ss_catalog_outline.specs.declared.types.TouchOutline.TheVariants.{Part as TouchPart, Arg as TouchArg, Multi, All}
use Rattle.ss_catalog_outline.specs.declared.types.GivenOutline.{GivenOutline}
use Rattle.ss_catalog_outline.specs.declared.types.GivenOutline.TheVariants.{Value as GivenValue, Arg as GivenArg}
use Rattle.ss_catalog_outline.specs.declared.types.StepOutline.{StepOutline}
use Rattle.ss_catalog_outline.specs.declared.types.StepOutline.TheVariants.{Insert, ReturnAll, Sql, AbortIf, ForEach, Emit, Return}
use Rattle.ss_catalog_outline.specs.declared.types.ProcedureOutline.{ProcedureOutline}
use Rattle.ss_catalog_outline.specs.declared.types.Outline.{Outline}
use Rattle.ss_names.specs.Names.{is_among, itself, column_name}
use Rattle.ss_catalog_outline.specs.Names.{table_name, stream_name, window_name, procedure_name}

-- a use of a name, with the names that are known there
pub record Used : Type 0 where
  pub known : List (List ℕ)
  pub name : List ℕ

-- the uses in a list whose items each name one of these
abbrev pub names_in : {X : Type 0} → (X → List ℕ) → List (List ℕ) → List X → List Used
names_in name known = map (λ x. record { known = known; name = name x })

-- ---- tables, windows and triggers

-- a split column is a column of the key
abbrev pub placement_uses : List (List ℕ) → PlacementOutline → List Used
placement_uses key (Part p) = []
placement_uses key (By c) = names_in itself key (c ∷ [])

-- a key and an index have columns of the table
abbrev pub table_uses : List (List ℕ) → List (List ℕ) → TableOutline → List Used
table_uses columns key d = names_in itself columns d.key ++ placement_uses key d.placement ++ flat_map (names_in itself columns) d.indexes

abbrev pub own_table_uses : TableOutline → List Used
own_table_uses d = table_uses (map column_name d.columns) d.key d

abbrev pub owner : WindowOutline → List ℕ
owner d = d.owner

abbrev pub waits_on : TriggerOutline → List ℕ
waits_on t = t.on

-- ---- procedures

-- what the fields of a procedure may name
pub record Scope : Type 0 where
  pub tables : List (List ℕ)
  pub streams : List (List ℕ)
  pub args : List (List ℕ)
  pub inputs : List (List ℕ)

abbrev pub touch_uses : Scope → TouchOutline → List Used
touch_uses s (TouchArg name) = names_in itself s.args (name ∷ [])
touch_uses s (TouchPart p) = []
touch_uses s (Multi parts) = []
touch_uses s All = []

abbrev pub given_uses : Scope → GivenOutline → List Used
given_uses s (GivenValue v) = []
given_uses s (GivenArg name) = names_in itself s.args (name ∷ [])

-- names in fields alone; SQL is not looked into
abbrev pub step_uses : Scope → StepOutline → List Used
step_uses s (Insert table values) = names_in itself s.tables (table ∷ []) ++ flat_map (given_uses s) values
step_uses s (ReturnAll table) = names_in itself s.tables (table ∷ [])
step_uses s (ForEach stream body) = names_in itself s.inputs (stream ∷ [])
step_uses s (Emit stream query) = names_in itself s.streams (stream ∷ [])
step_uses s (Sql text) = []
step_uses s (AbortIf test code) = []
step_uses s (Return query) = []

abbrev pub procedure_uses : Scope → ProcedureOutline → List Used
procedure_uses s p = names_in itself s.streams p.inputs ++ touch_uses s p.touch ++ flat_map (step_uses s) p.body

-- the tables and streams, and the procedure's own arguments and inputs
abbrev pub own_scope : List (List ℕ) → List (List ℕ) → ProcedureOutline → Scope
own_scope tables streams p = record { tables = tables; streams = streams; args = map column_name p.args; inputs = p.inputs }

abbrev pub own_procedure_uses : List (List ℕ) → List (List ℕ) → ProcedureOutline → List Used
own_procedure_uses tables streams p = procedure_uses (own_scope tables streams p) p

-- ---- the whole

-- the owner of a window is a procedure
abbrev pub windows_uses : Outline → List Used
windows_uses o = names_in owner (map procedure_name o.procedures) o.windows

-- a trigger waits for a stream or a window
abbrev pub triggers_uses : Outline → List Used
triggers_uses o = names_in waits_on (map stream_name o.streams ++ map window_name o.windows) o.triggers

abbrev pub procedures_uses : Outline → List Used
procedures_uses o = flat_map (own_procedure_uses (map table_name o.tables) (map stream_name o.streams)) o.procedures

-- all uses of names in written order
abbrev pub names_used : Outline → List Used
names_used o = flat_map own_table_uses o.tables ++ windows_uses o ++ triggers_uses o ++ procedures_uses o

-- the name is not known where it is used
abbrev pub is_unknown : Used → Bool
is_unknown u = not (is_among u.known u.name)

-- the first unknown name of these uses
abbrev pub first_unknown : List Used → Option (List ℕ)
first_unknown us = option_map (λ (u : Used). u.name) (find is_unknown us)

-- the first unknown name
abbrev pub name_unknown : Outline → Option (List ℕ)
name_unknown o = first_unknown (names_used o)
