-- What holds of an outline without unknown names.
use Rattle.std.proofs.Common.{◌≡◌, ℕ, List, ◌++◌, map, true, false, None}
use Rattle.std.specs.List.{AllByRecursion, find, flat_map}
use Rattle.std.proofs.lemmas.Bool.{not-false}
use Rattle.ss_catalog_outline.specs.declared.types.PlacementOutline.{PlacementOutline}
use Rattle.ss_catalog_outline.specs.declared.types.PlacementOutline.TheVariants.{Part as PlacedAt, By}
use Rattle.ss_catalog_outline.specs.declared.types.TableOutline.{TableOutline}
use Rattle.ss_catalog_outline.specs.declared.types.WindowOutline.{WindowOutline}
use Rattle.ss_catalog_outline.specs.declared.types.TriggerOutline.{TriggerOutline}
use Rattle.ss_catalog_outline.specs.declared.types.TouchOutline.{TouchOutline}
use Rattle.ss_catalog_outline.specs.declared.types.TouchOutline.TheVariants.{Part, Arg, Multi, All}
use Rattle.ss_catalog_outline.specs.declared.types.ProcedureOutline.{ProcedureOutline}
use Rattle.ss_catalog_outline.specs.declared.types.Outline.{Outline}
use Rattle.ss_names.specs.Names.{is_among, itself, column_name}
use Rattle.ss_catalog_outline.specs.Names.{table_name, stream_name, window_name, procedure_name}
use Rattle.ss_catalog_outline.specs.Unknown.{Used, names_in, placement_uses, own_table_uses, owner, waits_on, Scope, touch_uses, step_uses, own_scope, own_procedure_uses, windows_uses, triggers_uses, procedures_uses, names_used, is_unknown, name_unknown}
use Rattle.ss_lemmas.proofs.EachOf.{all_parts, three_parts, all_flat, all_unmap, all_with, none_found, none_from_map}

-- one of these names
abbrev pub IsAmong : List (List ℕ) → List ℕ → Type 0
IsAmong names name = is_among names name ≡ true

-- a use of a name that is there
abbrev IsKnown : Used → Type 0
IsKnown u = IsAmong u.known u.name

used_known : {X : Type 0} (name : X → List ℕ) (known : List (List ℕ)) (xs : List X) → AllByRecursion IsKnown (names_in name known xs) → AllByRecursion (λ x. IsAmong known (name x)) xs
used_known name known xs all = all_unmap IsKnown (λ x. record { known = known; name = name x }) xs all

-- ---- tables

-- a split column is one of the key
abbrev pub SplitsBy : List (List ℕ) → PlacementOutline → Type 0
SplitsBy key (By name) = IsAmong key name
SplitsBy key (PlacedAt x) = Unit {0}

placement_known : (key : List (List ℕ)) (p : PlacementOutline) → AllByRecursion IsKnown (placement_uses key p) → SplitsBy key p
placement_known key (By name) all = all.0
placement_known key (PlacedAt x) all = tt

pub record TableKnown (t : TableOutline) : Type 0 where
  pub key : AllByRecursion (IsAmong (map column_name t.columns)) t.key
  pub placement : SplitsBy t.key t.placement
  pub indexes : AllByRecursion (AllByRecursion (IsAmong (map column_name t.columns))) t.indexes

table_known : (t : TableOutline) → AllByRecursion IsKnown (own_table_uses t) → TableKnown t
table_known t all =
    let columns : List (List ℕ) = map column_name t.columns in
    let parts = three_parts IsKnown (names_in itself columns t.key) (placement_uses t.key t.placement) (flat_map (names_in itself columns) t.indexes) all in
    record {
      key = used_known itself columns t.key parts.0;
      placement = placement_known t.key t.placement parts.1;
      indexes = all_with (λ ns. AllByRecursion IsKnown (names_in itself columns ns)) (AllByRecursion (IsAmong columns)) (used_known itself columns) t.indexes (all_flat IsKnown (names_in itself columns) t.indexes parts.2);
    }

-- ---- procedures

-- an argument that is touched is one of these
abbrev pub TouchesBy : List (List ℕ) → TouchOutline → Type 0
TouchesBy args (Arg name) = IsAmong args name
TouchesBy args (Part x) = Unit {0}
TouchesBy args (Multi xs) = Unit {0}
TouchesBy args All = Unit {0}

touch_known : (s : Scope) (t : TouchOutline) → AllByRecursion IsKnown (touch_uses s t) → TouchesBy s.args t
touch_known s (Arg name) all = all.0
touch_known s (Part x) all = tt
touch_known s (Multi xs) all = tt
touch_known s All all = tt

pub record ProcedureKnown (streams : List (List ℕ)) (p : ProcedureOutline) : Type 0 where
  pub inputs : AllByRecursion (IsAmong streams) p.inputs
  pub touch : TouchesBy (map column_name p.args) p.touch

procedure_known : (tables streams : List (List ℕ)) (p : ProcedureOutline) → AllByRecursion IsKnown (own_procedure_uses tables streams p) → ProcedureKnown streams p
procedure_known tables streams p all =
    let scope : Scope = own_scope tables streams p in
    let parts = three_parts IsKnown (names_in itself streams p.inputs) (touch_uses scope p.touch) (flat_map (step_uses scope) p.body) all in
    record { inputs = used_known itself streams p.inputs parts.0; touch = touch_known scope p.touch parts.1 }

-- ---- the whole

pub record OutlineKnown (o : Outline) : Type 0 where
  pub tables : AllByRecursion TableKnown o.tables
  pub windows : AllByRecursion (λ (w : WindowOutline). IsAmong (map procedure_name o.procedures) w.owner) o.windows
  pub triggers : AllByRecursion (λ (t : TriggerOutline). IsAmong (map stream_name o.streams ++ map window_name o.windows) t.on) o.triggers
  pub procedures : AllByRecursion (ProcedureKnown (map stream_name o.streams)) o.procedures

names_known : (o : Outline) → AllByRecursion IsKnown (names_used o) → OutlineKnown o
names_known o all =
    let tables : List (List ℕ) = map table_name o.tables in
    let streams : List (List ℕ) = map stream_name o.streams in
    let last = all_parts IsKnown (flat_map own_table_uses o.tables ++ windows_uses o ++ triggers_uses o) (procedures_uses o) all in
    let parts = three_parts IsKnown (flat_map own_table_uses o.tables) (windows_uses o) (triggers_uses o) last.0 in
    record {
      tables = all_with (λ t. AllByRecursion IsKnown (own_table_uses t)) TableKnown table_known o.tables (all_flat IsKnown own_table_uses o.tables parts.0);
      windows = used_known owner (map procedure_name o.procedures) o.windows parts.1;
      triggers = used_known waits_on (streams ++ map window_name o.windows) o.triggers parts.2;
      procedures = all_with (λ p. AllByRecursion IsKnown (own_procedure_uses tables streams p)) (ProcedureKnown streams) (procedure_known tables streams) o.procedures (all_flat IsKnown (own_procedure_uses tables streams) o.procedures last.1);
    }

pub outline_known : (o : Outline) → name_unknown o ≡ None → OutlineKnown o
outline_known o e =
    names_known o (all_with (λ u. is_unknown u ≡ false) IsKnown (λ u h. not-false (is_among u.known u.name) h) (names_used o)
    (none_found is_unknown (names_used o) (none_from_map (λ (u : Used). u.name) (find is_unknown (names_used o)) e)))
