-- Duplicate names.
use Rattle.std.specs.Prelude.{ℕ, List, [], ◌∷◌, ◌++◌, map, Bool, Option, option_map, codes, decimal}
use Rattle.std.specs.List.{find, flat_map}
use Rattle.ss_catalog_outline.specs.declared.types.TableOutline.{TableOutline}
use Rattle.ss_catalog_outline.specs.declared.types.StreamOutline.{StreamOutline}
use Rattle.ss_catalog_outline.specs.declared.types.WindowOutline.{WindowOutline}
use Rattle.ss_catalog_outline.specs.declared.types.TouchOutline.{TouchOutline}
use Rattle.ss_catalog_outline.specs.declared.types.TouchOutline.TheVariants.{Part, Arg, Multi, All}
use Rattle.ss_catalog_outline.specs.declared.types.ProcedureOutline.{ProcedureOutline}
use Rattle.ss_catalog_outline.specs.declared.types.Outline.{Outline}
use Rattle.ss_names.specs.Names.{is_among, itself, column_name}
use Rattle.ss_catalog_outline.specs.Names.{table_name, stream_name, window_name, trigger_name, procedure_name}

-- an occurrence of a name, with the names of its kind or list that come before it
pub record Standing : Type 0 where
  pub before : List (List ℕ)
  pub name : List ℕ

-- the occurrences in a list that comes behind these names: of each item its own name, and then the names inside it
abbrev pub standing_behind : {X : Type 0} → (X → List ℕ) → (X → List Standing) → List (List ℕ) → List X → List Standing
standing_behind name inside before [] = []
standing_behind name inside before (x ∷ xs) =
    record { before = before; name = name x } ∷ inside x ++ standing_behind name inside (before ++ name x ∷ []) xs

-- the occurrences in a list by itself, whose items have no names inside
abbrev pub standing : {X : Type 0} → (X → List ℕ) → List X → List Standing
standing name = standing_behind name (λ x. []) []

abbrev pub table_inside : TableOutline → List Standing
table_inside d = standing column_name d.columns ++ standing itself d.key ++ flat_map (standing itself) d.indexes

abbrev pub stream_inside : StreamOutline → List Standing
stream_inside d = standing column_name d.columns

abbrev pub window_inside : WindowOutline → List Standing
window_inside d = standing column_name d.columns

-- the parts of a `multi`, as they are printed
abbrev pub touch_words : TouchOutline → List (List ℕ)
touch_words (Multi parts) = map decimal parts
touch_words (Part p) = []
touch_words (Arg name) = []
touch_words All = []

abbrev pub procedure_inside : ProcedureOutline → List Standing
procedure_inside p = standing column_name p.args ++ standing itself p.inputs ++ standing itself (touch_words p.touch)

-- tables, streams and windows share one space of names, in which `inserted` is taken
abbrev pub sources_standing : Outline → List Standing
sources_standing o =
    standing_behind table_name table_inside (codes "inserted" ∷ []) o.tables
    ++ standing_behind stream_name stream_inside (codes "inserted" ∷ map table_name o.tables) o.streams
    ++ standing_behind window_name window_inside (codes "inserted" ∷ map table_name o.tables ++ map stream_name o.streams) o.windows

-- all occurrences of names, in written order
abbrev pub names_standing : Outline → List Standing
names_standing o =
    sources_standing o ++ standing trigger_name o.triggers ++ standing_behind procedure_name procedure_inside [] o.procedures

-- the name occurred before
abbrev pub is_twice : Standing → Bool
is_twice s = is_among s.before s.name

-- the first of these names that occurred before
abbrev pub first_twice : List Standing → Option (List ℕ)
first_twice ss = option_map (λ (s : Standing). s.name) (find is_twice ss)

-- the first duplicate name: of all second occurrences the first counts
abbrev pub name_twice : Outline → Option (List ℕ)
name_twice o = first_twice (names_standing o)
