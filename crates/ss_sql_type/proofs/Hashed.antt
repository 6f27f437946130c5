-- Columns by name, and what one more entry does to a set of positions.
use Rattle.std.proofs.Common.{◌≡◌, ℕ, ◌+◌, ◌<◌, add-one, get_or, take, sym, ap, ◌∙◌, refl, Bool, true, false, List, [], ◌∷◌, Some, length, map}
use Rattle.std.specs.Prelude.{cond, position, ◌||◌}
use Rattle.std.specs.List.{list_any, position_from}
use Rattle.std.specs.Str.{bytes_eq}
use Rattle.std.proofs.Math.Seq.{take-suc}
use Rattle.std.proofs.lemmas.Cmp.{nat_list_eq_equiv}
use Rattle.std.proofs.lemmas.Iterator.Adapters.{position_from-zero}
use Rattle.std.proofs.lemmas.List.Folds.{list_any-append}
use Rattle.ss_value.specs.declared.schema.Column.{Column}
use Rattle.ss_names.specs.Names.{column_name}
use Rattle.ss_sql_trees.specs.declared.typed.ColAt.{ColAt}
use Rattle.ss_sql_trees.specs.WellTyped.{is_column}
use Rattle.ss_sql_type.specs.Names.{same_name, column_named}

-- the column with a name stands where its name stands, of lists that start at position i
named_from : (columns : List Column) (name : List ℕ) (i : ℕ) → position_from (bytes_eq name) i (map column_name columns) ≡ position_from (λ (c : Column). same_name c.name name) i columns
named_from [] name i = refl
named_from (c ∷ cs) name i =
    ap (λ b. cond b (Some i) (position_from (bytes_eq name) (i + 1) (map column_name cs))) (nat_list_eq_equiv.symm name c.name)
    ∙ ap (cond (same_name c.name name) (Some i)) (named_from cs name (i + 1))

-- the column with a name stands where its name stands
pub column_named_is : (columns : List Column) (name : List ℕ) → position (bytes_eq name) (map column_name columns) ≡ column_named columns name
column_named_is columns name =
    position_from-zero (bytes_eq name) (map column_name columns)
    ∙ named_from columns name 0
    ∙ sym (position_from-zero (λ (c : Column). same_name c.name name) columns)

-- a set with the position of one column more
pub set_step : (columns : List ColAt) (i : ℕ) (d : ColAt) (source column : ℕ) (old new : Bool) → i < length columns → old ≡ list_any (λ g. is_column g source column) (take i columns) → new ≡ cond (is_column (get_or columns i d) source column) true old → new ≡ list_any (λ g. is_column g source column) (take (i + 1) columns)
set_step columns i d source column old new h before noted =
    let test = λ (g : ColAt). is_column g source column in
    let g = get_or columns i d in
    noted
    ∙ last (test g) old
    ∙ ap (λ b. b || list_any test (g ∷ [])) before
    ∙ sym (list_any-append test (take i columns) (g ∷ []))
    ∙ ap (list_any test) (sym (rw add-one (take-suc columns i d h)))
  where
    last : (b old : Bool) → cond b true old ≡ (old || (b || false))
    last true true = refl
    last true false = refl
    last false true = refl
    last false false = refl
