-- What is known where no name is unknown, and no count over its limit.
use Rattle.std.proofs.Common.{◌≡◌, ◌≤◌, ℕ, Bool, true, false, cond, List, [], ◌∷◌, ◌++◌, length, Option, Some, None, refl, sym, ◌∙◌}
use Rattle.std.specs.Prelude.{not, option_map, slice_get, nat_lt}
use Rattle.std.specs.List.{flat_map}
use Rattle.std.specs.Option.{option_or}
use Rattle.std.proofs.lemmas.Bool.{ltb-false, or_parts}
use Rattle.ss_lemmas.proofs.Results.{neither_some}
use Rattle.ss_catalog_outline.specs.declared.types.TableOutline.{TableOutline}
use Rattle.ss_catalog_outline.specs.declared.types.Outline.{Outline}
use Rattle.ss_catalog_outline.specs.declared.limits.Counted.TheVariants.{Tables, Streams, Windows, Triggers, Procedures, Columns}
use Rattle.ss_names.specs.Names.{is_among, itself}
use Rattle.ss_catalog_outline.specs.Unknown.{Used, names_in, first_unknown, own_table_uses, windows_uses, triggers_uses, procedures_uses, name_unknown}
use Rattle.ss_catalog_outline.specs.Limits.{over_limit, has_columns_over}
use Rattle.ss_catalog_outline.proofs.CallerLemmas.{first_unknown_append}
use Rattle.ss_catalog_laws.proofs.Positions.{none_at}

neither : (a b : Option (List ℕ)) → option_or a b ≡ None → (a ≡ None) × (b ≡ None)
neither None b e = (refl, e)
neither (Some x) b e = absurd cc

-- of two lists of uses
pub known_both : (us vs : List Used) → first_unknown (us ++ vs) ≡ None → (first_unknown us ≡ None) × (first_unknown vs ≡ None)
known_both us vs e = neither (first_unknown us) (first_unknown vs) (sym (first_unknown_append us vs) ∙ e)

among_when : (u : Used) (b : Bool) → option_map (λ (v : Used). v.name) (cond (not b) (Some u) None) ≡ None → b ≡ true
among_when u true e = refl
among_when u false e = absurd cc

-- of one use
pub known_one : (known : List (List ℕ)) (name : List ℕ) → first_unknown (names_in itself known (name ∷ [])) ≡ None → is_among known name ≡ true
known_one known name e = among_when (record { known = known; name = name }) (is_among known name) e

-- all uses of procedures
pub procedures_known : (o : Outline) → name_unknown o ≡ None → first_unknown (procedures_uses o) ≡ None
procedures_known o e = (known_both (flat_map own_table_uses o.tables ++ windows_uses o ++ triggers_uses o) (procedures_uses o) e).1

-- ---- limits

few_lists : (o : Outline) → over_limit o ≡ None → has_columns_over 16 o ≡ false
few_lists o e =
    let streams = (neither_some (nat_lt 64 (length o.tables)) Tables _ e).1 in
    let windows = (neither_some (nat_lt 32 (length o.streams)) Streams _ streams).1 in
    let triggers = (neither_some (nat_lt 32 (length o.windows)) Windows _ windows).1 in
    let procedures = (neither_some (nat_lt 64 (length o.triggers)) Triggers _ triggers).1 in
    let columns = (neither_some (nat_lt 64 (length o.procedures)) Procedures _ procedures).1 in
    (neither_some (has_columns_over 16 o) Columns _ columns).0

-- a table has few columns
pub few_columns : (o : Outline) → over_limit o ≡ None → (k : ℕ) (d : TableOutline) → slice_get o.tables k ≡ Some d → length d.columns ≤ 16
few_columns o e k d at =
    let lists = few_lists o e in
    let others = (or_parts _ _ lists).0 in
    let front = (or_parts _ _ others).0 in
    let tables = (or_parts _ _ front).0 in
    ltb-false 16 (length d.columns) (none_at (λ (x : TableOutline). nat_lt 16 (length x.columns)) o.tables tables k d at)
