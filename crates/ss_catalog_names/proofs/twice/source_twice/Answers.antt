use Rattle.std.proofs.Common.{◌≡◌, ◌∙◌, sym, ℕ, List, [], ◌∷◌, ◌++◌, map, Option, codes}
use Rattle.ss_lemmas.proofs.Results.{if_ok}
use Rattle.ss_catalog_outline.specs.Names.{table_name, stream_name, window_name}
use Rattle.ss_catalog_outline.specs.Twice.{standing_behind, table_inside, stream_inside, window_inside, sources_standing, first_twice}
use Rattle.ss_catalog_names.proofs.Firsts.{found, not_found}
use Rattle.ss_catalog_names.proofs.FirstTwice.{first_twice_append, among_is, seen_is}
use Rattle.ss_catalog_names.proofs.twice.source_twice.Goals as goal

pub returns-in-Some : goal.returns-in-Some
returns-in-Some c =
    let o = c.args.outline.now in
    found first_twice first_twice_append (standing_behind table_name table_inside (codes "inserted" ∷ []) o.tables ++ standing_behind stream_name stream_inside (codes "inserted" ∷ map table_name o.tables) o.streams) (standing_behind window_name window_inside (codes "inserted" ∷ map table_name o.tables ++ map stream_name o.streams) o.windows) _
    (found first_twice first_twice_append (standing_behind table_name table_inside (codes "inserted" ∷ []) o.tables) (standing_behind stream_name stream_inside (codes "inserted" ∷ map table_name o.tables) o.streams) _
    (sym c.in-Some.is ∙ among_is table_name table_inside _ _ _ _ _ c.in_ok-name.ensures.ok c.in_ok-seen.ensures c.as_slice.ensures))

pub returns-in-Some-2 : goal.returns-in-Some-2
returns-in-Some-2 c =
    let o = c.args.outline.now in
    let s1 = seen_is table_name _ _ _ _ _ _ c.in_ok-name.ensures.seen c.in_default.is c.in_ok-seen.ensures c.as_slice.ensures in
    found first_twice first_twice_append (standing_behind table_name table_inside (codes "inserted" ∷ []) o.tables ++ standing_behind stream_name stream_inside (codes "inserted" ∷ map table_name o.tables) o.streams) (standing_behind window_name window_inside (codes "inserted" ∷ map table_name o.tables ++ map stream_name o.streams) o.windows) _
    (not_found first_twice first_twice_append (standing_behind table_name table_inside (codes "inserted" ∷ []) o.tables) (standing_behind stream_name stream_inside (codes "inserted" ∷ map table_name o.tables) o.streams) _
    (sym c.in_default.is ∙ among_is table_name table_inside _ _ _ _ _ c.in_ok-name.ensures.ok c.in_ok-seen.ensures c.as_slice.ensures)
    (sym c.in-Some-2.is ∙ among_is stream_name stream_inside _ _ _ _ _ c.in_ok-name-2.ensures.ok s1 c.as_slice-2.ensures))

pub returns : goal.returns
returns c =
    let o = c.args.outline.now in
    let s1 = seen_is table_name _ _ _ _ _ _ c.in_ok-name.ensures.seen c.in_default.is c.in_ok-seen.ensures c.as_slice.ensures in
    let s2 = seen_is stream_name _ _ _ _ _ _ c.in_ok-name-2.ensures.seen c.in_default-2.is s1 c.as_slice-2.ensures in
    if_ok (λ (r : Option (List ℕ)). r ≡ first_twice (standing_behind window_name window_inside c.twice_among-2.new.seen c.as_slice-3.result.now)) (λ (r : Option (List ℕ)). r ≡ first_twice (sources_standing o))
    (λ r e. not_found first_twice first_twice_append (standing_behind table_name table_inside (codes "inserted" ∷ []) o.tables ++ standing_behind stream_name stream_inside (codes "inserted" ∷ map table_name o.tables) o.streams) (standing_behind window_name window_inside (codes "inserted" ∷ map table_name o.tables ++ map stream_name o.streams) o.windows) r
    (not_found first_twice first_twice_append (standing_behind table_name table_inside (codes "inserted" ∷ []) o.tables) (standing_behind stream_name stream_inside (codes "inserted" ∷ map table_name o.tables) o.streams) _
    (sym c.in_default.is ∙ among_is table_name table_inside _ _ _ _ _ c.in_ok-name.ensures.ok c.in_ok-seen.ensures c.as_slice.ensures)
    (sym c.in_default-2.is ∙ among_is stream_name stream_inside _ _ _ _ _ c.in_ok-name-2.ensures.ok s1 c.as_slice-2.ensures))
    (among_is window_name window_inside _ _ _ _ r e s2 c.as_slice-3.ensures))
    c.twice_among-3.result c.twice_among-3.ensures.ok
