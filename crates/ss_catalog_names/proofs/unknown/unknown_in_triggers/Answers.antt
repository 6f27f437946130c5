use Rattle.std.proofs.Common.{◌≡◌, ◌∙◌, ap, ◌++◌, ◌||◌, sym, ℕ, List, map, Option}
use Rattle.std.specs.Option.{option_copied}
use Rattle.std.specs.Str.{bytes_eq}
use Rattle.std.proofs.lemmas.List.Folds.{list_any-append}
use Rattle.ss_lemmas.proofs.Results.{if_ok}
use Rattle.ss_catalog_outline.specs.declared.types.StreamOutline.{StreamOutline}
use Rattle.ss_catalog_outline.specs.declared.types.WindowOutline.{WindowOutline}
use Rattle.ss_catalog_outline.specs.declared.types.TriggerOutline.{TriggerOutline}
use Rattle.ss_names.specs.Names.{is_among}
use Rattle.ss_catalog_outline.specs.Names.{stream_name, window_name}
use Rattle.ss_catalog_outline.specs.Unknown.{names_in, waits_on, triggers_uses, first_unknown}
use Rattle.ss_catalog_outline.proofs.CallerLemmas.{used_same}
use Rattle.ss_catalog_names.proofs.unknown.unknown_in_triggers.Goals as goal

pub returns : goal.returns
returns c =
    let o = c.args.outline.now in
    let streams = map stream_name o.streams in
    let windows = map window_name o.windows in
    if_ok (λ (r : Option (List ℕ)). r ≡ option_copied c.unknown_source.result) (λ (r : Option (List ℕ)). r ≡ first_unknown (triggers_uses o))
    (λ r e. e ∙ c.unknown_source.ensures
    ∙ ap (λ (l : List TriggerOutline). first_unknown (names_in waits_on c.add_all.new.names l)) c.as_slice-3.ensures
    ∙ used_same waits_on c.add_all.new.names (streams ++ windows)
    (λ name. c.in_ok-add_all.ensures.ok name
    ∙ list_any-append (bytes_eq name) c.in_ok-sources.sources (map window_name c.as_slice-2.result.now)
    ∙ ap (λ b. b || is_among (map window_name c.as_slice-2.result.now) name) (c.in_ok-sources.ensures name ∙ ap (λ (l : List StreamOutline). is_among (map stream_name l) name) c.as_slice.ensures)
    ∙ ap (λ (l : List WindowOutline). is_among streams name || is_among (map window_name l) name) c.as_slice-2.ensures
    ∙ sym (list_any-append (bytes_eq name) streams windows)) o.triggers)
    c.copy_of.result c.copy_of.ensures
