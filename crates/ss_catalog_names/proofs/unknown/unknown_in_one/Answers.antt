use Rattle.std.proofs.Common.{◌∙◌, sym, ap, List, ℕ}
use Rattle.std.specs.Option.{option_copied}
use Rattle.ss_names.specs.Names.{itself}
use Rattle.ss_catalog_outline.specs.Unknown.{names_in, first_unknown}
use Rattle.ss_catalog_names.proofs.Firsts.{found_here, not_found_here}
use Rattle.ss_catalog_outline.proofs.CallerLemmas.{first_unknown_append}
use Rattle.ss_catalog_names.proofs.unknown.unknown_in_one.Goals as goal

pub returns-in-Some : goal.returns-in-Some
returns-in-Some c =
    found_here first_unknown first_unknown_append (names_in itself c.args.known.now) c.args.lists.now c.loop-list.list-index c.list-item.result c.loop-list-test.true c.list-item.is c.loop-list.invariant
    _ (sym (ap option_copied c.in-Some.is) ∙ c.unknown_in.ensures ∙ ap (λ (l : List (List ℕ)). first_unknown (names_in itself c.args.known.now l)) c.as_slice.ensures)

pub loop-list-preserved : goal.loop-list-preserved
loop-list-preserved c =
    not_found_here first_unknown first_unknown_append (names_in itself c.args.known.now) c.args.lists.now c.loop-list.list-index c.list-item.result c.loop-list-test.true c.list-item.is c.loop-list.invariant
    (sym (ap option_copied c.in_default.is) ∙ c.unknown_in.ensures ∙ ap (λ (l : List (List ℕ)). first_unknown (names_in itself c.args.known.now l)) c.as_slice.ensures)
