use Rattle.std.proofs.Common.{◌∙◌, sym, ap, ◌+◌, ◌++◌, ◌∷◌, [], ℕ, List, Option, drop}
use Rattle.std.specs.Option.{option_or}
use Rattle.ss_catalog_outline.specs.Twice.{standing_behind, first_twice}
use Rattle.ss_lemmas.proofs.LoopItem.{map_next_behind}
use Rattle.ss_catalog_names.proofs.FirstTwice.{after_here, new_here}
use Rattle.ss_catalog_names.proofs.twice.twice_among.Goals as goal

pub returns-in-Some-clause-ok : goal.returns-in-Some-clause-ok
returns-in-Some-clause-ok g c =
    let rest : List (List ℕ) → Option (List ℕ) = λ ns. first_twice (standing_behind g.T.Named.name g.T.HasInnerNames.inside ns (drop (c.loop-item.item-index + 1) c.args.items.now)) in
    let split = new_here g.T.Named.name g.T.HasInnerNames.inside c.args.seen.now c.args.items.now c.loop-item.item-index c.item-item.result c.loop-item.seen c.loop-item-test.true c.item-item.is c.loop-item.invariant.rest
    c.name.result.now c.name.ensures c.in_ok-insert.field-0 c.in_ok-insert.ensures.ok c.if-not-branch.false c.insert.new.self c.in_ok-insert.ensures.names in
    sym (split ∙ ap (λ (o : Option (List ℕ)). option_or o (rest c.insert.new.self)) (sym c.in_ok-name-2.ensures ∙ c.in-Some.is))

pub loop-item-preserved : goal.loop-item-preserved
loop-item-preserved g c =
    let rest : List (List ℕ) → Option (List ℕ) = λ ns. first_twice (standing_behind g.T.Named.name g.T.HasInnerNames.inside ns (drop (c.loop-item.item-index + 1) c.args.items.now)) in
    let i = c.loop-item.item-index in
    let split = new_here g.T.Named.name g.T.HasInnerNames.inside c.args.seen.now c.args.items.now i c.item-item.result c.loop-item.seen c.loop-item-test.true c.item-item.is c.loop-item.invariant.rest
    c.name.result.now c.name.ensures c.in_ok-insert.field-0 c.in_ok-insert.ensures.ok c.if-not-branch.false c.insert.new.self c.in_ok-insert.ensures.names in
    let after = after_here g.T.Named.name g.T.HasInnerNames.inside c.args.seen.now c.args.items.now i c.item-item.result c.loop-item.seen c.loop-item-test.true c.item-item.is c.loop-item.invariant.rest
    c.name.result.now c.name.ensures c.in_ok-insert.field-0 c.in_ok-insert.ensures.ok c.if-not-branch.false c.insert.new.self c.in_ok-insert.ensures.names in
    record {
      names = after ∙ ap (λ (ns : List (List ℕ)). ns ++ g.T.Named.name c.item-item.result ∷ []) c.loop-item.invariant.names ∙ sym (map_next_behind g.T.Named.name c.args.seen.now c.args.items.now i c.item-item.result c.loop-item-test.true c.item-item.is);
      rest = split ∙ ap (λ (o : Option (List ℕ)). option_or o (rest c.insert.new.self)) (sym c.in_ok-name-2.ensures ∙ c.in_default.is);
    }
