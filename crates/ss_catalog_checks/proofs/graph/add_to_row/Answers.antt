use Rattle.std.proofs.Common.{◌≡◌, ◌++◌, ◌∷◌, [], get_or, set, rules, ap, sym, ◌∙◌}
use Rattle.std.proofs.lemmas.List.{set-set}
use Rattle.ss_catalog_checks.proofs.Graphs.{row_there}
use Rattle.ss_catalog_checks.proofs.graph.add_to_row.Goals as goal

pub returns : goal.returns
returns c =
    let pushed : c.push.new.self ≡ c.put-row.result ++ c.args.to ∷ [] = search rules in
    let row : get_or c.args.graph.now c.args.from [] ≡ c.put-row.result = row_there c.args.graph.now c.args.from c.put-row.result c.put-row.ensures.old in
    c.put-empty.ensures.new
    ∙ ap (λ g. set g c.args.from c.push.new.self) c.put-row.ensures.new
    ∙ set-set c.args.graph.now c.args.from c.new.result c.push.new.self
    ∙ ap (set c.args.graph.now c.args.from) (pushed ∙ ap (λ r. r ++ c.args.to ∷ []) (sym row))
