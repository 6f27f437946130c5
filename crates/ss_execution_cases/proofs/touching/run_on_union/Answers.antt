use Rattle.std.proofs.Common.{List, [], ◌∷◌, ◌++◌, refl, subst, ◌∙◌, arith}
use Rattle.ss_value.specs.Rows.{Rows}
use Rattle.ss_shard.specs.Parts.{HasParts}
use Rattle.ss_shard.specs.Unions.{numbers_of}
use Rattle.ss_shard.proofs.CallerLemmas.{still_dealt}
use Rattle.ss_proc.specs.Entries.{RanOnEach}
use Rattle.ss_execution_cases.proofs.InOrder.{apart}
use Rattle.ss_execution_cases.proofs.OnAll.{may_part, all_again}
use Rattle.ss_execution_cases.proofs.touching.run_on_union.Goals as goal

pub unite-requires-clause-apart : goal.unite-requires-clause-apart
unite-requires-clause-apart c = (0 ∷ [], apart c.args.catalog.now c.args.parts c.args.first.now c.args.others.now c.requires.of_one, omega arith)

pub execute-requires-clause-committed : goal.execute-requires-clause-committed
execute-requires-clause-committed c =
    (c.in-Ok.ensures.ok (0 ∷ []) (apart c.args.catalog.now c.args.parts c.args.first.now c.args.others.now c.requires.of_one)).parts.committed

pub part-requires-clause-may : goal.part-requires-clause-may
part-requires-clause-may c =
    let catalog = c.args.catalog.now in
    let n = c.args.parts in
    let first = c.args.first.now in
    let others = c.args.others.now in
    let w = c.in-Ok.ensures.ok (0 ∷ []) (apart catalog n first others c.requires.of_one) in
    let has : HasParts catalog n ((0 ∷ []) ++ numbers_of others) c.commit.new.shard = record {
      running = w.parts.running;
      committed = c.commit.ensures.committed catalog c.in-Ok-execute.ensures.of_catalog;
      dealt = c.commit.ensures.dealt ∙ still_dealt catalog n ((0 ∷ []) ++ numbers_of others) c.unite.new.shard c.execute.new.shard c.in-Ok-execute.ensures.back w.parts.dealt;
    } in
    (0 ∷ [], may_part catalog n first others c.requires.of_one c.unite.new.shard c.unite.new.others w c.execute.new.shard c.commit.new.shard has)

pub returns : goal.returns
returns c =
    let catalog = c.args.catalog.now in
    let n = c.args.parts in
    let first = c.args.first.now in
    let others = c.args.others.now in
    let w = c.in-Ok.ensures.ok (0 ∷ []) (apart catalog n first others c.requires.of_one) in
    let of_catalog = c.in-Ok-execute.ensures.of_catalog in
    let back = c.in-Ok-execute.ensures.back in
    let has : HasParts catalog n ((0 ∷ []) ++ numbers_of others) c.commit.new.shard = record {
      running = w.parts.running;
      committed = c.commit.ensures.committed catalog of_catalog;
      dealt = c.commit.ensures.dealt ∙ still_dealt catalog n ((0 ∷ []) ++ numbers_of others) c.unite.new.shard c.execute.new.shard back w.parts.dealt;
    } in
    let may = may_part catalog n first others c.requires.of_one c.unite.new.shard c.unite.new.others w c.execute.new.shard c.commit.new.shard has in
    let number = c.commit.ensures.unchanged ∙ back.number ∙ w.number ∙ (c.requires.of_one.0.each 0 first refl).number in
    let ran = subst (λ (batches : List Rows). RanOnEach catalog c.unite.new.shard c.execute.new.shard c.args.entry.now batches c.in-Ok-execute.executed) c.new-batches.ensures c.in-Ok-execute.ensures.ok in
    all_again catalog n first others c.requires.of_one c.unite.new.shard c.unite.new.others w c.execute.new.shard c.commit.new.shard has
    c.requires.accepted c.requires.some c.args.entry.now c.requires.none c.touched_run.ensures c.runs_on_parts.ensures c.in-Ok-execute.executed ran (c.commit.ensures.keeps catalog of_catalog) number
    c.part.new.shard c.part.new.shells (c.part.ensures (0 ∷ []) may)
