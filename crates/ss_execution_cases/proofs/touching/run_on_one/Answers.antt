use Rattle.std.proofs.Common.{List, ◌≡◌, [], ◌∷◌, Some, slice_get, slice_set, sym, ap, subst, ◌∙◌}
use Rattle.ss_value.specs.Rows.{Rows}
use Rattle.ss_shard.specs.Parts.{IsShardOf}
use Rattle.ss_proc.specs.Entries.{RanOnEach}
use Rattle.ss_shard.proofs.CallerLemmas.{still_dealt, dealt_same}
use Rattle.ss_execution_cases.specs.Held.{AreOfOne}
use Rattle.ss_execution_cases.proofs.OnOne.{all_after, all_same}
use Rattle.ss_execution_cases.proofs.touching.run_on_one.Goals as goal

pub execute-requires-clause-committed : goal.execute-requires-clause-committed
execute-requires-clause-committed c = (c.requires.of_one.0.each c.from.result c.in_ok-shard.shard.now c.in_ok-shard.ensures.item).parts.committed

pub returns-in-Err : goal.returns-in-Err
returns-in-Err c =
    let catalog = c.args.catalog.now in
    let n = c.args.parts in
    let q = c.from.result in
    let old = c.in_ok-shard.shard.now in
    let new = c.execute.new.shard in
    let there : slice_get c.args.shards.now q ≡ Some old = c.in_ok-shard.ensures.item in
    let was = c.requires.of_one.0.each q old there in
    let same = c.in-Err.ensures.err in
    let is_shard : IsShardOf catalog n q new = record {
      number = same.number ∙ was.number;
      parts = record { running = was.parts.running; committed = c.in-Err.ensures.committed; dealt = dealt_same catalog n (q ∷ []) old new same was.parts.dealt };
    } in
    all_same catalog n q c.args.shards.now old new there is_shard c.in-Err.ensures.holds c.requires.of_one

pub returns : goal.returns
returns c =
    let catalog = c.args.catalog.now in
    let n = c.args.parts in
    let p = c.args.partition in
    let old = c.in_ok-shard.shard.now in
    let mid = c.execute.new.shard in
    let new = c.commit.new.shard in
    let at : c.from.result ≡ p = c.from.ensures in
    let there : slice_get c.args.shards.now p ≡ Some old = ap (slice_get c.args.shards.now) (sym at) ∙ c.in_ok-shard.ensures.item in
    let was = c.requires.of_one.0.each p old there in
    let back = c.in-Ok.ensures.back in
    let of_catalog = c.in-Ok.ensures.of_catalog in
    let is_shard : IsShardOf catalog n p new = record {
      number = c.commit.ensures.unchanged ∙ back.number ∙ was.number;
      parts = record { running = was.parts.running; committed = c.commit.ensures.committed catalog of_catalog; dealt = c.commit.ensures.dealt ∙ still_dealt catalog n (p ∷ []) old mid back was.parts.dealt };
    } in
    subst (λ q. AreOfOne catalog n (slice_set c.args.shards.now q new)) (sym at)
    (all_after catalog c.requires.accepted n c.requires.some c.args.entry.now p c.requires.only c.untouched_stay.ensures c.runs_on_parts.ensures c.args.shards.now old mid new c.in-Ok.executed there
    (subst (λ (batches : List Rows). RanOnEach catalog old mid c.args.entry.now batches c.in-Ok.executed) c.new-batches.ensures c.in-Ok.ensures.ok) (c.commit.ensures.keeps catalog of_catalog) is_shard c.requires.none c.requires.of_one)
