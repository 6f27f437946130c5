use Rattle.std.proofs.Common.{◌≡◌, ◌-◌, ◌∷◌, leb, Some, slice_get, ap, ◌∙◌, rules, arith}
use Rattle.std.proofs.lemmas.List.Sorted.{IsPartitionPoint-from_clause, IsPartitionedBy-leb}
use Rattle.ss_window.proofs.Numbered.{start_by, end_past}
use Rattle.ss_window.proofs.starts.position_of.Goals as goal

pub overflow_sub-result : goal.overflow_sub-result
overflow_sub-result c =
    let unit_ends = c.args.unit_ends.now.items in
    let parted = IsPartitionedBy-leb (λ end. end) unit_ends c.args.number c.requires.rises in
    let point = IsPartitionPoint-from_clause (λ end. leb end c.args.number) _ _ c.partition_point-position.ensures.partitioned parted (λ a r q k. search rules) in
    let start : slice_get (c.args.first ∷ unit_ends) c.partition_point-position.result ≡ Some c.in-Some.start = search rules in
    start_by c.args.first c.args.number c.partition_point-position.result unit_ends point c.requires.starts c.in-Some.start start

pub returns-clause-start : goal.returns-clause-start
returns-clause-start c =
    let by = overflow_sub-result c in
    let start : slice_get (c.args.first ∷ c.args.unit_ends.now.items) c.partition_point-position.result ≡ Some c.in-Some.start = search rules in
    let same : c.in-Some.start ≡ c.args.number - (c.args.number - c.in-Some.start) = omega arith in
    start ∙ ap Some same

pub returns-clause-last : goal.returns-clause-last
returns-clause-last c =
    let unit_ends = c.args.unit_ends.now.items in
    let parted = IsPartitionedBy-leb (λ end. end) unit_ends c.args.number c.requires.rises in
    let point = IsPartitionPoint-from_clause (λ end. leb end c.args.number) _ _ c.partition_point-position.ensures.partitioned parted (λ a r q k. search rules) in
    end_past c.args.first c.args.number c.partition_point-position.result unit_ends point
