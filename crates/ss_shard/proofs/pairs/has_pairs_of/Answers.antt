use Rattle.std.proofs.Common.{◌∙◌, sym, ap, slice_get}
use Rattle.ss_undo.proofs.CallerLemmas.{agrees_so, found_as, has_so}
use Rattle.ss_shard.proofs.pairs.has_pairs_of.Goals as goal

pub returns-in-Some-get : goal.returns-in-Some-get
returns-in-Some-get c =
    let tables = c.args.tables.now in
    let indexes = c.args.indexes.now in
    let t = c.args.table in
    let rows = c.in-Some.rows.now in
    let standing = c.in-Some-row.standing.now in
    let group = c.in-Some-get.group.now in
    let here = found_as tables t c.from.result rows c.from.ensures c.in-Some.ensures.item in
    let at = sym c.in-Some-row.ensures in
    let has = ap (slice_get indexes) (sym c.from-2.ensures) ∙ c.in-Some-get.ensures.item in (
      λ true. has_so indexes tables t c.args.slot c.args.row.now rows here standing at group has (sym c.agree.ensures ∙ true),
      λ same. c.agree.ensures ∙ agrees_so indexes tables t c.args.slot c.args.row.now rows here standing at group has same,
    )
