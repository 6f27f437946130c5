use Rattle.std.proofs.Common.{◌∙◌, ◌+◌, ℕ, sym, ap, subst}
use Rattle.ss_model.specs.declared.catalog.Catalog.{Catalog}
use Rattle.ss_model.specs.Replays.{Replays, after}
use Rattle.ss_commitlog.specs.Meaning.{listed_of}
use Rattle.ss_shard.specs.Shards.{IsCommitted}
use Rattle.ss_snapshot.specs.Held.{FitsHeld, SpellsHeld, StandForSome}
use Rattle.ss_commitlog.proofs.CallerLemmas.{length-listed_of}
use Rattle.ss_receipts.specs.Holding.{KeeperView}
use Rattle.ss_receipts.proofs.checkpoint.imaged.Goals as goal

pub write_image-requires-clause-committed : goal.write_image-requires-clause-committed
write_image-requires-clause-committed g c = subst (λ (k : Catalog). IsCommitted k c.args.whole.now) (sym c.requires.catalog) c.requires.stand.committed

pub write_image-requires-clause-held : goal.write_image-requires-clause-held
write_image-requires-clause-held g c =
    let list = listed_of c.args.keeper.now.note.list in
    let whole = (c.whole_databases_stay.ensures g.I.Life.catalog c.requires.accepted).along g.I.Life.opening list c.requires.opening.0 in
    subst (λ (k : Catalog). StandForSome k c.args.whole.now c.args.streams.now.streams) (sym c.requires.catalog)
    (after g.I.Life.catalog g.I.Life.opening list, c.requires.stand.holds, c.requires.stand.streams_are, whole)

pub renewed_at-requires-clause-image : goal.renewed_at-requires-clause-image
renewed_at-requires-clause-image g c =
    let list = listed_of c.args.keeper.now.note.list in
    let db = after g.I.Life.catalog g.I.Life.opening list in
    let whole = (c.whole_databases_stay.ensures g.I.Life.catalog c.requires.accepted).along g.I.Life.opening list c.requires.opening.0 in
    let spelled = subst (λ (k : Catalog). SpellsHeld k c.args.whole.now c.args.streams.now.streams c.in-Ok.image) c.requires.catalog c.in-Ok.ensures.spelled in
    let fits = subst (λ (k : Catalog). FitsHeld k c.args.whole.now c.args.streams.now.streams) c.requires.catalog c.in-Ok.ensures.fits in
    record {
      end = c.requires.end.0 ∙ ap (λ (n : ℕ). g.I.Life.first + n) (sym (length-listed_of c.args.keeper.now.note.list));
      replays = subst (λ (v : KeeperView _). Replays g.I.Life.catalog g.I.Life.opening (listed_of v.note.list)) c.keeper.view_is c.knows_what_replays.ensures.replays;
      small = c.requires.end.1;
      fits = fits db c.requires.stand.holds c.requires.stand.streams_are whole;
      spelled = c.as_slice.ensures ∙ spelled db c.requires.stand.holds c.requires.stand.streams_are whole;
    }
