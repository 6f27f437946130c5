use Rattle.std.proofs.Common.{◌≡◌, refl, sym, subst}
use Rattle.ss_commitlog.specs.declared.role.Role.TheVariants.{Disk as DiskRole}
use Rattle.ss_commitlog.specs.Meaning.{listed_of}
use Rattle.ss_commitlog.specs.Tokens.{Known}
use Rattle.ss_receipts.specs.Checkpointing.{IsImageBehind}
use Rattle.ss_receipts.specs.Holding.{Holds, KeeperView}
use Rattle.ss_receipts.proofs.checkpoint.renewed_at.Goals as goal

pub renew_log-done-requires-clause-image : goal.renew_log-done-requires-clause-image
renew_log-done-requires-clause-image g c =
    let note = c.keeper.inside.note in
    let is = subst (λ (v : KeeperView _). IsImageBehind g.I.Life.catalog g.I.Life.opening g.I.Life.first (listed_of v.note.list) v.count c.args.image.now) (sym c.keeper.view_is) c.requires.image in
    (listed_of note.list, note.faults, is, c.keeper.invariant.2)

pub invariant_of-keeper : goal.invariant_of-keeper
invariant_of-keeper g c =
    let note = c.keeper.inside.note in
    let done = c.renew_log-done in
    let is = subst (λ (v : KeeperView _). IsImageBehind g.I.Life.catalog g.I.Life.opening g.I.Life.first (listed_of v.note.list) v.count c.args.image.now) (sym c.keeper.view_is) c.requires.image in
    subst (λ (k : Known). (k.role ≡ DiskRole) × (k.count ≡ c.keeper.inside.count) × Holds g.I.Life.recovery g.I.Life.every g.I.Life.catalog g.I.Life.opening g.I.Life.first g.I.Life.moment g.I.Life.faults g.I.Life.past g.D.Disk.kind (listed_of k.list) done.new.log c.keeper.inside.count k.faults)
    (sym c.post.ensures) (refl, refl, done.ensures.holds (listed_of note.list) note.faults is c.keeper.invariant.2)
