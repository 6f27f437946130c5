use Rattle.std.proofs.Common.{◌≡◌, ◌+◌, ℕ, None, length, refl, sym, ap, subst, arith}
use Rattle.ss_commitlog.specs.declared.role.Role.TheVariants.{Disk as DiskRole}
use Rattle.ss_commitlog.specs.Meaning.{listed_of}
use Rattle.ss_commitlog.specs.Tokens.{Known}
use Rattle.ss_commitlog.proofs.CallerLemmas.{length-listed_of}
use Rattle.ss_receipts.specs.Durable.{IsDurable}
use Rattle.ss_receipts.specs.Holding.{Holds, KeeperView}
use Rattle.ss_receipts.proofs.Flushing.{rest_count}
use Rattle.ss_receipts.proofs.Keepers.{all_durable, rest_of}
use Rattle.ss_receipts.proofs.durable.flushed.Goals as goal

pub flush_rest-done-requires-clause-rest : goal.flush_rest-done-requires-clause-rest
flush_rest-done-requires-clause-rest g c =
    let note = c.keeper.inside.note in
    let rest = rest_of g.I.Life.catalog g.I.Life.opening g.I.Life.first (record { log = c.keeper.inside.log; count = c.keeper.inside.count; note = c.keeper.inside.note }) c.args.keeper.now c.args.rest.now c.keeper.view_is c.knows_what_replays.ensures.replays c.requires.small c.requires.rest in
    (listed_of note.list, note.faults, rest, c.keeper.invariant.2)

pub invariant_of-keeper : goal.invariant_of-keeper
invariant_of-keeper g c =
    let note = c.keeper.inside.note in
    let done = c.flush_rest-done in
    let rest = rest_of g.I.Life.catalog g.I.Life.opening g.I.Life.first (record { log = c.keeper.inside.log; count = c.keeper.inside.count; note = c.keeper.inside.note }) c.args.keeper.now c.args.rest.now c.keeper.view_is c.knows_what_replays.ensures.replays c.requires.small c.requires.rest in
    subst (λ (k : Known). (k.role ≡ DiskRole) × (k.count ≡ done.result.count) × Holds g.I.Life.recovery g.I.Life.every g.I.Life.catalog g.I.Life.opening g.I.Life.first g.I.Life.moment g.I.Life.faults g.I.Life.past g.D.Disk.kind (listed_of k.list) done.new.log done.result.count k.faults)
    (sym c.post.ensures) (refl, refl, done.ensures.holds (listed_of note.list) note.faults rest c.keeper.invariant.2)

pub returns-clause-all : goal.returns-clause-all
returns-clause-all g c =
    let note = c.keeper.inside.note in
    let done = c.flush_rest-done in
    let rest = rest_of g.I.Life.catalog g.I.Life.opening g.I.Life.first (record { log = c.keeper.inside.log; count = c.keeper.inside.count; note = c.keeper.inside.note }) c.args.keeper.now c.args.rest.now c.keeper.view_is c.knows_what_replays.ensures.replays c.requires.small c.requires.rest in
    let holds = done.ensures.holds (listed_of note.list) note.faults rest c.keeper.invariant.2 in
    let same = ap (λ (v : KeeperView _). length v.note.list) c.keeper.view_is in
    let many = rest_count g.I.Life.catalog g.I.Life.opening g.I.Life.first (listed_of note.list) c.keeper.inside.count c.args.rest.now rest c.keeper.invariant.2.begun c.keeper.invariant.2.within in
    all_durable (g.I.Life.first + length c.args.keeper.now.note.list) done.result.count done.result.faults done.result.answer (done.new.log.halted ≡ None)
    (subst (λ (n : ℕ). IsDurable n done.result.count done.result.faults done.result.answer) (omega (arith, many, same, length-listed_of note.list)) done.ensures.answer)
    (omega (arith, holds.within, same, length-listed_of note.list)) done.ensures.going
