use Rattle.std.proofs.Common.{Some}
use Rattle.std.proofs.lemmas.Result.{IfErr-weaker, IfOk-weaker}
use Rattle.ss_model.specs.Database.{empty_database}
use Rattle.ss_recover.proofs.Alike.{recovered_told}
use Rattle.ss_recover.proofs.Composed.{recovered_since, refused_since, told_since}
use Rattle.ss_recover.proofs.Moments.{read_formed}
use Rattle.ss_recover.proofs.recovery.recover.Goals as goal

pub returns-then-not-empty-clause-recovered : goal.returns-then-not-empty-clause-recovered
returns-then-not-empty-clause-recovered g c =
    IfOk-weaker c.restore.result _ _
    (λ r found.
    recovered_told g.D.Disk.kind c.wholeness_stays.ensures c.args.mode c.args.catalog c.args.partitions c.args.disk r
    (found.0, recovered_since g.D.Disk.kind g.met.D.Disk.honest_tells c.args.mode c.args.catalog c.args.disk c.is_empty.new.disk c.is_empty.ensures.reads c.args.partitions r found.0 found.1))
    c.restore.ensures.recovered

pub returns-then-not-empty-clause-refused : goal.returns-then-not-empty-clause-refused
returns-then-not-empty-clause-refused g c =
    IfErr-weaker c.restore.result _ _
    (λ refused said. refused_since g.D.Disk.kind g.met.D.Disk.honest_tells c.args.mode c.args.catalog c.args.disk c.is_empty.new.disk c.is_empty.ensures.reads refused.1 c.is_empty.ensures.cause.later refused.0 said)
    c.restore.ensures.refused

pub returns-in-Some-clause-recovered : goal.returns-in-Some-clause-recovered
returns-in-Some-clause-recovered g c =
    rw c.in-Some.is (
    IfOk-weaker c.form.result _ _
    (λ r found.
    recovered_told g.D.Disk.kind c.wholeness_stays.ensures c.args.mode (Some c.in-Some.catalog) c.args.partitions c.args.disk r
    (empty_database c.in-Some.catalog, recovered_since g.D.Disk.kind g.met.D.Disk.honest_tells c.args.mode (Some c.in-Some.catalog) c.args.disk c.is_empty.new.disk c.is_empty.ensures.reads c.args.partitions r (empty_database c.in-Some.catalog) found))
    c.form.ensures.recovered)

pub returns-in-Some-clause-refused : goal.returns-in-Some-clause-refused
returns-in-Some-clause-refused g c =
    rw c.in-Some.is (
    IfErr-weaker c.form.result _ _
    (λ refused said. refused_since g.D.Disk.kind g.met.D.Disk.honest_tells c.args.mode (Some c.in-Some.catalog) c.args.disk c.is_empty.new.disk c.is_empty.ensures.reads refused.1 c.is_empty.ensures.cause.later refused.0 said)
    c.form.ensures.refused)

pub returns-then-not-empty-clause-told : goal.returns-then-not-empty-clause-told
returns-then-not-empty-clause-told g c = told_since g.D.Disk.kind c.args.disk c.is_empty.new.disk c.restore.result c.in-Ok.ensures.cause.done c.restore.ensures.told

pub returns-in-Some-clause-told : goal.returns-in-Some-clause-told
returns-in-Some-clause-told g c = told_since g.D.Disk.kind c.args.disk c.is_empty.new.disk c.form.result c.in-Ok.ensures.cause.done c.form.ensures.told

pub returns-in_default-clause-refused : goal.returns-in_default-clause-refused
returns-in_default-clause-refused g c =
    (read_formed g.D.Disk.kind g.met.D.Disk.honest_tells c.args.mode c.args.catalog c.args.disk c.is_empty.new.disk c.is_empty.ensures.reads, c.in_default.ensures.cause.failed)
