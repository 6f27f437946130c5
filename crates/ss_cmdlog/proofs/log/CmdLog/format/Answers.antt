use Rattle.std.proofs.Common.{◌≡◌, ◌∙◌, ◌+◌, ◌-◌, length, refl, arith}
use Rattle.ss_disk.proofs.CallerLemmas.{fewer_none}
use Rattle.ss_cmdlog.proofs.Formatted.{formatted, fresh_open, fresh_counts}
use Rattle.ss_cmdlog.proofs.LeftSome.{some_fewer, some_join}
use Rattle.ss_cmdlog.proofs.log.CmdLog.format.Goals as goal

pub returns-in-Err-write_synced-clause-moments : goal.returns-in-Err-write_synced-clause-moments
returns-in-Err-write_synced-clause-moments g c = λ honest.
    let tells = g.met.D.Disk.honest_tells honest in
    formatted g.D.Disk.kind.moment g.D.Disk.kind.images c.args.disk c.fill_both.new.disk c.write_synced.new.disk (g.D.Disk.kind.seen c.args.disk) (g.D.Disk.kind.seen c.fill_both.new.disk) c.args.mode c.args.image.now c.as_slice.result.now
    (c.requires.settled honest) (c.requires.empty tells) c.in-Ok.ensures.long (c.as_slice.ensures.value ∙ c.in-Ok.ensures.spelled)
    (c.in_default-fill_both.ensures.filled tells) (c.in_default-fill_both.ensures.durable honest) (c.fill_both.ensures.moments honest) (c.write_synced.ensures.moments honest)

pub returns-clause-moments : goal.returns-clause-moments
returns-clause-moments g c = λ honest.
    let tells = g.met.D.Disk.honest_tells honest in
    formatted g.D.Disk.kind.moment g.D.Disk.kind.images c.args.disk c.fill_both.new.disk c.write_synced.new.disk (g.D.Disk.kind.seen c.args.disk) (g.D.Disk.kind.seen c.fill_both.new.disk) c.args.mode c.args.image.now c.as_slice.result.now
    (c.requires.settled honest) (c.requires.empty tells) c.in-Ok.ensures.long (c.as_slice.ensures.value ∙ c.in-Ok.ensures.spelled)
    (c.in_default-fill_both.ensures.filled tells) (c.in_default-fill_both.ensures.durable honest) (c.fill_both.ensures.moments honest) (c.write_synced.ensures.moments honest)

pub returns-clause-open : goal.returns-clause-open
returns-clause-open g c =
    let place : c.len.result - 1 ≡ length c.as_slice.result.now - 1 = omega arith in
    record {
      going = refl;
      first = λ tells. refl;
      at = λ tells. fresh_open c.args.mode c.args.image.now c.as_slice.result.now _ (g.D.Disk.kind.seen c.fill_both.new.disk) _ _ c.in-Ok.ensures.long (c.as_slice.ensures.value ∙ c.in-Ok.ensures.spelled) (c.requires.empty tells)
          (c.in_default-fill_both.ensures.filled tells) (c.in_default-write_synced.ensures.ok tells) place;
      of_mode = refl;
      of_form = refl;
      count = λ tells. fresh_counts c.args.mode c.args.image.now;
      only = λ honest. c.in_default-write_synced.ensures.durable honest;
    }

pub returns-clause-some : goal.returns-clause-some
returns-clause-some g c = λ honest.
    let run = c.write_synced.ensures.moments honest in
    some_join g.D.Disk.kind.moment g.D.Disk.kind.images (g.D.Disk.kind.moment c.args.disk) c.fill_both.new.disk c.write_synced.new.disk (c.fill_both.ensures.some honest) run.keeps
    (some_fewer g.D.Disk.kind.honest g.D.Disk.kind.seen g.D.Disk.kind.moment g.D.Disk.kind.images g.met.D.Disk.sees_an_image honest c.fill_both.new.disk c.write_synced.new.disk run.keeps (c.write_synced.ensures.fewer honest))

pub returns-in-Err-write_synced-clause-some : goal.returns-in-Err-write_synced-clause-some
returns-in-Err-write_synced-clause-some g c = λ honest.
    let run = c.write_synced.ensures.moments honest in
    some_join g.D.Disk.kind.moment g.D.Disk.kind.images (g.D.Disk.kind.moment c.args.disk) c.fill_both.new.disk c.write_synced.new.disk (c.fill_both.ensures.some honest) run.keeps
    (some_fewer g.D.Disk.kind.honest g.D.Disk.kind.seen g.D.Disk.kind.moment g.D.Disk.kind.images g.met.D.Disk.sees_an_image honest c.fill_both.new.disk c.write_synced.new.disk run.keeps (c.write_synced.ensures.fewer honest))

-- no call was made
pub returns-in_default-clause-some : goal.returns-in_default-clause-some
returns-in_default-clause-some g c = λ honest.
    some_fewer g.D.Disk.kind.honest g.D.Disk.kind.seen g.D.Disk.kind.moment g.D.Disk.kind.images g.met.D.Disk.sees_an_image honest c.args.disk c.args.disk (λ t image within left. left)
    (fewer_none g.D.Disk.kind.moment g.D.Disk.kind.images (g.D.Disk.kind.moment c.args.disk + 1) c.args.disk (omega arith))
