use Rattle.std.proofs.Common.{arith}
use Rattle.ss_disk.specs.Memory.{files_of}
use Rattle.ss_disk.proofs.Loose.{crash_moment_within, durable_within, image_is, image_may_be_left}
use Rattle.ss_disk.proofs.memory.MemoryDisk.crash.Goals as goal

pub split_at-requires : goal.split_at-requires
split_at-requires c = omega (arith, c.events_before.ensures, crash_moment_within c.args.call c.as_slice-events.result.now)

pub replay-requires : goal.replay-requires
replay-requires c =
    durable_within c.args.torn (files_of c.args.self.now.initial) (files_of c.in_ok-files.files) (files_of c.in_ok-files.files) (files_of c.in_ok-files.files)
    c.args.self.now.events.items c.as_slice-events.result.now c.split_at.result.0.now c.split_at-2.result.0.now c.split_at-2.result.1.now c.args.call c.events_before.result c.up_to_sync.result
    c.args.self.now.within c.as_slice-events.ensures.value c.events_before.ensures c.split_at.ensures.front c.up_to_sync.ensures.count c.split_at-2.ensures.front c.in_ok-files.ensures

pub returns-clause-ok : goal.returns-clause-ok
returns-clause-ok c =
    image_is c.args.torn (files_of c.args.self.now.initial) (files_of c.in_ok-files.files) (files_of c.replay.new.files) (files_of c.tear.new.files)
    c.args.self.now.events.items c.as_slice-events.result.now c.split_at.result.0.now c.split_at-2.result.0.now c.split_at-2.result.1.now c.args.call c.events_before.result c.up_to_sync.result
    c.args.self.now.within c.as_slice-events.ensures.value c.events_before.ensures c.split_at.ensures.front c.up_to_sync.ensures.count c.split_at-2.ensures.front c.in_ok-files.ensures
    c.split_at-2.ensures.back c.in_ok-replay.ensures c.in_ok-tear.ensures

pub returns-clause-image : goal.returns-clause-image
returns-clause-image c =
    image_may_be_left c.args.torn (files_of c.args.self.now.initial) (files_of c.in_ok-files.files) (files_of c.replay.new.files) (files_of c.tear.new.files)
    c.args.self.now.events.items c.as_slice-events.result.now c.split_at.result.0.now c.split_at-2.result.0.now c.split_at-2.result.1.now c.args.call c.events_before.result c.up_to_sync.result
    c.args.self.now.within c.as_slice-events.ensures.value c.events_before.ensures c.split_at.ensures.front c.up_to_sync.ensures.count c.split_at-2.ensures.front c.in_ok-files.ensures
    (image_is c.args.torn (files_of c.args.self.now.initial) (files_of c.in_ok-files.files) (files_of c.replay.new.files) (files_of c.tear.new.files)
    c.args.self.now.events.items c.as_slice-events.result.now c.split_at.result.0.now c.split_at-2.result.0.now c.split_at-2.result.1.now c.args.call c.events_before.result c.up_to_sync.result
    c.args.self.now.within c.as_slice-events.ensures.value c.events_before.ensures c.split_at.ensures.front c.up_to_sync.ensures.count c.split_at-2.ensures.front c.in_ok-files.ensures
    c.split_at-2.ensures.back c.in_ok-replay.ensures c.in_ok-tear.ensures)
