use Rattle.std.proofs.Common.{◌∙◌, refl, sym, ap}
use Rattle.ss_disk.specs.Memory.{files_of}
use Rattle.ss_disk.proofs.Recorded.{one_sync, one_sync_left, shown_push, within_more}
use Rattle.ss_disk.proofs.memory.MemoryDiskDisk.sync.Goals as goal

pub returns-then-self-clause-crash : goal.returns-then-self-clause-crash
returns-then-self-clause-crash c =
    one_sync_left (files_of c.args.self.now.initial) (files_of c.count_call.new.self.initial) (files_of c.args.self.now.files)
    c.args.self.now.events.items c.count_call.new.self.events.items c.push_reserved.new.self.items _
    (ap files_of c.count_call.ensures.counted.initial) c.args.self.now.shown c.args.self.now.within (ap (λ v. v.items) c.count_call.ensures.counted.events) c.push_reserved.ensures.items

pub invariant_of-self-clause-shown : goal.invariant_of-self-clause-shown
invariant_of-self-clause-shown c =
    shown_push (files_of c.args.self.now.initial) (files_of c.count_call.new.self.initial) (files_of c.args.self.now.files) (files_of c.count_call.new.self.files)
    c.args.self.now.events.items c.count_call.new.self.events.items c.push_reserved.new.self.items _
    c.args.self.now.shown (ap files_of c.count_call.ensures.counted.initial) (ap (λ v. v.items) c.count_call.ensures.counted.events) c.push_reserved.ensures.items
    (ap files_of c.count_call.ensures.counted.files)

pub invariant_of-self-clause-within : goal.invariant_of-self-clause-within
invariant_of-self-clause-within c =
    within_more (files_of c.args.self.now.initial) (files_of c.count_call.new.self.initial) (files_of c.args.self.now.files)
    c.args.self.now.events.items c.count_call.new.self.events.items c.push_reserved.new.self.items _
    c.args.self.now.shown c.args.self.now.within (ap files_of c.count_call.ensures.counted.initial) (ap (λ v. v.items) c.count_call.ensures.counted.events) c.push_reserved.ensures.items refl

pub invariant_of-self-clause-still : goal.invariant_of-self-clause-still
invariant_of-self-clause-still c = λ _ image left.
    one_sync (files_of c.args.self.now.initial) (files_of c.count_call.new.self.initial) (files_of c.args.self.now.files)
    c.args.self.now.events.items c.count_call.new.self.events.items c.push_reserved.new.self.items _
    (ap files_of c.count_call.ensures.counted.initial) c.args.self.now.shown (ap (λ v. v.items) c.count_call.ensures.counted.events) c.push_reserved.ensures.items image left
    ∙ ap files_of (sym c.count_call.ensures.counted.files)
