use Rattle.std.proofs.Common.{◌∙◌, true, false, refl, ap}
use Rattle.ss_disk.specs.declared.events.Event.TheVariants.{Cut}
use Rattle.ss_disk.specs.Files.{with_cut}
use Rattle.ss_disk.specs.Memory.{files_of}
use Rattle.ss_disk.proofs.Recorded.{no_cut, one_cut, shown_push, within_more}
use Rattle.ss_disk.proofs.memory.MemoryDiskDisk.cut.Goals as goal

pub returns-then-is_err-clause-crash : goal.returns-then-is_err-clause-crash
returns-then-is_err-clause-crash c =
    no_cut (files_of c.args.self.now.initial) (files_of c.args.self.now.initial) c.args.self.now.events.items c.reserve.new.self.items c.args.which c.args.len refl c.reserve.ensures.items

pub returns-then-count_call-clause-crash : goal.returns-then-count_call-clause-crash
returns-then-count_call-clause-crash c =
    one_cut (files_of c.args.self.now.initial) (files_of c.count_call.new.self.initial) c.args.self.now.events.items c.count_call.new.self.events.items c.push_reserved.new.self.items
    c.args.self.now.calls c.args.which c.args.len false
    (ap files_of c.count_call.ensures.counted.initial) (ap (λ v. v.items) c.count_call.ensures.counted.events ∙ c.reserve.ensures.items) c.push_reserved.ensures.items

pub invariant_of-self-then-count_call-clause-shown : goal.invariant_of-self-then-count_call-clause-shown
invariant_of-self-then-count_call-clause-shown c =
    shown_push (files_of c.args.self.now.initial) (files_of c.count_call.new.self.initial) (files_of c.args.self.now.files) (files_of c.count_call.new.self.files)
    c.args.self.now.events.items c.count_call.new.self.events.items c.push_reserved.new.self.items (Cut c.args.self.now.calls c.args.which c.args.len false)
    c.args.self.now.shown (ap files_of c.count_call.ensures.counted.initial) (ap (λ v. v.items) c.count_call.ensures.counted.events ∙ c.reserve.ensures.items) c.push_reserved.ensures.items
    (ap files_of c.count_call.ensures.counted.files)

pub invariant_of-self-then-count_call-clause-within : goal.invariant_of-self-then-count_call-clause-within
invariant_of-self-then-count_call-clause-within c =
    within_more (files_of c.args.self.now.initial) (files_of c.count_call.new.self.initial) (files_of c.args.self.now.files)
    c.args.self.now.events.items c.count_call.new.self.events.items c.push_reserved.new.self.items (Cut c.args.self.now.calls c.args.which c.args.len false)
    c.args.self.now.shown c.args.self.now.within (ap files_of c.count_call.ensures.counted.initial) (ap (λ v. v.items) c.count_call.ensures.counted.events ∙ c.reserve.ensures.items) c.push_reserved.ensures.items refl

pub returns-clause-crash : goal.returns-clause-crash
returns-clause-crash c =
    one_cut (files_of c.args.self.now.initial) (files_of c.count_call.new.self.initial) c.args.self.now.events.items c.count_call.new.self.events.items c.push_reserved-2.new.self.items
    c.args.self.now.calls c.args.which c.args.len true
    (ap files_of c.count_call.ensures.counted.initial) (ap (λ v. v.items) c.count_call.ensures.counted.events ∙ c.reserve.ensures.items) c.push_reserved-2.ensures.items

pub invariant_of-self-2-clause-shown : goal.invariant_of-self-2-clause-shown
invariant_of-self-2-clause-shown c =
    shown_push (files_of c.args.self.now.initial) (files_of c.count_call.new.self.initial) (files_of c.args.self.now.files) (files_of c.cut.new.self)
    c.args.self.now.events.items c.count_call.new.self.events.items c.push_reserved-2.new.self.items (Cut c.args.self.now.calls c.args.which c.args.len true)
    c.args.self.now.shown (ap files_of c.count_call.ensures.counted.initial) (ap (λ v. v.items) c.count_call.ensures.counted.events ∙ c.reserve.ensures.items) c.push_reserved-2.ensures.items
    (c.cut.ensures ∙ (λ k. with_cut c.args.which c.args.len (files_of (c.count_call.ensures.counted.files k))))

pub invariant_of-self-2-clause-within : goal.invariant_of-self-2-clause-within
invariant_of-self-2-clause-within c =
    within_more (files_of c.args.self.now.initial) (files_of c.count_call.new.self.initial) (files_of c.args.self.now.files)
    c.args.self.now.events.items c.count_call.new.self.events.items c.push_reserved-2.new.self.items (Cut c.args.self.now.calls c.args.which c.args.len true)
    c.args.self.now.shown c.args.self.now.within (ap files_of c.count_call.ensures.counted.initial) (ap (λ v. v.items) c.count_call.ensures.counted.events ∙ c.reserve.ensures.items) c.push_reserved-2.ensures.items refl
