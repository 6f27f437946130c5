use Rattle.std.proofs.Common.{◌≡◌, ◌∙◌, length, true, false, refl, sym, ap, rules}
use Rattle.std.proofs.lemmas.Bool.{le-leb}
use Rattle.ss_disk.specs.declared.events.Event.TheVariants.{Wrote}
use Rattle.ss_disk.specs.Files.{with_write}
use Rattle.ss_disk.specs.Memory.{files_of}
use Rattle.ss_disk.proofs.Recorded.{no_write, one_write, shown_push, within_more}
use Rattle.ss_disk.proofs.memory.MemoryDiskDisk.write_at.Goals as goal

pub returns-in_default-clause-crash : goal.returns-in_default-clause-crash
returns-in_default-clause-crash c =
    no_write (files_of c.args.self.now.initial) (files_of c.args.self.now.initial) c.args.self.now.events.items c.args.self.now.events.items c.args.which c.args.at (length c.args.bytes.now) refl refl

pub returns-then-is_err-clause-crash : goal.returns-then-is_err-clause-crash
returns-then-is_err-clause-crash c =
    no_write (files_of c.args.self.now.initial) (files_of c.args.self.now.initial) c.args.self.now.events.items c.reserve.new.self.items c.args.which c.args.at (length c.args.bytes.now) refl c.reserve.ensures.items

pub returns-then-is_err-2-clause-crash : goal.returns-then-is_err-2-clause-crash
returns-then-is_err-2-clause-crash c =
    no_write (files_of c.args.self.now.initial) (files_of c.args.self.now.initial) c.args.self.now.events.items c.reserve.new.self.items c.args.which c.args.at (length c.args.bytes.now) refl c.reserve.ensures.items

pub returns-then-fails_next-clause-crash : goal.returns-then-fails_next-clause-crash
returns-then-fails_next-clause-crash c =
    one_write (files_of c.args.self.now.initial) (files_of c.count_call.new.self.initial) c.args.self.now.events.items c.count_call.new.self.events.items c.push_reserved.new.self.items
    c.args.self.now.calls c.args.which c.args.at (length c.args.bytes.now) c.from_vec-bytes_written.result false
    (ap files_of c.count_call.ensures.counted.initial) (ap (λ v. v.items) c.count_call.ensures.counted.events ∙ c.reserve.ensures.items) c.push_reserved.ensures.items
    (ap length (c.from_vec-bytes_written.ensures ∙ c.in-Ok.ensures.items))

pub invariant_of-self-then-fails_next-clause-shown : goal.invariant_of-self-then-fails_next-clause-shown
invariant_of-self-then-fails_next-clause-shown c =
    shown_push (files_of c.args.self.now.initial) (files_of c.count_call.new.self.initial) (files_of c.args.self.now.files) (files_of c.count_call.new.self.files)
    c.args.self.now.events.items c.count_call.new.self.events.items c.push_reserved.new.self.items (Wrote c.args.self.now.calls c.args.which c.args.at c.from_vec-bytes_written.result false)
    c.args.self.now.shown (ap files_of c.count_call.ensures.counted.initial) (ap (λ v. v.items) c.count_call.ensures.counted.events ∙ c.reserve.ensures.items) c.push_reserved.ensures.items
    (ap files_of c.count_call.ensures.counted.files)

pub invariant_of-self-then-fails_next-clause-within : goal.invariant_of-self-then-fails_next-clause-within
invariant_of-self-then-fails_next-clause-within c =
    within_more (files_of c.args.self.now.initial) (files_of c.count_call.new.self.initial) (files_of c.args.self.now.files)
    c.args.self.now.events.items c.count_call.new.self.events.items c.push_reserved.new.self.items (Wrote c.args.self.now.calls c.args.which c.args.at c.from_vec-bytes_written.result false)
    c.args.self.now.shown c.args.self.now.within (ap files_of c.count_call.ensures.counted.initial) (ap (λ v. v.items) c.count_call.ensures.counted.events ∙ c.reserve.ensures.items) c.push_reserved.ensures.items
    (le-leb c.args.at _ c.requires)

pub returns-clause-crash : goal.returns-clause-crash
returns-clause-crash c =
    one_write (files_of c.args.self.now.initial) (files_of c.args.self.now.initial) c.args.self.now.events.items c.reserve.new.self.items c.push_reserved-2.new.self.items
    c.args.self.now.calls c.args.which c.args.at (length c.args.bytes.now) c.from_vec-bytes_written.result true
    refl c.reserve.ensures.items c.push_reserved-2.ensures.items
    (ap length (c.from_vec-bytes_written.ensures ∙ c.in-Ok.ensures.items))

pub invariant_of-self-2-clause-shown : goal.invariant_of-self-2-clause-shown
invariant_of-self-2-clause-shown c =
    let bytes : c.from_vec-bytes_written.result ≡ c.args.bytes.now = c.from_vec-bytes_written.ensures ∙ c.in-Ok.ensures.items in
    let written : files_of c.write.new.self ≡ with_write c.args.which c.args.at c.args.bytes.now (files_of c.args.self.now.files) = search rules in
    shown_push (files_of c.args.self.now.initial) (files_of c.args.self.now.initial) (files_of c.args.self.now.files) (files_of c.write.new.self)
    c.args.self.now.events.items c.reserve.new.self.items c.push_reserved-2.new.self.items (Wrote c.args.self.now.calls c.args.which c.args.at c.from_vec-bytes_written.result true)
    c.args.self.now.shown refl c.reserve.ensures.items c.push_reserved-2.ensures.items
    (written ∙ (λ k. with_write c.args.which c.args.at ((sym bytes) k) (files_of c.args.self.now.files)))

pub invariant_of-self-2-clause-within : goal.invariant_of-self-2-clause-within
invariant_of-self-2-clause-within c =
    within_more (files_of c.args.self.now.initial) (files_of c.args.self.now.initial) (files_of c.args.self.now.files)
    c.args.self.now.events.items c.reserve.new.self.items c.push_reserved-2.new.self.items (Wrote c.args.self.now.calls c.args.which c.args.at c.from_vec-bytes_written.result true)
    c.args.self.now.shown c.args.self.now.within refl c.reserve.ensures.items c.push_reserved-2.ensures.items
    (le-leb c.args.at _ c.requires)
