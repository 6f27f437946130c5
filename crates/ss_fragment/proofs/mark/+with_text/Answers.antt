use Rattle.std.proofs.Common.{rules, sym, arith}
use Rattle.std.specs.Option.{option_copied}
use Rattle.ss_fragment.proofs.Shares.{no_part, room_after}
use Rattle.ss_fragment.proofs.Deciding.{none_decides}
use Rattle.ss_fragment.proofs.mark.+with_text.Goals as goal

pub returns-then-part-eq0-clause-prefix : goal.returns-then-part-eq0-clause-prefix
returns-then-part-eq0-clause-prefix t c =
    let none = no_part c.args.bytes.now c.args.room (option_copied c.args.next) c.if-part-eq0.true in
    rw none (omega arith)

pub returns-then-part-eq0-clause-decides : goal.returns-then-part-eq0-clause-decides
returns-then-part-eq0-clause-decides t c = sym (none_decides c.args.bytes.now c.args.room (option_copied c.args.next) c.if-part-eq0.true)

pub with_text-requires : goal.with_text-requires
with_text-requires t c =
    let share = c.share-begin.ensures in
    (search rules, room_after c.args.number c.args.room c.in-Some.byte.now c.share-begin.result.0 c.share-begin.result.1 share.begin share.parts c.requires)
