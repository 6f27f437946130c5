use Rattle.std.proofs.Common.{◌≡◌, ◌+◌, ℕ, List, length, sym, subst}
use Rattle.ss_model.specs.Replays.{after}
use Rattle.ss_commitlog.specs.declared.rule.Item.{Item}
use Rattle.ss_commitlog.specs.Meaning.{listed_of}
use Rattle.ss_receipts.specs.Checkpointing.{IsCheckpointed, IsOfDatabase}
use Rattle.ss_receipts.proofs.Tokens.{continue_twice, know_twice}
use Rattle.ss_receipts.proofs.Wholes.{none_behind}
use Rattle.ss_receipts.proofs.checkpoint.made_checkpoint.Goals as goal

pub flushed_and_imaged-answer-requires-clause-stand : goal.flushed_and_imaged-answer-requires-clause-stand
flushed_and_imaged-answer-requires-clause-stand g c =
    let (list, at) = c.requires.one in
    let known = c.with_all.new.keeper.note.list in
    let same : known ≡ list = none_behind g.I.Life.catalog g.I.Life.parts c.requires.all.0 known list c.args.marks.now c.requires.all.1 at.known (c.requires.all.2 known c.with_all.ensures.replays) c.with_all.ensures.marks.1 in
    subst (λ (l : List Item). IsOfDatabase g.I.Life.catalog (after g.I.Life.catalog g.I.Life.opening (listed_of l)) c.args.whole.now c.args.streams.now.streams) (sym same) at.of

pub returns-clause-marks : goal.returns-clause-marks
returns-clause-marks g c =
    let first = c.with_all.ensures.marks in
    let then' = c.shown_to_all-2.ensures.marks in
    let known = c.with_all.new.keeper.note.list in
    let later = c.shown_to_all-2.new.keeper.note.list in (
      later,
      c.shown_to_all-2.ensures.within,
      know_twice known later c.args.marks.now c.with_all.new.marks c.shown_to_all-2.new.marks first.0 then'.0,
      continue_twice g.I.Life.catalog g.I.Life.parts known later c.args.marks.now c.with_all.new.marks first.0 first.1 then'.1,
    )

pub returns-clause-answer : goal.returns-clause-answer
returns-clause-answer g c = λ list at.
    let known = c.with_all.new.keeper.note.list in
    let same : known ≡ list = none_behind g.I.Life.catalog g.I.Life.parts c.requires.all.0 known list c.args.marks.now c.requires.all.1 at (c.requires.all.2 known c.with_all.ensures.replays) c.with_all.ensures.marks.1 in
    let told = subst (λ (n : ℕ). IsCheckpointed (g.I.Life.first + length known) n c.flushed_and_imaged-answer.result) (sym c.shown_to_all-2.ensures.keeper.2) c.flushed_and_imaged-answer.ensures.answer in
    subst (λ (l : List Item). IsCheckpointed (g.I.Life.first + length l) c.shown_to_all-2.new.keeper.note.faults c.flushed_and_imaged-answer.result) same told
