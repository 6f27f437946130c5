use Rattle.std.proofs.Common.{◌∙◌, ◌++◌, ◌∷◌, [], set, ap, sym}
use Rattle.ss_run.proofs.OneReplied.{one_replied}
use Rattle.ss_run.proofs.replies.Replies.add.Goals as goal

pub returns-clause-answers : goal.returns-clause-answers
returns-clause-answers c =
    let changed = one_replied _ _ c.args.client _ _ c.add.new.self c.self.view_is c.from.ensures c.in-Some.ensures.item in
    changed.answers ∙ ap (set c.args.self.now.answers c.args.client) (c.add.ensures.answers ∙ ap (λ xs. xs ++ c.args.answer ∷ []) (sym changed.was))

pub returns-clause-room : goal.returns-clause-room
returns-clause-room c =
    let changed = one_replied _ _ c.args.client _ _ c.add.new.self c.self.view_is c.from.ensures c.in-Some.ensures.item in
    rw (changed.room_now, changed.room) c.add.ensures.room

pub returns-clause-elsewhere : goal.returns-clause-elsewhere
returns-clause-elsewhere c =
    let changed = one_replied _ _ c.args.client _ _ c.add.new.self c.self.view_is c.from.ensures c.in-Some.ensures.item in
    changed.elsewhere
