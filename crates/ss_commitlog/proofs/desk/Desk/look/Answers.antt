use Rattle.std.proofs.Common.{◌≡◌, ◌∙◌, refl, sym, ap, subst, List, IfOk}
use Rattle.std.specs.declared.option.Option.{Option}
use Rattle.ss_value.specs.Rows.{Rows}
use Rattle.ss_model.specs.Replays.{after}
use Rattle.ss_commitlog.specs.declared.rule.Item.{Item}
use Rattle.ss_commitlog.specs.Meaning.{listed_of}
use Rattle.ss_commitlog.specs.Reading.{found_batch}
use Rattle.ss_commitlog.proofs.Desks.{looks_there, found_now}
use Rattle.ss_commitlog.proofs.desk.Desk.look.Goals as goal

pub batch_for-requires : goal.batch_for-requires
batch_for-requires g c = looks_there _ _ _ _ _ _ _ _ _ _ _ _ _ _ c.self.invariant c.args.consumer c.args.stream c.requires.takes

pub returns-clause-ok : goal.returns-clause-ok
returns-clause-ok g c =
    let found = found_now _ _ _ _ _ _ _ _ _ _ _ _ _ _ c.self.invariant c.self.inside.streams refl c.args.consumer c.args.stream c.args.r c.requires.takes in
    let is = c.show.ensures.token.0.list_is in
    let same = found ∙ ap (λ (l : List Item). found_batch (after g.I.Life.catalog g.I.Life.opening (listed_of l)) c.args.stream c.args.consumer c.args.r) (sym is) in
    subst (λ (x : Option Rows). IfOk c.batch_for.result (λ found. found ≡ x)) same c.batch_for.ensures
