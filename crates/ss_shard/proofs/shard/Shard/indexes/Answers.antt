use Rattle.std.proofs.Common.{◌≡◌, sym, ap, subst, ◌∙◌, Some, option_map, slice_get}
use Rattle.std.specs.Prelude.{IfSome}
use Rattle.std.proofs.lemmas.Option.{slice_get-map}
use Rattle.ss_table.specs.TableValue.{TableValue}
use Rattle.ss_undo.specs.Holding.{HaveRows}
use Rattle.ss_undo.proofs.CallerLemmas.{rows_are_there}
use Rattle.ss_undo.specs.Indexed.{noted_rows, columns_in}
use Rattle.ss_shard.specs.ShardValue.{ShardValue}
use Rattle.ss_lemmas.proofs.Results.{some_so}
use Rattle.ss_shard.proofs.shard.Shard.indexes.Goals as goal

pub returns-clause-rows : goal.returns-clause-rows
returns-clause-rows c =
    let t = c.args.table in
    let inside = c.self.inside in
    subst (λ (s : ShardValue). IfSome c.get.result (λ group. (h : TableValue) → slice_get s.tables t ≡ Some h → HaveRows h.live group.now)) c.self.view_is
    (some_so c.get.result _ _
    (λ group item h here. rows_are_there h (noted_rows t inside.undo.items) group.now (c.self.invariant.0 t h group.now here (ap (slice_get inside.indexes) (sym c.from.ensures) ∙ item)))
    c.get.ensures.item)

pub returns-clause-columns : goal.returns-clause-columns
returns-clause-columns c =
    ap (option_map columns_in) (c.get.ensures.value ∙ ap (slice_get c.self.inside.indexes) c.from.ensures)
    ∙ sym (slice_get-map columns_in c.self.inside.indexes c.args.table)
    ∙ ap (λ (s : ShardValue). slice_get s.columns c.args.table) c.self.view_is
