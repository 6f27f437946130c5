use Rattle.std.proofs.Common.{◌≡◌, ◌∙◌, ◌<◌, true, false, ap, sym, subst, set, slice_get, length, is_some}
use Rattle.std.specs.Prelude.{IsSome}
use Rattle.std.specs.FinMap as finite
use Rattle.ss_model.specs.Database.{NextNumbers}
use Rattle.ss_undo.specs.Indexed.{columns_of}
use Rattle.ss_shard.specs.ShardValue.{ShardValue}
use Rattle.ss_shard.specs.Sources.{numbers_at, HasSource, with_number}
use Rattle.ss_shard.proofs.Placed.{none_past, numbers_here}
use Rattle.ss_shard.proofs.shard.Shard.set_number.Goals as goal

pub unreachable-requires : goal.unreachable-requires
unreachable-requires c =
    none_past c.self.inside.sources c.args.stream c.args.source.now
    (subst (λ (s : ShardValue). HasSource s.sources c.args.stream c.args.source.now) (sym c.self.view_is) c.requires)
    (λ within.
    let some : is_some c.get_mut.result ≡ true = c.get_mut.ensures.within.1 (subst (λ n. n < length c.self.inside.sources) (sym c.from.ensures) within) in
    let none : is_some c.get_mut.result ≡ false = ap is_some c.in_default.is in
    let never : false ≡ true = sym none ∙ some in
    cc)

pub set-requires : goal.set-requires
set-requires c =
    let sources = c.self.inside.sources in
    let here : numbers_at sources c.args.stream ≡ c.in-Some.sources.now = numbers_here sources c.args.stream c.in-Some.sources.now (ap (slice_get sources) (sym c.from.ensures) ∙ c.in-Some.ensures.item) in
    subst (λ (ns : NextNumbers). IsSome (finite.get ns c.args.source.now)) here
    (subst (λ (s : ShardValue). HasSource s.sources c.args.stream c.args.source.now) (sym c.self.view_is) c.requires)

pub returns : goal.returns
returns c =
    let inside = c.self.inside in
    let sources = inside.sources in
    let stream = c.args.stream in
    let source = c.args.source.now in
    let view : ShardValue = record { number = inside.number; tables = inside.tables; changes = inside.undo.items; columns = columns_of inside.indexes; windows = inside.windows; cursors = inside.cursors; sources = inside.sources; bodies = inside.bodies; coming = inside.coming } in
    let here : numbers_at sources stream ≡ c.in-Some.sources.now = numbers_here sources stream c.in-Some.sources.now (ap (slice_get sources) (sym c.from.ensures) ∙ c.in-Some.ensures.item) in
    let put : c.set.new.self ≡ finite.insert (numbers_at sources stream) source c.args.next = c.set.ensures ∙ ap (λ (ns : NextNumbers). finite.insert ns source c.args.next) (sym here) in
    (λ i. record view { sources = set sources (c.from.ensures i) (put i) })
    ∙ ap (λ (s : ShardValue). record s { sources = with_number s.sources stream source c.args.next }) c.self.view_is
