use Rattle.std.proofs.Common.{◌≡◌, ◌∙◌, ap, sym, subst, map, slice_get}
use Rattle.std.specs.Prelude.{IfOk}
use Rattle.std.specs.FinMap as finmap
use Rattle.std.specs.Option.{option_copied}
use Rattle.ss_model.specs.Database.{NextNumbers}
use Rattle.ss_shard.specs.ShardValue.{ShardValue}
use Rattle.ss_shard.specs.Sources.{lent_source, numbers_at, positive}
use Rattle.ss_shard.proofs.Numbered.{none_pushed}
use Rattle.ss_shard.proofs.Placed.{no_stream, numbers_here}
use Rattle.ss_shard.proofs.shard.Shard.numbered_sources.Goals as goal

pub returns-in-Some : goal.returns-in-Some
returns-in-Some c =
    let sources = c.self.inside.sources in
    let here = numbers_here sources c.args.stream c.in-Some.sources.now (ap (slice_get sources) (sym c.from.ensures) ∙ c.in-Some.ensures.item) in
    subst (λ (ns : NextNumbers). IfOk c.numbered.result (λ list. map lent_source list.items ≡ finmap.entries (positive ns)))
    (sym here ∙ ap (λ (s : ShardValue). numbers_at s.sources c.args.stream) c.self.view_is) c.numbered.ensures

pub returns-in-None : goal.returns-in-None
returns-in-None c =
    let sources = c.self.inside.sources in
    let none = no_stream sources c.args.stream (ap (slice_get sources) (sym c.from.ensures) ∙ sym c.get.ensures.value ∙ ap option_copied c.in-None.is) in
    ap (map lent_source) c.new.ensures.items
    ∙ sym none_pushed
    ∙ ap (λ (ns : NextNumbers). finmap.entries (positive ns)) (sym none ∙ ap (λ (s : ShardValue). numbers_at s.sources c.args.stream) c.self.view_is)
