use Rattle.std.proofs.Common.{◌≡◌, ◌∙◌, ℕ, List, [], length, sym, ap, subst}
use Rattle.ss_undo.specs.Indexed.{AreIndexed}
use Rattle.ss_undo.specs.declared.change.Change.{Change}
use Rattle.ss_shard.specs.ShardValue.{ShardValue}
use Rattle.ss_shard.specs.Shards.{AllKeyed, IsOf, IsCommitted}
use Rattle.ss_shard.specs.Parts.{MayAbsorb, HasAbsorbed}
use Rattle.ss_shard.specs.contracts.shard.Shard.{the_view}
use Rattle.ss_shard.proofs.BlankHomes.{few_homes, has_homes}
use Rattle.ss_shard.proofs.Joining.{groups_alike, takes_in, absorbed}
use Rattle.ss_shard.proofs.shard.Shard.absorb.Goals as goal

pub absorb_lists-requires-clause-may : goal.absorb_lists-requires-clause-may
absorb_lists-requires-clause-may c =
    let held = c.requires.may.0 in
    let may : MayAbsorb c.args.catalog.now c.args.parts held (the_view c.self.inside) (the_view c.other.inside) =
    subst (λ (s : ShardValue). MayAbsorb c.args.catalog.now c.args.parts held s (the_view c.other.inside)) (sym c.self.view_is)
    (subst (λ (o : ShardValue). MayAbsorb c.args.catalog.now c.args.parts held c.args.self.now o) (sym c.other.view_is) c.requires.may.1) in
    takes_in c.args.catalog.now c.args.parts c.requires.some held (the_view c.self.inside) (the_view c.other.inside) may

pub absorb_lists-requires-clause-each : goal.absorb_lists-requires-clause-each
absorb_lists-requires-clause-each c =
    let catalog = c.args.catalog.now in
    let is : IsOf catalog (the_view c.self.inside) = subst (λ (s : ShardValue). IsOf catalog s) (sym c.self.view_is) c.requires.may.1.own.committed.of_catalog in
    groups_alike catalog c.self.inside.tables c.self.inside.indexes is.tables is.indexes

pub absorb_lists-requires-clause-indexed : goal.absorb_lists-requires-clause-indexed
absorb_lists-requires-clause-indexed c =
    let may = c.requires.may.1 in
    let none : c.self.inside.undo.items ≡ [] = ap (λ (s : ShardValue). s.changes) c.self.view_is ∙ may.own.committed.empty in
    let other_none : c.other.inside.undo.items ≡ [] = ap (λ (s : ShardValue). s.changes) c.other.view_is ∙ may.others.committed.empty in (
      subst (λ (cs : List Change). AreIndexed c.self.inside.tables cs c.self.inside.indexes) none c.self.invariant.0,
      subst (λ (cs : List Change). AreIndexed c.other.inside.tables cs c.other.inside.indexes) other_none c.other.invariant.0,
    )

pub exchange_homes-requires-clause-few : goal.exchange_homes-requires-clause-few
exchange_homes-requires-clause-few c =
    let catalog = c.args.catalog.now in
    let is : IsCommitted catalog (the_view c.self.inside) = subst (λ (s : ShardValue). IsCommitted catalog s) (sym c.self.view_is) c.requires.may.1.own.committed in
    few_homes catalog (the_view c.self.inside) c.requires.accepted (has_homes catalog (the_view c.self.inside) is)

pub write_over-requires : goal.write_over-requires
write_over-requires c =
    let may = c.requires.may.1 in
    let own = ap (λ (s : ShardValue). length s.bodies) c.self.view_is ∙ may.own.committed.of_catalog.bodies.count in
    let others = ap (λ (s : ShardValue). length s.bodies) c.other.view_is ∙ may.others.committed.of_catalog.bodies.count in
    own ∙ sym (ap length c.as_slice-2.ensures ∙ others)

pub returns-clause-ok : goal.returns-clause-ok
returns-clause-ok c =
    let catalog = c.args.catalog.now in
    let n = c.args.parts in
    let new = c.exchange_homes.new.shard in
    let back = c.exchange_homes.new.other in
    let ensures = c.in_ok-absorb_lists.ensures in
    subst (λ (s : ShardValue). (held : List ℕ) → MayAbsorb catalog n held s c.args.other.now → HasAbsorbed catalog n held s c.args.other.now new back) c.self.view_is
    (subst (λ (o : ShardValue). (held : List ℕ) → MayAbsorb catalog n held (the_view c.self.inside) o → HasAbsorbed catalog n held (the_view c.self.inside) o new back) c.other.view_is
    (λ held may.
    absorbed catalog n c.requires.some held (the_view c.self.inside) (the_view c.other.inside) may
    c.absorb_lists.new.tables c.absorb_lists.new.others _ _ ensures.ok.0 ensures.ok.1 (subst (λ hs. AllKeyed hs) c.as_slice.ensures c.all_are_keyed.ensures)
    ensures.columns.0 ensures.columns.1 _ (c.write_over.ensures ∙ c.as_slice-2.ensures) new back c.exchange_homes.ensures.here c.exchange_homes.ensures.there))
