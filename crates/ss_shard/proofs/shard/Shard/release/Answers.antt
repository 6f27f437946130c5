use Rattle.std.proofs.Common.{◌≡◌, ◌∙◌, ℕ, List, [], length, sym, ap, subst}
use Rattle.ss_undo.specs.Indexed.{AreIndexed}
use Rattle.ss_undo.specs.declared.change.Change.{Change}
use Rattle.ss_shard.specs.ShardValue.{ShardValue}
use Rattle.ss_shard.specs.Shards.{AllKeyed, IsOf, IsCommitted}
use Rattle.ss_shard.specs.Parts.{MayRelease, HasReleased}
use Rattle.ss_shard.specs.contracts.shard.Shard.{the_view}
use Rattle.ss_shard.proofs.BlankHomes.{few_homes, has_homes}
use Rattle.ss_shard.proofs.Joining.{groups_alike, gives_back, released}
use Rattle.ss_shard.proofs.shard.Shard.release.Goals as goal

pub release_lists-requires-clause-may : goal.release_lists-requires-clause-may
release_lists-requires-clause-may c =
    let held = c.requires.may.0 in
    let may : MayRelease c.args.catalog.now c.args.parts held (the_view c.self.inside) (the_view c.back.inside) =
    subst (λ (s : ShardValue). MayRelease c.args.catalog.now c.args.parts held s (the_view c.back.inside)) (sym c.self.view_is)
    (subst (λ (o : ShardValue). MayRelease c.args.catalog.now c.args.parts held c.args.self.now o) (sym c.back.view_is) c.requires.may.1) in
    gives_back c.args.catalog.now c.args.parts held (the_view c.self.inside) (the_view c.back.inside) may

pub release_lists-requires-clause-each : goal.release_lists-requires-clause-each
release_lists-requires-clause-each c =
    let catalog = c.args.catalog.now in
    let is : IsOf catalog (the_view c.self.inside) = subst (λ (s : ShardValue). IsOf catalog s) (sym c.self.view_is) c.requires.may.1.parts.committed.of_catalog in
    groups_alike catalog c.self.inside.tables c.self.inside.indexes is.tables is.indexes

pub release_lists-requires-clause-indexed : goal.release_lists-requires-clause-indexed
release_lists-requires-clause-indexed c =
    let may = c.requires.may.1 in
    let none : c.self.inside.undo.items ≡ [] = ap (λ (s : ShardValue). s.changes) c.self.view_is ∙ may.parts.committed.empty in
    let back_none : c.back.inside.undo.items ≡ [] = ap (λ (s : ShardValue). s.changes) c.back.view_is ∙ may.lent.changes in (
      subst (λ (cs : List Change). AreIndexed c.self.inside.tables cs c.self.inside.indexes) none c.self.invariant.0,
      subst (λ (cs : List Change). AreIndexed c.back.inside.tables cs c.back.inside.indexes) back_none c.back.invariant.0,
    )

pub exchange_homes-requires-clause-few : goal.exchange_homes-requires-clause-few
exchange_homes-requires-clause-few c =
    let catalog = c.args.catalog.now in
    let is : IsCommitted catalog (the_view c.self.inside) = subst (λ (s : ShardValue). IsCommitted catalog s) (sym c.self.view_is) c.requires.may.1.parts.committed in
    few_homes catalog (the_view c.self.inside) c.requires.accepted (has_homes catalog (the_view c.self.inside) is)

pub write_over-requires : goal.write_over-requires
write_over-requires c =
    let may = c.requires.may.1 in
    let own = ap (λ (s : ShardValue). length s.bodies) c.self.view_is ∙ may.parts.committed.of_catalog.bodies.count in
    let shell = ap (λ (s : ShardValue). length s.bodies) c.back.view_is ∙ may.lent.bodies in
    shell ∙ sym (ap length c.as_slice-3.ensures ∙ own)

pub returns : goal.returns
returns c =
    let catalog = c.args.catalog.now in
    let n = c.args.parts in
    let new = c.exchange_homes.new.shard in
    let back = c.exchange_homes.new.other in
    let ensures = c.release_lists.ensures in
    subst (λ (s : ShardValue). (held : List ℕ) → MayRelease catalog n held s c.args.back.now → HasReleased catalog n held s c.args.back.now new back) c.self.view_is
    (subst (λ (o : ShardValue). (held : List ℕ) → MayRelease catalog n held (the_view c.self.inside) o → HasReleased catalog n held (the_view c.self.inside) o new back) c.back.view_is
    (λ held may.
    released catalog n held (the_view c.self.inside) (the_view c.back.inside) may
    c.release_lists.new.tables c.release_lists.new.backs _ _ ensures.given (subst (λ hs. AllKeyed hs) c.as_slice.ensures c.all_are_keyed.ensures) (subst (λ hs. AllKeyed hs) c.as_slice-2.ensures c.all_are_keyed-2.ensures)
    ensures.columns.0 ensures.columns.1 _ (c.write_over.ensures ∙ c.as_slice-3.ensures) new back c.exchange_homes.ensures.here c.exchange_homes.ensures.there))
