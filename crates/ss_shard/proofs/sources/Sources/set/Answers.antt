use Rattle.std.proofs.Common.{◌∙◌, ℕ, ap, sym, subst, List, is_some}
use Rattle.std.specs.FinMap as finite
use Rattle.std.specs.BTreeMap.{is_at}
use Rattle.std.specs.Map.{set_value}
use Rattle.std.specs.Option.{option_copied_mut}
use Rattle.ss_model.specs.Database.{NextNumbers}
use Rattle.ss_shard.specs.Sources.{AreNames}
use Rattle.ss_shard.proofs.Numbers.{bytes_cmp, key_bytes, numbers_of, number_at, has_number, number_set, named_still}
use Rattle.ss_shard.proofs.sources.Sources.set.Goals as goal

pub unreachable-requires : goal.unreachable-requires
unreachable-requires c =
    let entries = c.self.inside.numbers.entries in
    let some = has_number key_bytes entries c.args.self.now c.args.source.now c.self.view_is c.requires in
    let none = ap is_some (ap (number_at key_bytes entries) (sym c.as_bytes.ensures.bytes) ∙ sym c.get_mut.ensures.value ∙ ap option_copied_mut c.in_default.is) in
    let never = sym none ∙ some in
    cc

pub returns : goal.returns
returns c =
    let entries = c.self.inside.numbers.entries in
    let written = (c.get_mut.follows.holds c.args.next).0 in
    number_set key_bytes entries (c.get_mut.follows.lender c.args.next).entries c.args.source.now c.args.next (has_number key_bytes entries c.args.self.now c.args.source.now c.self.view_is c.requires)
    (written ∙ ap (λ (q : List ℕ). set_value (is_at (λ k. bytes_cmp q (key_bytes k))) entries c.args.next) c.as_bytes.ensures.bytes)
    ∙ ap (λ (ns : NextNumbers). finite.insert ns c.args.source.now c.args.next) c.self.view_is

pub invariant_of-self : goal.invariant_of-self
invariant_of-self c =
    let entries = c.self.inside.numbers.entries in
    let written = (c.get_mut.follows.holds c.args.next).0 in
    subst AreNames (sym (
    number_set key_bytes entries (c.get_mut.follows.lender c.args.next).entries c.args.source.now c.args.next (has_number key_bytes entries c.args.self.now c.args.source.now c.self.view_is c.requires)
    (written ∙ ap (λ (q : List ℕ). set_value (is_at (λ k. bytes_cmp q (key_bytes k))) entries c.args.next) c.as_bytes.ensures.bytes)
    ))
    (named_still (numbers_of key_bytes entries) c.args.source.now c.args.next c.as_bytes.ensures.name c.self.invariant)
