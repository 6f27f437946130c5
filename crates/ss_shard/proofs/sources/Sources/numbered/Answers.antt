use Rattle.std.proofs.Common.{◌∙◌, ℕ, List, Bor, sym, subst}
use Rattle.ss_shard.proofs.Numbers.{key_bytes}
use Rattle.ss_shard.proofs.Numbered.{Lists, lists_none, lists_more, lists_still, lists_all}
use Rattle.ss_shard.proofs.sources.Sources.numbered.Goals as goal

pub loop-name-init : goal.loop-name-init
loop-name-init c =
    lists_none key_bytes c.args.self.now c.self.inside.numbers.entries c.into_iter-name-iterator.result c.new-list.result.items c.self.view_is
    (c.into_iter-name-iterator.ensures.into_iter_gives ∙ c.iter-name-items.ensures.rest) c.new-list.ensures.items c.iter-name-items.ensures.ordered c.iter-name-items.ensures.found

pub loop-name-preserved-in-Continue-1 : goal.loop-name-preserved-in-Continue-1
loop-name-preserved-in-Continue-1 c =
    subst (Lists key_bytes c.args.self.now c.next.new.self) (sym {A = List (Bor (List ℕ) × ℕ)} c.in_ok-push.ensures.items)
    (lists_more key_bytes c.args.self.now c.loop-name.name-iterator c.loop-name.list.items c.loop-name.invariant (c.in-Some.name.now, c.in-Some.number.now) c.next.new.self c.as_slice.result
    c.in-Some.ensures.steps c.as_slice.ensures.value c.if-number-ge1.true)

pub loop-name-preserved : goal.loop-name-preserved
loop-name-preserved c =
    lists_still key_bytes c.args.self.now c.loop-name.name-iterator c.loop-name.list.items c.loop-name.invariant (c.in-Some.name.now, c.in-Some.number.now) c.next.new.self
    c.in-Some.ensures.steps c.if-number-ge1.false

pub returns : goal.returns
returns c = lists_all key_bytes c.args.self.now c.loop-name.name-iterator c.loop-name.list.items c.loop-name.invariant c.in-None.ensures.steps.0
