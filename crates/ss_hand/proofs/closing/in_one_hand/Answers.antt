use Rattle.std.proofs.Common.{◌≡◌, ℕ, List, length, sym, ap, ◌∙◌, subst}
use Rattle.std.specs.List.{range_with_len}
use Rattle.std.specs.List.Sorted.{IsStrictlyIncreasing}
use Rattle.ss_hand.specs.Apart.{numbers_in}
use Rattle.ss_hand.specs.Hands.{KnowsWith}
use Rattle.ss_hand.proofs.InOrder.{numbers_are, range_rises}
use Rattle.ss_hand.proofs.closing.in_one_hand.Goals as goal

pub join_all-requires-clause-rising : goal.join_all-requires-clause-rising
join_all-requires-clause-rising g c =
    let all : numbers_in c.in_ok-hand.hand ≡ range_with_len 0 (length c.args.partitions) = c.in_ok-hand.ensures.numbers ∙ numbers_are 0 c.args.partitions c.requires.all.0 in
    subst IsStrictlyIncreasing (sym all) (range_rises 0 (length c.args.partitions))

pub returns-clause-ok : goal.returns-clause-ok
returns-clause-ok g c =
    let n = g.I.Life.parts in
    let all : numbers_in c.in_ok-hand.hand ≡ range_with_len 0 n = c.in_ok-hand.ensures.numbers ∙ numbers_are 0 c.args.partitions c.requires.all.0 ∙ ap (range_with_len 0) c.requires.all.1 in
    subst (λ (held : List ℕ). KnowsWith g.I.Life.catalog n g.I.Life.opening held c.join_all.new.note c.join_all.new.hand) all c.in_ok-join_all.ensures.ok
