use Rattle.std.proofs.Common.{◌≡◌, ◌∙◌, sym, ap, true, false, is_some, slice_set}
use Rattle.ss_undo.proofs.CallerLemmas.{set_same}
use Rattle.ss_shard.proofs.Exchanging.{one_exchanged, nothing_here, nothing_there}
use Rattle.ss_shard.proofs.exchanges.exchange_at.Goals as goal

pub returns-in_default-clause-here : goal.returns-in_default-clause-here
returns-in_default-clause-here g c =
    nothing_here c.args.place c.args.items.now c.args.others.now
    (λ within.
    let some : is_some c.get_mut.result ≡ true = c.get_mut.ensures.within.1 within in
    let none : is_some c.get_mut.result ≡ false = ap is_some c.in_default.is in
    let never : false ≡ true = sym none ∙ some in
    cc)

pub returns-in_default-clause-there : goal.returns-in_default-clause-there
returns-in_default-clause-there g c =
    nothing_there c.args.place c.args.others.now c.args.items.now
    (λ within.
    let some : is_some c.get_mut.result ≡ true = c.get_mut.ensures.within.1 within in
    let none : is_some c.get_mut.result ≡ false = ap is_some c.in_default.is in
    let never : false ≡ true = sym none ∙ some in
    cc)

pub returns-in_default-get_mut-clause-here : goal.returns-in_default-get_mut-clause-here
returns-in_default-get_mut-clause-here g c =
    set_same c.args.items.now c.args.place c.in-Some.item.now c.in-Some.ensures.item
    ∙ nothing_there c.args.place c.args.items.now c.args.others.now
    (λ within.
    let some : is_some c.get_mut-2.result ≡ true = c.get_mut-2.ensures.within.1 within in
    let none : is_some c.get_mut-2.result ≡ false = ap is_some c.in_default-get_mut.is in
    let never : false ≡ true = sym none ∙ some in
    cc)

pub returns-in_default-get_mut-clause-there : goal.returns-in_default-get_mut-clause-there
returns-in_default-get_mut-clause-there g c =
    nothing_here c.args.place c.args.others.now c.args.items.now
    (λ within.
    let some : is_some c.get_mut-2.result ≡ true = c.get_mut-2.ensures.within.1 within in
    let none : is_some c.get_mut-2.result ≡ false = ap is_some c.in_default-get_mut.is in
    let never : false ≡ true = sym none ∙ some in
    cc)

pub returns-clause-here : goal.returns-clause-here
returns-clause-here g c =
    ap (slice_set c.args.items.now c.args.place) c.swap.ensures.x_after
    ∙ one_exchanged c.args.place c.args.items.now c.args.others.now c.in-Some-get_mut.other.now c.in-Some-get_mut.ensures.item

pub returns-clause-there : goal.returns-clause-there
returns-clause-there g c =
    ap (slice_set c.args.others.now c.args.place) c.swap.ensures.y_after
    ∙ one_exchanged c.args.place c.args.others.now c.args.items.now c.in-Some.item.now c.in-Some.ensures.item
