use Rattle.std.proofs.Common.{◌≡◌, ◌==◌, ◌&&◌, ◌∙◌, ℕ, Bool, true, false, List, get_or, slice_get, ap, sym, subst, arith}
use Rattle.std.proofs.lemmas.Option.{get_or_from_slice_get}
use Rattle.ss_lemmas.proofs.Numbers.{eqb_apart, eqb_self}
use Rattle.ss_model.specs.Settling.{is_ready_now}
use Rattle.ss_sched.specs.Progress.{HasProgress}
use Rattle.ss_commitlog.proofs.reading.is_ready_there.Goals as goal

pub returns-then-home-p : goal.returns-then-home-p
returns-then-home-p c db far =
    let homes = c.args.homes.now in
    let here : get_or homes c.args.q 0 ≡ c.at-home.result.now = get_or_from_slice_get homes c.args.q c.at-home.result.now 0 (ap (slice_get homes) (sym c.from.ensures) ∙ c.at-home.ensures) in
    let off : (get_or homes c.args.q 0 == c.args.p) ≡ false = eqb_apart _ _ (λ e. (let apart = c.if-home-p.true in let at : get_or homes c.args.q 0 ≡ c.args.p = e in omega arith)) in
    sym (ap (λ (b : Bool). b && is_ready_now c.args.catalog.now db c.args.q) off)

pub returns : goal.returns
returns c db far =
    let homes = c.args.homes.now in
    let here : get_or homes c.args.q 0 ≡ c.at-home.result.now = get_or_from_slice_get homes c.args.q c.at-home.result.now 0 (ap (slice_get homes) (sym c.from.ensures) ∙ c.at-home.ensures) in
    let same : get_or homes c.args.q 0 ≡ c.args.p = let there = c.if-home-p.false in omega arith in
    let on : (get_or homes c.args.q 0 == c.args.p) ≡ true = ap (λ (h : ℕ). h == c.args.p) same ∙ eqb_self c.args.p in
    c.ready.ensures db (subst (λ (ns : List ℕ). HasProgress db ns c.args.streams.now.streams) (sym c.as_slice.ensures) far)
    ∙ sym (ap (λ (b : Bool). b && is_ready_now c.args.catalog.now db c.args.q) on)
