use Rattle.std.proofs.Common.{rules, ◌≡◌, ◌≤◌, ◌∙◌, sym, ap, subst, arith, length, map, take, List, Option, Some, ℕ, length-take, ◌∷◌, []}
use Rattle.atomic_table.specs.Table.{opening}
use Rattle.ss_party.specs.Rule.{HasOwnValues}
use Rattle.ss_party.proofs.Lists.{begins, same_values}
use Rattle.ss_party.proofs.bays.Bays.new.Goals as goal

abbrev ones : List ℕ
ones = 1 ∷ 1 ∷ 1 ∷ 1 ∷ 1 ∷ 1 ∷ 1 ∷ 1 ∷ []

count_ones : (n : ℕ) → n ≤ 8 → length (take n ones) ≡ n
count_ones n low = simp length-take (omega arith)

pub new-requires : goal.new-requires
new-requires g c =
    let n : c.len-count.result ≡ length c.args.items = search rules in
    let low : c.len-count.result ≤ 8 = search rules in
    let same = c.reserve.ensures.items ∙ c.into_vec-items.ensures in
    let filled = c.fill_slots.ensures.slots ∙ ap (λ (l : List g.row.T.Denot). map (λ (x : g.row.T.Denot). Some x) l) same in
    subst (λ (l : List (Option g.row.T.Denot)). HasOwnValues g.T.Tagged.tag (opening (take c.len-count.result ones) l tt)) (sym filled)
    (begins g.T.Tagged.tag (take c.len-count.result ones) c.args.items (count_ones c.len-count.result low ∙ n) c.requires.tags)

pub returns-in-Err : goal.returns-in-Err
returns-in-Err g c =
    let filled = c.fill_slots.ensures.slots ∙ ap (λ (l : List g.row.T.Denot). map (λ (x : g.row.T.Denot). Some x) l) (c.reserve.ensures.items ∙ c.into_vec-items.ensures) in
    record { ok = tt; err = c.from_vec-in-Err.ensures ∙ same_values c.empty_slots.new.items.items c.args.items (c.empty_slots.ensures ∙ (c.in-Err.ensures.err ∙ filled)) }
