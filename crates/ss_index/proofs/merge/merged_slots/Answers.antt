use Rattle.std.proofs.Common.{◌≡◌, ◌++◌, [], ◌∷◌, List, ℕ, length, Some, None, ◌<◌, option_copied, option_map, sym, ap, subst, ◌∙◌, append_assoc}
use Rattle.std.proofs.lemmas.List.{append-nil}
use Rattle.ss_index.specs.Pairs.{Pair, slots_in}
use Rattle.ss_index.specs.Entries.{pair_in, pairs_in}
use Rattle.ss_index.specs.Merges.{fronts, in_front, AllRise, least_of, skip_all}
use Rattle.ss_index.proofs.Merging.{all_rise, skip_fewer, slot_first, slots_end, none_left}
use Rattle.ss_index.proofs.merge.merged_slots.Goals as goal

pub loop-entry-preserved : goal.loop-entry-preserved
loop-entry-preserved c =
    let ls = fronts c.loop-entry.heads.items in
    let p : Pair = pair_in c.in-Some.entry.now in
    let least : least_of ls ≡ Some p = ap (λ hs. least_of (fronts hs)) (sym c.as_slice.ensures.value) ∙ sym c.least.ensures ∙ ap (λ o. option_map pair_in (option_copied o)) c.in-Some.is in
    let next : fronts c.in_ok-next.next.items ≡ skip_all p ls = c.in_ok-next.ensures ∙ ap (λ hs. skip_all p (fronts hs)) c.as_slice-in-Some.ensures.value in
    let left : List ℕ → Type 0 = λ t. c.push.new.self ++ t ≡ slots_in (pairs_in (in_front (fronts c.args.heads.items))) [] c.args.high.now in (
      subst AllRise (sym next) (all_rise p ls c.loop-entry.invariant.0),
      subst (λ fs. left (slots_in (pairs_in (in_front fs)) [] c.args.high.now)) (sym next)
          (ap (λ t. t ++ slots_in (pairs_in (in_front (skip_all p ls))) [] c.args.high.now) c.in_ok-push.ensures.ok
          ∙ append_assoc c.loop-entry.slots (p.1 ∷ []) (slots_in (pairs_in (in_front (skip_all p ls))) [] c.args.high.now)
          ∙ ap (λ t. c.loop-entry.slots ++ t) (sym (slot_first c.args.high.now ls p c.loop-entry.invariant.0 least (sym c.is_past.ensures ∙ c.if-is_past.false)))
          ∙ c.loop-entry.invariant.1),
    )

pub loop-entry-smaller : goal.loop-entry-smaller
loop-entry-smaller c =
    let ls = fronts c.loop-entry.heads.items in
    let p : Pair = pair_in c.in-Some.entry.now in
    let least : least_of ls ≡ Some p = ap (λ hs. least_of (fronts hs)) (sym c.as_slice.ensures.value) ∙ sym c.least.ensures ∙ ap (λ o. option_map pair_in (option_copied o)) c.in-Some.is in
    let next : fronts c.in_ok-next.next.items ≡ skip_all p ls = c.in_ok-next.ensures ∙ ap (λ hs. skip_all p (fronts hs)) c.as_slice-in-Some.ensures.value in
    subst (λ fs. length (in_front fs) < length (in_front ls)) (sym next) (skip_fewer ls p least)

pub returns-then-is_past : goal.returns-then-is_past
returns-then-is_past c =
    let ls = fronts c.loop-entry.heads.items in
    let p : Pair = pair_in c.in-Some.entry.now in
    let least : least_of ls ≡ Some p = ap (λ hs. least_of (fronts hs)) (sym c.as_slice.ensures.value) ∙ sym c.least.ensures ∙ ap (λ o. option_map pair_in (option_copied o)) c.in-Some.is in
    sym (append-nil c.loop-entry.slots)
    ∙ ap (λ t. c.loop-entry.slots ++ t) (sym (slots_end c.args.high.now ls p c.loop-entry.invariant.0 least (sym c.is_past.ensures ∙ c.if-is_past.true)))
    ∙ c.loop-entry.invariant.1

pub returns : goal.returns
returns c =
    let ls = fronts c.loop-entry.heads.items in
    let none : least_of ls ≡ None = ap (λ hs. least_of (fronts hs)) (sym c.as_slice.ensures.value) ∙ sym c.least.ensures ∙ ap (λ o. option_map pair_in (option_copied o)) c.in_default.is in
    sym (append-nil c.loop-entry.slots) ∙ ap (λ t. c.loop-entry.slots ++ t) (sym (none_left c.args.high.now ls none)) ∙ c.loop-entry.invariant.1
