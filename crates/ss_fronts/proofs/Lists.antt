-- Parts of lists, and what clients asked for in them.
use Rattle.std.proofs.Common.{◌≡◌, ◌∙◌, ℕ, zero, suc, ◌+◌, ◌≤◌, List, [], ◌∷◌, ◌++◌, length, take, drop, refl, sym, ap, arith, length-append, length-take-le, take-add, take-append-drop}
use Rattle.std.proofs.lemmas.List.{drop_at, drop-append-le, drop-drop, map-append, take-take}
use Rattle.ss_model.specs.declared.entry.Entry.{Entry}
use Rattle.ss_model.specs.declared.entry.Entry.TheVariants.{Call, Push, Step as StepEntry, Install}
use Rattle.ss_model.specs.declared.entry.Listed.{Listed}
use Rattle.ss_model.specs.declared.entry.Mode.TheVariants.{Strong, Weak}
use Rattle.ss_model.specs.Asked.{asked_of, listed_entries}
use Rattle.ss_weak_lists.proofs.CallerLemmas.{asked_append}
use Rattle.ss_cmdlog.specs.Logged.{logged}
use Rattle.ss_fronts.specs.WeakFronts.{asked_between, between}

-- a strong log has all entries, and a weak one the requests
pub all_logged : (entries : List Entry) → logged Strong entries ≡ entries
all_logged [] = refl
all_logged (e ∷ es) = ap (λ (l : List Entry). e ∷ l) (all_logged es)

pub asked_logged : (entries : List Entry) → logged Weak entries ≡ asked_of entries
asked_logged entries = refl

-- so many first requests are those of some first entries
pub asked_take : (k : ℕ) (es : List Entry) → k ≤ length (asked_of es) → (n : ℕ) × (n ≤ length es) × (asked_of (take n es) ≡ take k (asked_of es))
asked_take zero es few = (zero, omega arith, refl)
asked_take (suc k) [] few = absurd (omega arith)
asked_take (suc k) (Call client index q args ∷ es) few =
    let rest = asked_take k es (omega (arith, few)) in
    (suc rest.0, omega (arith, rest.1), ap (λ z. Call client index q args ∷ z) rest.2)
asked_take (suc k) (Push client index s source seq rows ∷ es) few =
    let rest = asked_take k es (omega (arith, few)) in
    (suc rest.0, omega (arith, rest.1), ap (λ z. Push client index s source seq rows ∷ z) rest.2)
asked_take (suc k) (Install client index q text ∷ es) few =
    let rest = asked_take k es (omega (arith, few)) in
    (suc rest.0, omega (arith, rest.1), ap (λ z. Install client index q text ∷ z) rest.2)
asked_take (suc k) (StepEntry q r ∷ es) few =
    let rest = asked_take (suc k) es few in
    (suc rest.0, omega (arith, rest.1), rest.2)

-- what is behind the first list and some of the next one
pub drop_behind : (known list : List Listed) (n : ℕ) → drop (length known + n) (known ++ list) ≡ drop n list
drop_behind known list n = sym (drop-drop n (length known) (known ++ list)) ∙ ap (drop n) (drop_at known list (length known) refl)

-- the requests of one list behind another
asked_both : (one other : List Listed) → asked_of (listed_entries (one ++ other)) ≡ asked_of (listed_entries one) ++ asked_of (listed_entries other)
asked_both one other = ap asked_of (map-append (λ (l : Listed). l.entry) one other) ∙ asked_append (listed_entries one) (listed_entries other)

-- the requests of some entries more
pub between_more : (before held n : ℕ) (history : List Listed) → before ≤ held → held ≤ length history
    → asked_between before (held + n) history ≡ asked_between before held history ++ asked_of (listed_entries (take n (drop held history)))
between_more before held n history ordered within =
    let parts : between before (held + n) history ≡ between before held history ++ take n (drop held history) =
    ap (drop before) (take-add held n history) ∙ drop-append-le before (take held history) (take n (drop held history)) (omega (arith, ordered, length-take-le held history within)) in
    ap (λ l. asked_of (listed_entries l)) parts ∙ asked_both (between before held history) (take n (drop held history))

-- up to a position there are the requests before an earlier one, and those between the two
pub asked_count : (before some : ℕ) (history : List Listed) → before ≤ some
    → length (asked_between 0 some history) ≡ length (asked_between 0 before history) + length (asked_between before some history)
asked_count before some history ordered =
    let parts : take before history ++ between before some history ≡ take some history =
    ap (λ (l : List Listed). l ++ between before some history) (sym (take-take before some history ordered)) ∙ take-append-drop before (take some history) in
    ap (λ l. length (asked_of (listed_entries l))) (sym parts) ∙ ap length (asked_both (take before history) (between before some history))
    ∙ length-append (asked_between 0 before history) (asked_between before some history)
