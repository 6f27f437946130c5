-- A list of one client's requests that has no step is the requests in their order, but for some.
use Rattle.std.proofs.Common.{◌≡◌, ◌∙◌, ◌≤◌, ◌<◌, ◌==◌, inl, inr, ℕ, zero, suc, ◌+◌, List, [], ◌∷◌, ◌++◌, length, true, false, cond, Option, Some, None, refl, sym, ap, subst, arith}
use Rattle.std.specs.List.{AllByRecursion, Contains, cons_option, filter_map}
use Rattle.ss_lemmas.proofs.Bools.{some_same}
use Rattle.ss_lemmas.proofs.Numbers.{eqb_self}
use Rattle.ss_model.specs.declared.entry.Entry.{Entry}
use Rattle.ss_model.specs.declared.entry.Entry.TheVariants.{Call, Push, Step as StepEntry, Install}
use Rattle.ss_model.specs.declared.entry.Listed.{Listed}
use Rattle.ss_model.specs.declared.entry.Request.{Request}
use Rattle.ss_model.specs.Report.{IsAsked, Rising, asked_entries, entries_behind, client_index, is_step}
use Rattle.ss_standing.specs.Standing.{listed_entries}
use Rattle.ss_report_laws.specs.PartOf.{IsPartOf}
use Rattle.ss_report_laws.proofs.CallerLemmas.{asked_index, before, count_here}
use Rattle.ss_run_laws.specs.OneClient.{OneClientInOrder}
use Rattle.ss_run_laws.proofs.Resting.{no_steps}

rising_rest : (i : ℕ) (js : List ℕ) → Rising (i ∷ js) → Rising js
rising_rest i [] h = tt
rising_rest i (j ∷ js) h = h.1

-- what is asked for, and is no step, is among the entries
pub among_asked : (requests : List Request) (e : Entry) → is_step e ≡ false → IsAsked requests e → Contains (asked_entries requests) e
among_asked requests (Call c i q args) other asked = asked
among_asked requests (Push c i s source seq rows) other asked = asked
among_asked requests (StepEntry q r) other asked = cc
among_asked requests (Install c i q text) other asked = asked

module _ (c : ℕ) where
  -- the client's own, whose indices rise by one, from this one on
  abbrev pub AreNumbered : ℕ → List Entry → Type 0
  AreNumbered n [] = Unit {0}
  AreNumbered n (e ∷ es) = (client_index c e ≡ Some n) × AreNumbered (n + 1) es

  -- so are the entries of its requests
  pub numbered : (earlier rs : List Request) → AllByRecursion (λ (r : Request). r.client ≡ c) rs → AreNumbered (before c earlier) (entries_behind earlier rs)
  numbered earlier [] all = tt
  numbered earlier (r ∷ rs) all =
      let own : (r.client == c) ≡ true = ap (λ z. z == c) all.0 ∙ eqb_self c in (
        asked_index c r.client (before r.client earlier) r.what ∙ ap (λ b. cond b (Some (before r.client earlier)) None) own ∙ ap (λ z. Some (before z earlier)) all.0,
        subst (λ n. AreNumbered n (entries_behind (earlier ++ r ∷ []) rs)) (count_here (λ (x : Request). x.client == c) earlier r own) (numbered (earlier ++ r ∷ []) rs all.1),
      )

  -- each has an index, from there on
  pub index_from : (n : ℕ) (es : List Entry) (x : Entry) → AreNumbered n es → Contains es x → (i : ℕ) × (client_index c x ≡ Some i) × (n ≤ i)
  index_from n [] x all among = absurd (let none : among.0 < 0 = among.1 in omega (arith, none))
  index_from n (e ∷ es) x all (zero, within, there) = (n, ap (client_index c) (sym there) ∙ all.0, omega arith)
  index_from n (e ∷ es) x all (suc k, within, there) =
      let rest = index_from (n + 1) es x all.1 (k, (let lt : suc k < length (e ∷ es) = within in omega (arith, lt)), there) in
      (rest.0, rest.1, let le = rest.2 in omega (arith, le))

  -- one with a greater index than the first is behind it
  behind : (n : ℕ) (e : Entry) (es : List Entry) (x : Entry) (j : ℕ) → AreNumbered n (e ∷ es) → client_index c x ≡ Some j → n < j → Contains (e ∷ es) x → Contains es x
  behind n e es x j all index lt (zero, within, there) = absurd (let same = some_same n j (sym all.0 ∙ ap (client_index c) there ∙ index) in omega (arith, lt, same))
  behind n e es x j all index lt (suc k, within, there) = (k, (let less : suc k < length (e ∷ es) = within in omega (arith, less)), there)

  -- and so are all that rise from one that is no lower
  all_behind : (n : ℕ) (e : Entry) (es xs : List Entry) (i : ℕ) → AreNumbered n (e ∷ es) → n ≤ i → AllByRecursion (Contains (e ∷ es)) xs → Rising (i ∷ filter_map (client_index c) xs)
      → AllByRecursion (Contains es) xs
  all_behind n e es [] i all le among rises = tt
  all_behind n e es (x ∷ xs) i all le among rises =
      let (j, index, from) = index_from n (e ∷ es) x all among.0 in
      let both : Rising (i ∷ j ∷ filter_map (client_index c) xs) = subst (λ (o : Option ℕ). Rising (i ∷ cons_option o (filter_map (client_index c) xs))) index rises in
      let lt : i < j = both.0 in
      (behind n e es x j all index (omega (arith, le, lt)) among.0, all_behind n e es xs j all (omega (arith, le, lt)) among.1 both.1)

  -- entries of these whose indices rise are these, but for some
  pub part : (n : ℕ) (es xs : List Entry) → AreNumbered n es → AllByRecursion (Contains es) xs → Rising (filter_map (client_index c) xs) → IsPartOf xs es
  part n es [] all among rises = tt
  part n [] (x ∷ xs) all among rises = absurd (let none : among.0.0 < 0 = among.0.1 in omega (arith, none))
  part n (e ∷ es) (x ∷ xs) all ((zero, within, there), others) rises =
      let (i, index, from) = index_from n (e ∷ es) x all (zero, within, there) in
      let later : Rising (i ∷ filter_map (client_index c) xs) = subst (λ (o : Option ℕ). Rising (cons_option o (filter_map (client_index c) xs))) index rises in
      inl (sym there, part (n + 1) es xs all.1 (all_behind n e es xs i all from others later) (rising_rest i (filter_map (client_index c) xs) later))
  part n (e ∷ es) (x ∷ xs) all ((suc k, within, there), others) rises =
      let (i, index, from) = index_from n (e ∷ es) x all (suc k, within, there) in
      let later : Rising (i ∷ filter_map (client_index c) xs) = subst (λ (o : Option ℕ). Rising (cons_option o (filter_map (client_index c) xs))) index rises in
      inr (part (n + 1) es (x ∷ xs) all.1 ((k, (let lt : suc k < length (e ∷ es) = within in omega (arith, lt)), there), all_behind n e es xs i all from others later) rises)

  -- the indices of a list are those of its entries
  same_indices : (list : List Listed) → filter_map (λ (l : Listed). client_index c l.entry) list ≡ filter_map (client_index c) (listed_entries list)
  same_indices [] = refl
  same_indices (l ∷ ls) = ap (λ is. cons_option (client_index c l.entry) is) (same_indices ls)

all_among : (requests : List Request) (list : List Listed) → AllByRecursion (λ (l : Listed). is_step l.entry ≡ false) list → AllByRecursion (λ (l : Listed). IsAsked requests l.entry) list
    → AllByRecursion (Contains (asked_entries requests)) (listed_entries list)
all_among requests [] others asked = tt
all_among requests (l ∷ ls) others asked = (among_asked requests l.entry others.0 asked.0, all_among requests ls others.1 asked.1)

pub one_client_in_order : OneClientInOrder
one_client_in_order = λ catalog accepted db client requests list runs.
    let others = no_steps catalog accepted list db runs.in_step runs.settled runs.lists.replays runs.none_accepted in
    part client 0 (asked_entries requests) (listed_entries list) (numbered client [] requests runs.alone) (all_among requests list others runs.lists.asked)
    (subst Rising (same_indices client list) (runs.lists.in_turn client))
