-- Each entry that is asked for is known by its client and index.
use Rattle.std.proofs.Common.{◌≡◌, ◌∙◌, ◌+◌, ◌<◌, ◌≤◌, ◌==◌, ◌⊎◌, inl, inr, ℕ, zero, suc, List, [], ◌∷◌, ◌++◌, length, cond, Some, None, refl, sym, ap, arith}
use Rattle.std.specs.List.{Contains, count_by}
use Rattle.std.proofs.lemmas.Bool.{cases_Bool, eqb-true, eq-eqb, cond-true, cond-false}
use Rattle.std.proofs.lemmas.List.Sums.{sum_by_push}
use Rattle.ss_model.specs.declared.entry.Entry.{Entry}
use Rattle.ss_model.specs.declared.entry.Request.{Request}
use Rattle.ss_model.specs.Report.{asked_entry, entries_behind, asked_entries, client_index}
use Rattle.ss_lemmas.proofs.Bools.{some_same}
use Rattle.ss_report_laws.proofs.AnswersInOrder.{asked_index}

-- an element is the first, or further behind
contained : {A : Type 0} (y : A) (ys : List A) (x : A) → Contains (y ∷ ys) x → (y ≡ x) ⊎ Contains ys x
contained y ys x (zero, within, there) = inl there
contained y ys x (suc k, within, there) = inr (k, (let h : suc k < length (y ∷ ys) = within in omega arith), there)

-- where an entry has an index among a client's requests, it is that client's, and that is its index
answered_index : (client c n i : ℕ) → cond (c == client) (Some n) None ≡ Some i → (c ≡ client) × (n ≡ i)
answered_index client c n i e = elim (cases_Bool (c == client)) [
  | inl same ↦ (eqb-true c client same, some_same n i (sym (cond-true (c == client) (Some n) None same) ∙ e))
  | inr other ↦ let none : None ≡ Some i = sym (cond-false (c == client) (Some n) None other) ∙ e in absurd (cc)
]

-- how many requests of a client there are
abbrev requests_of : ℕ → List Request → ℕ
requests_of client rs = count_by (λ (x : Request). x.client == client) rs

one_more : (client : ℕ) (earlier : List Request) (r : Request) → requests_of client (earlier ++ r ∷ []) ≡ requests_of client earlier + cond (r.client == client) 1 0
one_more client earlier r = sum_by_push (λ (x : Request). cond (x.client == client) 1 0) earlier r

-- the index of what a request asks for is the number of its client's earlier requests
first_index : (client i : ℕ) (earlier : List Request) (r : Request) (e : Entry)
    → asked_entry r.client (requests_of r.client earlier) r.what ≡ e → client_index client e ≡ Some i → (r.client ≡ client) × (requests_of client earlier ≡ i)
first_index client i earlier r e is answered =
    let both = answered_index client r.client (requests_of r.client earlier) i (sym (asked_index client r.client (requests_of r.client earlier) r.what) ∙ ap (client_index client) is ∙ answered) in
    (both.0, ap (λ c. requests_of c earlier) (sym both.0) ∙ both.1)

-- behind requests no index is below their number
later_index : (client i : ℕ) (earlier rs : List Request) (e : Entry) → Contains (entries_behind earlier rs) e → client_index client e ≡ Some i → requests_of client earlier ≤ i
later_index client i earlier [] e among answered = let none : among.0 < 0 = among.1 in absurd (omega arith)
later_index client i earlier (r ∷ rs) e among answered = elim (contained _ (entries_behind (earlier ++ r ∷ []) rs) e among) [
  | inl here ↦ let both = first_index client i earlier r e here answered in omega (arith, both.1)
  | inr behind ↦ omega (arith, later_index client i (earlier ++ r ∷ []) rs e behind answered, one_more client earlier r)
]

-- a request's own entry stands before the others of its client
not_later : (client i : ℕ) (earlier rs : List Request) (r : Request) (e f : Entry) → asked_entry r.client (requests_of r.client earlier) r.what ≡ e
    → Contains (entries_behind (earlier ++ r ∷ []) rs) f → client_index client e ≡ Some i → client_index client f ≡ Some i → ⊥
not_later client i earlier rs r e f is among answered same =
    let both = first_index client i earlier r e is answered in
    let counted = cond-true {A = ℕ} (r.client == client) 1 0 (eq-eqb r.client client both.0) in
    omega (arith, both.1, later_index client i (earlier ++ r ∷ []) rs f among same, one_more client earlier r, counted)

-- two entries, each the request's own or behind it
either_way : (client i : ℕ) (earlier rs : List Request) (r : Request) (e f : Entry)
    → (Contains (entries_behind (earlier ++ r ∷ []) rs) e → Contains (entries_behind (earlier ++ r ∷ []) rs) f → client_index client e ≡ Some i → client_index client f ≡ Some i → e ≡ f)
    → client_index client e ≡ Some i → client_index client f ≡ Some i
    → (asked_entry r.client (requests_of r.client earlier) r.what ≡ e) ⊎ Contains (entries_behind (earlier ++ r ∷ []) rs) e
    → (asked_entry r.client (requests_of r.client earlier) r.what ≡ f) ⊎ Contains (entries_behind (earlier ++ r ∷ []) rs) f → e ≡ f
either_way client i earlier rs r e f behind answered same (inl p) (inl q) = sym p ∙ q
either_way client i earlier rs r e f behind answered same (inl p) (inr q) = absurd (not_later client i earlier rs r e f p q answered same)
either_way client i earlier rs r e f behind answered same (inr p) (inl q) = absurd (not_later client i earlier rs r f e q p same answered)
either_way client i earlier rs r e f behind answered same (inr p) (inr q) = behind p q answered same

same_behind : (client i : ℕ) (earlier rs : List Request) (e f : Entry) → Contains (entries_behind earlier rs) e → Contains (entries_behind earlier rs) f
    → client_index client e ≡ Some i → client_index client f ≡ Some i → e ≡ f
same_behind client i earlier [] e f among also answered same = let none : among.0 < 0 = among.1 in absurd (omega arith)
same_behind client i earlier (r ∷ rs) e f among also answered same =
    either_way client i earlier rs r e f (same_behind client i (earlier ++ r ∷ []) rs e f) answered same
    (contained _ (entries_behind (earlier ++ r ∷ []) rs) e among) (contained _ (entries_behind (earlier ++ r ∷ []) rs) f also)

-- entries that are asked for, of one client and index, are one
pub same_asked : (client i : ℕ) (requests : List Request) (e f : Entry) → Contains (asked_entries requests) e → Contains (asked_entries requests) f
    → client_index client e ≡ Some i → client_index client f ≡ Some i → e ≡ f
same_asked client i requests = same_behind client i [] requests
