-- Requests, their entries, and what a list has of them.
use Rattle.std.proofs.Common.{◌≡◌, ◌<◌, ◌∙◌, ◌==◌, inl, inr, ℕ, zero, suc, Bool, true, not, cond, List, [], ◌∷◌, ◌++◌, take, drop, slice_get, Some, None, append_assoc, append-nil, ap, sym, subst, refl}
use Rattle.std.proofs.lemmas.Bool.{ltb-true}
use Rattle.std.specs.declared.option.Option.{Option}
use Rattle.std.specs.List.{count_by, list_all}
use Rattle.ss_lemmas.proofs.LoopItem.{drop_at}
use Rattle.ss_model.specs.declared.catalog.Catalog.{Catalog}
use Rattle.ss_model.specs.declared.catalog.Procedure.{Procedure}
use Rattle.ss_model.specs.declared.entry.Answer.{Answer}
use Rattle.ss_model.specs.declared.entry.Answer.TheVariants.{Listed as ListedAnswer, NoMemory, ListFull, Halted}
use Rattle.ss_model.specs.declared.entry.Asked.{Asked}
use Rattle.ss_model.specs.declared.entry.Asked.TheVariants.{Call as CallAsked, Push as PushAsked, Install as InstallAsked}
use Rattle.ss_model.specs.declared.entry.Entry.{Entry}
use Rattle.ss_model.specs.declared.entry.Listed.{Listed}
use Rattle.ss_model.specs.declared.entry.Outcome.{Outcome}
use Rattle.ss_model.specs.declared.entry.Request.{Request}
use Rattle.ss_model.specs.Database.{Database, fits_entry, has_call, is_ready_entry}
use Rattle.ss_model.specs.Report.{asked_entry, asked_entries, entries_behind, is_step}
use Rattle.ss_lemmas.proofs.Bools.{first_of_two, second_of_two}
use Rattle.ss_run.specs.BySteps.{Answered, GoesOnBySteps, IsAnswered}
use Rattle.ss_report_laws.specs.PartOf.{IsPartOf}
use Rattle.ss_run.specs.RunAnswers.{AnswersInOrder, all_fit, client_entries}
use Rattle.ss_run.specs.Stands.{with_entry}
use Rattle.ss_run.proofs.BySteps.{client_append}

-- how many requests of a client
abbrev pub count_of : ℕ → List Request → ℕ
count_of client rs = count_by (λ (x : Request). x.client == client) rs

-- ---- entries of requests
asked_split : (earlier xs ys : List Request) → entries_behind earlier (xs ++ ys) ≡ entries_behind earlier xs ++ entries_behind (earlier ++ xs) ys
asked_split earlier [] ys = ap (λ (e : List Request). entries_behind e ys) (sym (append-nil earlier))
asked_split earlier (x ∷ xs) ys =
    ap (λ (es : List Entry). asked_entry x.client (count_of x.client earlier) x.what ∷ es)
    (asked_split (earlier ++ x ∷ []) xs ys ∙ ap (λ (e : List Request). entries_behind (earlier ++ x ∷ []) xs ++ entries_behind e ys) (append_assoc earlier (x ∷ []) xs))

asked_more : (xs : List Request) (r : Request) → asked_entries (xs ++ r ∷ []) ≡ asked_entries xs ++ asked_entry r.client (count_of r.client xs) r.what ∷ []
asked_more xs r = asked_split [] xs (r ∷ [])

take_drop : {A : Type 0} (xs : List A) (i : ℕ) → xs ≡ take i xs ++ drop i xs
take_drop [] zero = refl
take_drop [] (suc i) = refl
take_drop (x ∷ xs) zero = refl
take_drop (x ∷ xs) (suc i) = ap (λ ys. x ∷ ys) (take_drop xs i)

pub take_at : {A : Type 0} (xs : List A) (i : ℕ) (x : A) → slice_get xs i ≡ Some x → take (suc i) xs ≡ take i xs ++ x ∷ []
take_at [] i x here = cc
take_at (y ∷ ys) zero x here = let same : y ≡ x = cc in ap (λ z. z ∷ []) same
take_at (y ∷ ys) (suc i) x here = ap (λ zs. y ∷ zs) (take_at ys i x here)

-- a list up to a place, what stands there, and what is behind
pub parted : {A : Type 0} (xs : List A) (i : ℕ) (x : A) → slice_get xs i ≡ Some x → xs ≡ take i xs ++ x ∷ drop (suc i) xs
parted xs i x here = take_drop xs i ∙ ap (λ ys. take i xs ++ ys) (drop_at xs i x here)

all_behind : {A : Type 0} (test : A → Bool) (xs ys : List A) → list_all test (xs ++ ys) ≡ true → list_all test ys ≡ true
all_behind test [] ys all = all
all_behind test (x ∷ xs) ys all = all_behind test xs ys (second_of_two (test x) _ all)

-- each request fits, with its number among its client's
pub fits_at : (catalog : Catalog) (rs : List Request) (i : ℕ) (r : Request) → all_fit catalog rs ≡ true → slice_get rs i ≡ Some r → fits_entry catalog (asked_entry r.client (count_of r.client (take i rs)) r.what) ≡ true
fits_at catalog rs i r fit here =
    let split : asked_entries rs ≡ asked_entries (take i rs) ++ entries_behind (take i rs) (r ∷ drop (suc i) rs) = ap asked_entries (parted rs i r here) ∙ asked_split [] (take i rs) (r ∷ drop (suc i) rs) in
    first_of_two _ _ (all_behind (fits_entry catalog) (asked_entries (take i rs)) (entries_behind (take i rs) (r ∷ drop (suc i) rs)) (subst (λ (es : List Entry). list_all (fits_entry catalog) es ≡ true) split fit))

-- its client is one of 8
client_below : (catalog : Catalog) (client index : ℕ) (what : Asked) → fits_entry catalog (asked_entry client index what) ≡ true → client < 8
client_below catalog client index (CallAsked q args) fits = by (slice_get catalog.procedures q) fits
  where
    by : (o : Option Procedure) → has_call client args o ≡ true → client < 8
    by None e = cc
    by (Some p) e = ltb-true client 8 (first_of_two _ _ (first_of_two _ _ e))
client_below catalog client index (PushAsked s source seq rows) fits = ltb-true client 8 (first_of_two _ _ (first_of_two _ _ (first_of_two _ _ (first_of_two _ _ fits))))
client_below catalog client index (InstallAsked q text) fits = ltb-true client 8 (first_of_two _ _ (first_of_two _ _ (first_of_two _ _ fits)))

pub client_at : (catalog : Catalog) (rs : List Request) (i : ℕ) (r : Request) → all_fit catalog rs ≡ true → slice_get rs i ≡ Some r → r.client < 8
client_at catalog rs i r fit here = client_below catalog r.client (count_of r.client (take i rs)) r.what (fits_at catalog rs i r fit here)

-- what a client asks for waits for nothing
pub asked_ready : (catalog : Catalog) (db : Database) (client index : ℕ) (what : Asked) → is_ready_entry catalog db (asked_entry client index what) ≡ true
asked_ready catalog db client index (CallAsked q args) = refl
asked_ready catalog db client index (PushAsked s source seq rows) = refl
asked_ready catalog db client index (InstallAsked q text) = refl

-- ---- lists that leave some out
part_keep : {A : Type 0} (xs ys : List A) (y : A) → IsPartOf xs ys → IsPartOf (xs ++ y ∷ []) (ys ++ y ∷ [])
part_keep [] [] y h = inl (refl, tt)
part_keep [] (z ∷ ys) y h = inr (part_keep [] ys y tt)
part_keep (x ∷ xs) [] y h = absurd h
part_keep (x ∷ xs) (z ∷ ys) y (inl p) = inl (p.0, part_keep xs ys y p.1)
part_keep (x ∷ xs) (z ∷ ys) y (inr q) = inr (part_keep (x ∷ xs) ys y q)

part_skip : {A : Type 0} (xs ys : List A) (y : A) → IsPartOf xs ys → IsPartOf xs (ys ++ y ∷ [])
part_skip [] ys y h = tt
part_skip (x ∷ xs) [] y h = absurd h
part_skip (x ∷ xs) (z ∷ ys) y (inl p) = inl (p.0, part_skip xs ys y p.1)
part_skip (x ∷ xs) (z ∷ ys) y (inr q) = inr (part_skip (x ∷ xs) ys y q)

-- steps change nothing of what clients asked for
steps_same : (list new : List Listed) → GoesOnBySteps list new → client_entries new ≡ client_entries list
steps_same list new on = ap client_entries on.is ∙ client_append list on.steps ∙ ap (λ (es : List Entry). client_entries list ++ es) on.all_steps ∙ append-nil (client_entries list)

-- so what they asked for stays in order
pub in_order_on : (requests : List Request) (list new : List Listed) → GoesOnBySteps list new → AnswersInOrder requests list → AnswersInOrder requests new
in_order_on requests list new on in_order = rw (steps_same list new on) in_order

is_asked : (client index : ℕ) (what : Asked) (ls : List Entry) → cond (not (is_step (asked_entry client index what))) (asked_entry client index what ∷ ls) ls ≡ asked_entry client index what ∷ ls
is_asked client index (CallAsked q args) ls = refl
is_asked client index (PushAsked s source seq rows) ls = refl
is_asked client index (InstallAsked q text) ls = refl

answered_entries : (list new : List Listed) (client index place : ℕ) (what : Asked) (o : Outcome) → Answered list new (asked_entry client index what) place o → client_entries new ≡ client_entries list ++ asked_entry client index what ∷ []
answered_entries list new client index place what o a =
    steps_same (with_entry list (asked_entry client index what) o) new a.by_steps ∙ client_append list (record { entry = asked_entry client index what; outcome = o } ∷ [])
    ∙ ap (λ (es : List Entry). client_entries list ++ es) (is_asked client index what [])

-- one request more, answered or left out
pub in_order_next : (rs : List Request) (list new : List Listed) (r : Request) (a : Answer) → IsPartOf (client_entries list) (asked_entries rs) → IsAnswered list new (asked_entry r.client (count_of r.client rs) r.what) a
    → IsPartOf (client_entries new) (asked_entries (rs ++ r ∷ []))
in_order_next rs list new r (ListedAnswer place outcome) part is =
    rw (asked_more rs r, answered_entries list new r.client (count_of r.client rs) place r.what outcome is) (part_keep (client_entries list) (asked_entries rs) _ part)
in_order_next rs list new r NoMemory part is = rw (asked_more rs r, is) (part_skip (client_entries list) (asked_entries rs) _ part)
in_order_next rs list new r (ListFull n) part is = absurd is
in_order_next rs list new r (Halted n) part is = absurd is
