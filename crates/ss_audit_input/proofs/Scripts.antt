-- Where a script ends and a report begins, line by line.
use Rattle.std.proofs.Common.{◌≡◌, ◌≤◌, ◌<◌, ◌∙◌, ℕ, suc, true, false, true≢false, List, [], ◌∷◌, length, take, drop, get_or, Ok, refl, sym, ap, subst, arith}
use Rattle.std.specs.Prelude.{IfSome, is_some, slice_get}
use Rattle.std.proofs.lemmas.List.{append-nil, drop_all, length-take-le, take_all, take-append-drop}
use Rattle.ss_lemmas.proofs.LoopItem.{next}
use Rattle.serde_json.specs.Data.{Data, Items, null, boolean, number, string, array, object}
use Rattle.serde_json.specs.Find.{as_array}
use Rattle.ss_lines.specs.declared.line.Line.{Line}
use Rattle.ss_lines.specs.Json.{value_at}
use Rattle.ss_model.specs.declared.catalog.Catalog.{Catalog}
use Rattle.ss_model.specs.declared.entry.Request.{Request}
use Rattle.ss_model.specs.SparesAside.{with_spares}
use Rattle.ss_catalog.proofs.CallerLemmas.{ok_same}
use Rattle.ss_catalog_requests.specs.declared.request.RequestError.{RequestError}
use Rattle.ss_catalog_requests.specs.Answers.{RefusesWithoutSpares}
use Rattle.ss_refusals.specs.declared.input.InputError.{InputError}
use Rattle.ss_refusals.specs.declared.input.InputError.TheVariants.{Line as OfLine, NoCatalog, Catalog as OfCatalog, Request as OfRequest}
use Rattle.ss_refusals.specs.Refused.{RefusesRequest}
use Rattle.ss_refusals.specs.Starts.{AskInOrder}
use Rattle.ss_refusals.proofs.CallerLemmas.{parts_at, refused_value}
use Rattle.ss_audit_input.specs.Audits.{AreScript, BeginsReport}
use Rattle.ss_audit_input.specs.Refused.{RefusesAsked, RefusesScript}

-- ---- arrays

-- a value that has items is the array of them
is_array : (d : Data) → is_some (as_array d) ≡ true → (items : Items) × (d ≡ array items)
is_array null is = absurd (true≢false (sym is))
is_array (boolean b) is = absurd (true≢false (sym is))
is_array (number n) is = absurd (true≢false (sym is))
is_array (string s) is = absurd (true≢false (sym is))
is_array (array items) is = (items, refl)
is_array (object members) is = absurd (true≢false (sym is))

-- so a line with such a value begins a report
pub begins : (l : Line) (d : Data) → value_at l ≡ Ok d → is_some (as_array d) ≡ true → BeginsReport l
begins l d json is =
    let its = is_array d is in
    record { items = its.0; json = json ∙ ap Ok its.1 }

-- and one with another value doesn't
pub begins_none : (l : Line) (d : Data) → value_at l ≡ Ok d → is_some (as_array d) ≡ false → BeginsReport l → ⊥
begins_none l d json none is =
    let same : d ≡ array is.items = ok_same (value_at l) d (array is.items) json is.json in
    true≢false (sym (ap (λ (x : Data). is_some (as_array x)) same) ∙ none)

-- a line of a script that is refused for its value
pub refused_as_asked : (catalog : Catalog) (l : Line) (d : Data) (e : RequestError) → value_at l ≡ Ok d → is_some (as_array d) ≡ false → RefusesRequest catalog l e → RefusesAsked catalog l (OfRequest e)
refused_as_asked catalog l d e json none refused = (refused, begins_none l d json none)

-- what is refused of a catalogue with more bodies is refused of it
pub asked_refused : RefusesWithoutSpares → (first now : Catalog) → now ≡ with_spares first now.spares → (l : Line) (e : InputError) → RefusesAsked now l e → RefusesAsked first l e
asked_refused aside first now same l (OfLine e) h = h
asked_refused aside first now same l (OfRequest e) h = (refused_value aside first now same l e h.0, h.1)
asked_refused aside first now same l NoCatalog h = h
asked_refused aside first now same l (OfCatalog n e) h = h

-- ---- scripts

-- there are as many requests as lines
pub asked_many : (catalog : Catalog) (ls : List Line) (rs : List Request) → AskInOrder catalog ls rs → length rs ≡ length ls
asked_many catalog [] [] all = refl
asked_many catalog [] (r ∷ rs) all = absurd all
asked_many catalog (l ∷ ls) [] all = absurd all
asked_many catalog (l ∷ ls) (r ∷ rs) all = ap suc (asked_many catalog ls rs all.1)

pub asked_before : (catalog : Catalog) (ls : List Line) (i : ℕ) (rs : List Request) → i ≤ length ls → AskInOrder catalog (take i ls) rs → length rs ≡ i
asked_before catalog ls i rs within asked = asked_many catalog (take i ls) rs asked ∙ length-take-le i ls within

-- lines are a script up to the one that begins a report
pub script_before : (catalog : Catalog) (ls : List Line) (i : ℕ) (rs : List Request) (l : Line) → i < length ls → l ≡ get_or ls i l → AskInOrder catalog (take i ls) rs → BeginsReport l
    → AreScript catalog ls rs (drop (length rs) ls)
script_before catalog ls i rs l h is asked one =
    let many : length rs ≡ i = asked_before catalog ls i rs (omega arith) asked in
    subst (λ (n : ℕ). AreScript catalog ls rs (drop n ls)) (sym many) (record {
      script = take i ls;
      parts = sym (take-append-drop i ls);
      asked = asked;
      begins = subst (λ (xs : List Line). IfSome (slice_get xs 0) BeginsReport) (sym (next ls i l h is)) one;
    })

-- and all of them where none does
pub script_whole : (catalog : Catalog) (ls : List Line) (i : ℕ) (rs : List Request) → length ls ≤ i → AskInOrder catalog (take i ls) rs → AreScript catalog ls rs (drop (length rs) ls)
script_whole catalog ls i rs h asked =
    let whole : AskInOrder catalog ls rs = subst (λ (xs : List Line). AskInOrder catalog xs rs) (take_all i ls h) asked in
    let many : length rs ≡ length ls = asked_many catalog ls rs whole in
    let none : drop (length rs) ls ≡ [] = drop_all (length rs) ls (omega (arith, many)) in
    subst (λ (xs : List Line). AreScript catalog ls rs xs) (sym none) (record { script = ls; parts = sym (append-nil ls); asked = whole; begins = tt })

-- no more requests than lines
pub asked_few : (catalog : Catalog) (ls : List Line) (i : ℕ) (rs : List Request) → i ≤ length ls → AskInOrder catalog (take i ls) rs → length rs ≤ length ls
asked_few catalog ls i rs within asked = let many : length rs ≡ i = asked_before catalog ls i rs within asked in omega (arith, many)

pub asked_few_whole : (catalog : Catalog) (ls : List Line) (i : ℕ) (rs : List Request) → length ls ≤ i → AskInOrder catalog (take i ls) rs → length rs ≤ length ls
asked_few_whole catalog ls i rs h asked =
    let many : length rs ≡ length ls = asked_many catalog ls rs (subst (λ (xs : List Line). AskInOrder catalog xs rs) (take_all i ls h) asked) in
    omega (arith, many)

-- the line at an index is the first that is refused
pub refused_at : (catalog : Catalog) (ls : List Line) (i : ℕ) (rs : List Request) (l : Line) (e : InputError) → i < length ls → l ≡ get_or ls i l → AskInOrder catalog (take i ls) rs → RefusesAsked catalog l e → RefusesScript catalog ls e
refused_at catalog ls i rs l e h is fine refused = record { before = take i ls; line = l; behind = drop (suc i) ls; parts = parts_at ls i l h is; requests = rs; fine = fine; refused = refused }
