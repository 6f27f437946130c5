-- From the replies follows which of the requests' entries are in the list.
use Rattle.std.proofs.Common.{◌≡◌, ◌∙◌, ◌+◌, ◌||◌, ℕ, List, [], ◌∷◌, ◌++◌, Bool, true, false, cond, Option, Some, None, is_some, refl, sym, ap}
use Rattle.std.specs.List.{AllByRecursion, Contains}
use Rattle.std.proofs.lemmas.List.Elements.{All-from_recursion, All-contains}
use Rattle.serde_json.specs.Data.{Data}
use Rattle.serde_json.specs.Written.{compact_text}
use Rattle.ss_model.specs.declared.catalog.Catalog.{Catalog}
use Rattle.ss_model.specs.declared.entry.Answer.{Answer}
use Rattle.ss_model.specs.declared.entry.Answer.TheVariants.{Listed as ListedAnswer, NoMemory, ListFull, Halted}
use Rattle.ss_model.specs.declared.entry.Entry.{Entry}
use Rattle.ss_model.specs.declared.entry.Listed.{Listed}
use Rattle.ss_model.specs.declared.entry.Outcome.{Outcome}
use Rattle.ss_model.specs.declared.entry.Request.{Request}
use Rattle.ss_model.specs.Report.{entries_behind, asked_entries, is_same_request, find_listed, IsAnswer, AreAnswers, End, Whole, Stopped, Unlisted, reply_lines}
use Rattle.ss_model.specs.ReportLines.{reply_line}
use Rattle.ss_report_laws.proofs.Lines.{texts}
use Rattle.ss_report_laws.proofs.LineText.{is_listed, same_replies}

-- whether a request's entry stands in a list
abbrev pub is_found : Entry → List Listed → Bool
is_found e [] = false
is_found e (l ∷ ls) = is_same_request e l.entry || is_found e ls

found_some : (place : ℕ) (e : Entry) (list : List Listed) → is_some (find_listed place e list) ≡ is_found e list
found_some place e [] = refl
found_some place e (l ∷ ls) =
    elim (is_same_request e l.entry) as (λ b. is_some (cond b (Some (place, l.outcome)) (find_listed (place + 1) e ls)) ≡ b || is_found e ls) [
      | true ↦ refl
      | false ↦ found_some (place + 1) e ls
    ]

-- an answer is of a listed entry where there is one, and only there
answer_answered : (end : End) (o : Option (ℕ × Outcome)) (a : Answer) → IsAnswer (Unlisted end) o a → is_listed a ≡ is_some o
answer_answered Whole None (ListedAnswer place outcome) h = absurd h
answer_answered (Stopped stop) None (ListedAnswer place outcome) h = absurd h
answer_answered end None NoMemory h = refl
answer_answered end None (ListFull n) h = refl
answer_answered end None (Halted faults) h = refl
answer_answered end (Some found) a h = ap is_listed h

answer_found : (end : End) (place : ℕ) (list : List Listed) (e : Entry) (a : Answer) → IsAnswer (Unlisted end) (find_listed place e list) a → is_found e list ≡ is_listed a
answer_found end place list e a h = sym (found_some place e list) ∙ sym (answer_answered end (find_listed place e list) a h)

-- both lists have it, or neither
abbrev pub IsInBoth : List Listed → List Listed → Entry → Type 0
IsInBoth list other e = is_found e list ≡ is_found e other

pub same_answers : (catalog : Catalog) (place start : ℕ) (list other : List Listed) (end ends : End) (earlier rs : List Request) (answers others : List Answer) (rest behind : List Data)
    → AreAnswers (Unlisted end) place list (entries_behind earlier rs) answers → AreAnswers (Unlisted ends) start other (entries_behind earlier rs) others
    → texts (reply_lines catalog rs answers ++ rest) ≡ texts (reply_lines catalog rs others ++ behind)
    → AllByRecursion (IsInBoth list other) (entries_behind earlier rs) × (texts rest ≡ texts behind)
same_answers catalog place start list other end ends earlier [] answers others rest behind h k e = (tt, e)
same_answers catalog place start list other end ends earlier (r ∷ rs) [] others rest behind h k e = absurd h
same_answers catalog place start list other end ends earlier (r ∷ rs) (a ∷ answers) [] rest behind h k e = absurd k
same_answers catalog place start list other end ends earlier (r ∷ rs) (a ∷ answers) (b ∷ others) rest behind h k e =
    let first : compact_text (reply_line catalog r.line a) ≡ compact_text (reply_line catalog r.line b) = cc in
    let later = same_answers catalog place start list other end ends (earlier ++ r ∷ []) rs answers others rest behind h.1 k.1 (cc) in
    ((answer_found end place list _ a h.0 ∙ same_replies catalog r.line a b first ∙ sym (answer_found ends start other _ b k.0), later.0), later.1)

-- of an entry that is asked for
pub in_both : (requests : List Request) (list other : List Listed) (e : Entry) → AllByRecursion (IsInBoth list other) (asked_entries requests) → Contains (asked_entries requests) e → is_found e list ≡ is_found e other
in_both requests list other e all among = All-contains (IsInBoth list other) (asked_entries requests) e (All-from_recursion (IsInBoth list other) (asked_entries requests) all) among
