-- Where no report is made, the answers that it would have may all say that there was no memory, but for those of the list.
use Rattle.std.proofs.Common.{◌≡◌, ◌∙◌, ℕ, zero, suc, ◌+◌, List, [], ◌∷◌, length, map, refl, sym, ap, subst}
use Rattle.std.specs.List.{AllByRecursion}
use Rattle.std.proofs.lemmas.List.{length-map}
use Rattle.ss_model.specs.declared.entry.Answer.{Answer}
use Rattle.ss_model.specs.declared.entry.Answer.TheVariants.{Listed as ListedAnswer, NoMemory, ListFull, Halted}
use Rattle.ss_model.specs.declared.entry.Listed.{Listed}
use Rattle.ss_model.specs.declared.entry.Request.{Request}
use Rattle.ss_model.specs.Report.{End, Unlisted, asked_entry}
use Rattle.ss_report_laws.specs.Replies.{AreAnswered, IsListedOr, answers_of, expected_entries, listed_at, mine, requests_of}

-- an answer that isn't listed finds no memory
abbrev pub without_memory : Answer → Answer
without_memory (ListedAnswer place outcome) = ListedAnswer place outcome
without_memory _ = NoMemory

-- of each client
abbrev pub all_without_memory : List (List Answer) → List (List Answer)
all_without_memory answers = map (map without_memory) answers

those_of : (answers : List (List Answer)) (client : ℕ) → answers_of (all_without_memory answers) client ≡ map without_memory (answers_of answers client)
those_of [] client = refl
those_of (these ∷ answers) zero = refl
those_of (these ∷ answers) (suc client) = those_of answers client

-- they report the same entries
same_entries : (client index : ℕ) (rs : List Request) (these : List Answer) → expected_entries client index rs (map without_memory these) ≡ expected_entries client index rs these
same_entries client index [] these = refl
same_entries client index (r ∷ rs) [] = refl
same_entries client index (r ∷ rs) (ListedAnswer place outcome ∷ these) = ap (λ rest. listed_at place outcome (asked_entry client index r.what) ∷ rest) (same_entries client (index + 1) rs these)
same_entries client index (r ∷ rs) (NoMemory ∷ these) = same_entries client (index + 1) rs these
same_entries client index (r ∷ rs) (ListFull count ∷ these) = same_entries client (index + 1) rs these
same_entries client index (r ∷ rs) (Halted faults ∷ these) = same_entries client (index + 1) rs these

-- and may be given at each end
may_be_given : (end : End) → Unlisted end NoMemory → (these : List Answer) → AllByRecursion (IsListedOr (Unlisted end)) (map without_memory these)
may_be_given end may [] = tt
may_be_given end may (ListedAnswer place outcome ∷ these) = (tt, may_be_given end may these)
may_be_given end may (NoMemory ∷ these) = (may, may_be_given end may these)
may_be_given end may (ListFull count ∷ these) = (may, may_be_given end may these)
may_be_given end may (Halted faults ∷ these) = (may, may_be_given end may these)

pub answered_without_memory : (requests : List Request) (first : ℕ) (list : List Listed) (end : End) (answers : List (List Answer)) → Unlisted end NoMemory
    → ((client : ℕ) → length (answers_of answers client) ≡ length (requests_of client requests))
    → ((client : ℕ) → mine client first list ≡ expected_entries client 0 (requests_of client requests) (answers_of answers client))
    → AreAnswered requests first list end (all_without_memory answers)
answered_without_memory requests first list end answers may many each = record {
  many = λ client. ap length (those_of answers client) ∙ (length-map (answers_of answers client) without_memory ∙ many client);
  each = λ client. each client ∙ sym (ap (expected_entries client 0 (requests_of client requests)) (those_of answers client) ∙ same_entries client 0 (requests_of client requests) (answers_of answers client));
  others = λ client. subst (AllByRecursion (IsListedOr (Unlisted end))) (sym (those_of answers client)) (may_be_given end may (answers_of answers client));
}
