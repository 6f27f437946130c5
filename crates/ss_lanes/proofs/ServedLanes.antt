-- A lane that is served one request after another.
use Rattle.std.proofs.Common.{◌≡◌, ℕ, ◌+◌, List, [], ◌∷◌, ◌++◌, length, sym, ap, ◌∙◌, arith, append-nil}
use Rattle.std.proofs.lemmas.List.{length_push}
use Rattle.ss_model.specs.declared.entry.Answer.{Answer}
use Rattle.ss_model.specs.declared.entry.Answer.TheVariants as variants
use Rattle.ss_model.specs.declared.entry.Request.{Request}
use Rattle.ss_report_laws.specs.Replies.{expected_entries}
use Rattle.ss_report_laws.proofs.CallerLemmas.{expected_more}
use Rattle.ss_commitlog.specs.declared.rule.Item.{Item}
use Rattle.ss_lanes.specs.Mines.{Mine, mine_in}
use Rattle.ss_lanes.specs.Lanes.{LaneView, IsFresh, IsRightAnswer, IsSubmitted}
use Rattle.ss_lanes.specs.Served.{IsServed, LanesServe}

-- the client's entries with one answer more
one_more : (first limit : ℕ) (old : LaneView) (r : Request) (new : List Item) (a : Answer) → IsRightAnswer first limit old r.what new a
    → mine_in old.client first new ≡ mine_in old.client first old.list ++ expected_entries old.client (old.start + length old.answers) (r ∷ []) (a ∷ [])
one_more first limit old r new (variants.Listed place outcome) right = right.0
one_more first limit old r new variants.NoMemory right = right ∙ sym (append-nil (mine_in old.client first old.list))
one_more first limit old r new (variants.ListFull count) right = right.0 ∙ sym (append-nil (mine_in old.client first old.list))
one_more first limit old r new (variants.Halted faults) right = ap (mine_in old.client first) right.0 ∙ sym (append-nil (mine_in old.client first old.list))

served_more : (first limit : ℕ) (requests : List Request) (r : Request) (old new : LaneView) → IsServed first requests old → IsSubmitted first limit old r.what new → IsServed first (requests ++ r ∷ []) new
served_more first limit requests r old new served more = record {
  many = (let a = ap (λ (l : List Answer). length l) more.answers in let b = length_push old.answers more.answer in let d = length_push requests r in let e = served.many in omega arith);
  entries = ap (λ c. mine_in c first new.list) more.client_is
      ∙ (one_more first limit old r new.list more.answer more.right
      ∙ (ap (λ (l : List Mine). l ++ expected_entries old.client (old.start + length old.answers) (r ∷ []) (more.answer ∷ [])) served.entries
      ∙ (sym (expected_more old.client old.start requests old.answers r more.answer served.many)
      ∙ (ap (λ (l : List Answer). expected_entries old.client old.start (requests ++ r ∷ []) l) (sym more.answers)
      ∙ (ap (λ c. expected_entries c old.start (requests ++ r ∷ []) new.answers) (sym more.client_is)
      ∙ ap (λ s. expected_entries new.client s (requests ++ r ∷ []) new.answers) (sym more.start_is))))));
}

served_nothing : (first client start : ℕ) (lane : LaneView) → IsFresh first client start lane → IsServed first [] lane
served_nothing first client start lane fresh = record { many = ap (λ (l : List Answer). length l) fresh.none; entries = ap (mine_in lane.client first) fresh.list_is }

pub lanes_serve : LanesServe
lanes_serve = record { starts = served_nothing; goes_on = served_more }
