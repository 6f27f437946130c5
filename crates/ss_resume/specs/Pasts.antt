-- What a run has come to, where its list is cut at a place and what ran behind that joins it.
use Rattle.std.specs.Prelude.{◌≡◌, ◌-◌, ℕ, max, List, [], ◌∷◌, ◌++◌, length, take}
use Rattle.ss_model.specs.declared.entry.Answer.{Answer}
use Rattle.ss_model.specs.declared.entry.Listed.{Listed}
use Rattle.ss_report_laws.specs.Replies.{answers_of}
use Rattle.ss_report_laws.specs.Resuming.{resume_at}
use Rattle.ss_resume.specs.declared.past.Past.{Past}

-- a client's answers that stay where the list is cut at a place, and behind them those to its further requests
abbrev pub joined : ℕ → List Answer → List Answer → List Answer
joined place answers further = take (resume_at place answers) answers ++ further

-- the same of all clients, by number; behind the end of the shorter list, its clients have no answers there
abbrev pub joined_lists : ℕ → List (List Answer) → List (List Answer) → List (List Answer)
joined_lists place [] further = further
joined_lists place (a ∷ answers) [] = joined place a [] ∷ joined_lists place answers []
joined_lists place (a ∷ answers) (f ∷ further) = joined place a f ∷ joined_lists place answers further

-- the new past is the old one, cut at this place, and behind it this list, these answers to further requests, and this receipted count
pub record JoinsAt (place : ℕ) (old : Past) (list : List Listed) (answers : List (List Answer)) (receipted : ℕ) (new : Past) : Type 0 where
  pub first : new.first ≡ old.first
  pub list_is : new.list ≡ take (place - old.first) old.list ++ list
  pub many : length new.answers ≡ max (length old.answers) (length answers)
  pub answers_are : (client : ℕ) → answers_of new.answers client ≡ take (resume_at place (answers_of old.answers client)) (answers_of old.answers client) ++ answers_of answers client
  pub receipted_is : new.receipted ≡ receipted
