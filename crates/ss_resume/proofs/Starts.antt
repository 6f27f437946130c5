-- From which request a client goes on, and its answers where the list is cut and goes on otherwise.
use Rattle.std.proofs.Common.{◌≡◌, ◌≤◌, ℕ, zero, suc, max, Bool, true, false, cond, List, [], ◌∷◌, ◌++◌, length, get_or, map, take, refl, arith}
use Rattle.ss_model.specs.declared.entry.Answer.{Answer}
use Rattle.ss_report_laws.specs.Replies.{answers_of}
use Rattle.ss_report_laws.specs.Resuming.{stays, resume_at}
use Rattle.ss_resume.specs.Pasts.{joined_lists}

pub resume_within : (place : ℕ) (answers : List Answer) → resume_at place answers ≤ length answers
resume_within place [] = omega arith
resume_within place (a ∷ answers) = by (resume_within place answers) (stays place a)
  where
    by : resume_at place answers ≤ length answers → (b : Bool) → cond b (suc (resume_at place answers)) 0 ≤ suc (length answers)
    by within true = omega (arith, within)
    by within false = omega arith

pub starts_are : (place : ℕ) (answers : List (List Answer)) (client : ℕ) → get_or (map (resume_at place) answers) client 0 ≡ resume_at place (answers_of answers client)
starts_are place [] client = refl
starts_are place (a ∷ answers) zero = refl
starts_are place (a ∷ answers) (suc client) = starts_are place answers client

-- each client's answers, where those of all clients are joined
pub each_joined : (place : ℕ) (answers further : List (List Answer)) (client : ℕ)
    → answers_of (joined_lists place answers further) client ≡ take (resume_at place (answers_of answers client)) (answers_of answers client) ++ answers_of further client
each_joined place [] further client = refl
each_joined place (a ∷ answers) [] zero = refl
each_joined place (a ∷ answers) [] (suc client) = each_joined place answers [] client
each_joined place (a ∷ answers) (f ∷ further) zero = refl
each_joined place (a ∷ answers) (f ∷ further) (suc client) = each_joined place answers further client

-- there are as many clients as the longer list has
pub as_many : (place : ℕ) (answers further : List (List Answer)) → length (joined_lists place answers further) ≡ max (length answers) (length further)
as_many place [] further = omega arith
as_many place (a ∷ answers) [] = omega (arith, as_many place answers [])
as_many place (a ∷ answers) (f ∷ further) = omega (arith, as_many place answers further)
