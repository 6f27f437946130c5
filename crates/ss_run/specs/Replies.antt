-- The answers to clients, with room for those to come.
use Rattle.std.specs.Prelude.{◌≡◌, ◌≢◌, ℕ, List, [], map, get_or, replicate, refl}
use Rattle.std.specs.Coded.{Coded, code_by, coded×, coded_ℕ, coded_list}
use Rattle.ss_model.specs.declared.entry.Answer.{Answer}
use Rattle.ss_model.specs.contracts.entry.Answer as answer

-- the answers to a client, and how many more can be added without memory
pub record ReservedAnswers : Type 0 where
  pub answers : List Answer
  pub spare : ℕ

-- how two of these are compared
abbrev pub coded_answers : Coded ReservedAnswers
coded_answers = code_by (List Answer × ℕ) (coded× (coded_list answer.the_row.coded) coded_ℕ) (λ s. (s.answers, s.spare)) (λ p. record { answers = p.0; spare = p.1 }) (λ _. refl)

-- the answers by client, and for each client the room behind them
pub record HeldReplies : Type 0 where
  pub answers : List (List Answer)
  pub spares : List ℕ

-- the answers and the room of a list of clients
abbrev pub held_replies : List ReservedAnswers → HeldReplies
held_replies clients = record { answers = map (λ s. s.answers) clients; spares = map (λ s. s.spare) clients }

-- the room of a client
abbrev pub spare_of : HeldReplies → ℕ → ℕ
spare_of replies client = get_or replies.spares client 0

-- the room of each other client is as it was
abbrev pub SparesElsewhere : HeldReplies → HeldReplies → ℕ → Type 0
SparesElsewhere old new client = (other : ℕ) → other ≢ client → spare_of new other ≡ spare_of old other

-- none of the eight clients has an answer
abbrev pub no_answers : List (List Answer)
no_answers = replicate 8 []
