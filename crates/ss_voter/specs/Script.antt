-- The script of Voter with Leaderboard: what its clients ask for.
use Rattle.std.specs.Prelude.{ℕ, ◌+◌, ◌*◌, ◌/◌, ◌%◌, ◌^◌, pos, List, [], ◌∷◌, ◌++◌, map, codes}
use Rattle.std.specs.List.{range_with_len}
use Rattle.ss_value.specs.declared.value.Value.TheVariants.{Int, Text}
use Rattle.ss_value.specs.Rows.{Row}
use Rattle.ss_model.specs.declared.entry.Asked.{Asked}
use Rattle.ss_model.specs.declared.entry.Asked.TheVariants.{Call, Push}
use Rattle.ss_model.specs.declared.entry.Request.{Request}
use Rattle.ss_voter.specs.Generator.{state}
use Rattle.ss_voter.specs.VoterCatalog.{begin_show_number, add_number, votes_in_number}

-- the letter c and a digit
abbrev pub numbered : ℕ → List ℕ
numbered digit = codes "c" ++ (48 + digit) ∷ []

-- the request of this number in the script, from 0; lines are counted from 2, behind that of the catalogue
abbrev pub request_at : ℕ → ℕ → Asked → Request
request_at number client what = record { line = number + 2; client = client; what = what }

-- ---- the show, which client 0 asks for

-- a contestant goes after every 500 votes
abbrev pub begin_show : Request
begin_show = request_at 0 0 (Call begin_show_number (Int (pos 500) ∷ []))

-- contestant k, whose name is c and its digit
abbrev pub add_contestant : ℕ → Request
add_contestant k = request_at k 0 (Call add_number (Int (pos k) ∷ Text (numbered k) ∷ []))

-- a show with contestants 1 to 6
abbrev pub show_requests : List Request
show_requests = begin_show ∷ map add_contestant (range_with_len 1 6)

-- ---- votes

-- the phone of a vote that is made from x, one of twice as many as there are votes
abbrev pub phone : ℕ → ℕ → ℕ
phone count x = 1000000 + (x / 2 ^ 33) % (2 * count)

-- the contestant of a vote that is made from x, one of six
abbrev pub contestant : ℕ → ℕ
contestant x = 1 + (x / 2 ^ 20) % 6

abbrev pub vote_row : ℕ → ℕ → Row
vote_row count x = Int (pos (phone count x)) ∷ Int (pos (contestant x)) ∷ []

-- vote i, of so many, that is made from x: the clients vote in turn, each from its own source, which numbers its votes
abbrev pub vote_made : ℕ → ℕ → ℕ → ℕ → Request
vote_made count clients i x =
    let client = i % clients in
    request_at (7 + i) client (Push votes_in_number (numbered client) (i / clients) (vote_row count x ∷ []))

-- vote i is made from x(i + 1)
abbrev pub vote : ℕ → ℕ → ℕ → ℕ → Request
vote seed count clients i = vote_made count clients i (state seed (i + 1))

-- ---- the whole

-- the show, and then so many votes of so many clients
abbrev pub vote_requests : ℕ → ℕ → ℕ → List Request
vote_requests seed count clients = show_requests ++ map (vote seed count clients) (range_with_len 0 count)
