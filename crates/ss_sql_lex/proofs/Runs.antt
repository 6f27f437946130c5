-- The longest run at the front.
use Rattle.std.proofs.Common.{◌≡◌, ℕ, Bool, true, false, List, [], ◌∷◌, ◌++◌, length, take, drop, refl}
use Rattle.std.specs.List.{list_all}
use Rattle.std.proofs.lemmas.Bool.{and_parts}
use Rattle.ss_sql_lex.specs.Bytes.{next_is}
use Rattle.ss_sql_lex.specs.Reading.{run}

-- all of a run, and nothing behind it goes on: it is the run
pub run_whole : (p : ℕ → Bool) (own rest : List ℕ) → list_all p own ≡ true → next_is p rest ≡ false → run p (own ++ rest) ≡ length own
run_whole p [] [] h e = refl
run_whole p [] (b ∷ rest) h e = rw e refl
run_whole p (b ∷ own) rest h e = let f = and_parts (p b) (list_all p own) h in rw (f.0, run_whole p own rest f.1 e) refl

all_at : (p : ℕ → Bool) (b : ℕ) (bs : List ℕ) (c : Bool) → p b ≡ c → list_all p (take (run p bs) bs) ≡ true → list_all p (take (run p (b ∷ bs)) (b ∷ bs)) ≡ true
all_at p b bs true e h = rw e (rw (e, h) refl)
all_at p b bs false e h = rw e refl

-- the run at the front is such a run
pub run_all : (p : ℕ → Bool) (bs : List ℕ) → list_all p (take (run p bs) bs) ≡ true
run_all p [] = refl
run_all p (b ∷ bs) = all_at p b bs (p b) refl (run_all p bs)

stops_at : (p : ℕ → Bool) (b : ℕ) (bs : List ℕ) (c : Bool) → p b ≡ c → next_is p (drop (run p bs) bs) ≡ false → next_is p (drop (run p (b ∷ bs)) (b ∷ bs)) ≡ false
stops_at p b bs true e h = rw e h
stops_at p b bs false e h = rw e (rw e refl)

-- and stops there
pub run_stops : (p : ℕ → Bool) (bs : List ℕ) → next_is p (drop (run p bs) bs) ≡ false
run_stops p [] = refl
run_stops p (b ∷ bs) = stops_at p b bs (p b) refl (run_stops p bs)
