-- The workflow that splits a batch and joins it again: behind the push its close runs all four steps, by rank, and of the two branches,
-- which have one rank, the one of less number first.
use Rattle.std.proofs.Common.{◌≡◌, inr, ℕ, zero, suc, List, [], ◌∷◌, drop, take, refl, Some, Ok, Err, arith, true}
use Rattle.ss_model.specs.Database.{Database, empty_database}
use Rattle.ss_model.specs.Settling.{is_ready_now, next_settled}
use Rattle.ss_model_laws.proofs.CallerLemmas.{whole_batch, workflow}
use Rattle.ss_model_laws.proofs.worked.WorkflowRun.{pushes, settles, split}
use Rattle.ss_sched.specs.Ranks.{AreRanks}
use Rattle.ss_commitlog.specs.declared.placed.Unlisted.TheVariants.{NoMemory}
use Rattle.ss_settle.specs.Settlings.{SettledInOrder}
use Rattle.ss_settle.specs.Ranking.{StandsBefore}
use Rattle.ss_settle.proofs.FirstIsNext.{first_is_next}

-- ---- the first one is the next one

abbrev ranks : List ℕ
ranks = 0 ∷ 1 ∷ 1 ∷ 2 ∷ []

are_ranks : AreRanks workflow ranks
are_ranks zero low = refl
are_ranks (suc zero) low = refl
are_ranks (suc (suc zero)) low = refl
are_ranks (suc (suc (suc zero))) low = refl
are_ranks (suc (suc (suc (suc q)))) low = absurd (omega (arith, low))

-- both branches are ready, and this one stands first
stands_first : (r : ℕ) → is_ready_now workflow split r ≡ true → StandsBefore ranks 1 r
stands_first zero ready = cc
stands_first (suc zero) ready = inr (refl, omega arith)
stands_first (suc (suc zero)) ready = inr (refl, omega arith)
stands_first (suc (suc (suc zero))) ready = cc
stands_first (suc (suc (suc (suc r)))) ready = cc

next_is_branch : next_settled workflow split ≡ Some 1
next_is_branch = first_is_next workflow ranks are_ranks split 1 refl stands_first

-- ---- what a close says of its list

abbrev start : Database
start = empty_database workflow

all_steps : SettledInOrder workflow start whole_batch 4 (Ok tt)
all_steps = record { before = take 1 whole_batch; steps = drop 1 whole_batch; splits = refl; many = refl; in_order = rw pushes settles }

-- where memory ran out before the first step
no_step : SettledInOrder workflow start (take 1 whole_batch) 0 (Err NoMemory)
no_step = record { before = take 1 whole_batch; steps = []; splits = refl; many = refl; in_order = tt }
