-- The premises of a push before it runs and before it is committed, met by a catalogue with a window and a border stream.
use Rattle.std.proofs.Common.{◌≡◌, ◌≤◌, ◌∙◌, ℕ, cond, pos, true, List, [], ◌∷◌, length, Some, is_some, ap, refl, arith}
use Rattle.std.specs.List.{AllByRecursion}
use Rattle.std.specs.Cmp.{eq_by_cmp_equiv}
use Rattle.std.specs.Cmp.Lexicographic.{nat_list_cmp_total}
use Rattle.std.specs.FinMap as finite
use Rattle.ss_value.specs.declared.value.Value.TheVariants.{Int}
use Rattle.ss_model.specs.declared.entry.Entry.{Entry}
use Rattle.ss_model.specs.declared.entry.Entry.TheVariants.{Push}
use Rattle.ss_model.specs.declared.entry.Outcome.TheVariants.{Done, Gap}
use Rattle.ss_model.specs.Database.{NextNumbers, empty_database, fits_entry}
use Rattle.ss_model.proofs.CallerLemmas.{sliding_seen}
use Rattle.ss_shard.specs.Databases.{WindowIsSound}
use Rattle.ss_shard.specs.Sources.{HasSource}
use Rattle.ss_proc.specs.Entries.{AreAtHand, IsCountable, EntryHasSource}

-- its database can be opened
pub sound : AllByRecursion WindowIsSound sliding_seen.windows
sound = ((omega arith, omega arith), tt)

pub few : length sliding_seen.procedures ≤ 64
few = omega arith

-- the bytes of a source's name
abbrev pub source : List ℕ
source = 97 ∷ []

-- no source, and this one with its place
abbrev nothing : NextNumbers
nothing = finite.empty

abbrev first : ℕ
first = 0

abbrev pub given : NextNumbers
given = finite.insert nothing source first

-- so it stands, on the first stream
pub stands : HasSource (given ∷ []) 0 source
stands = ap is_some (finite.get-insert nat_list_cmp_total nothing source first source ∙ ap (λ b. cond b (Some first) (finite.get nothing source)) ((eq_by_cmp_equiv nat_list_cmp_total).refl source))

-- a push of one row to that stream
abbrev pub push : Entry
push = Push 0 0 0 source 0 ((Int (pos 4) ∷ []) ∷ [])

-- it fits, takes no batch, and is none that has to be counted
pub push_fits : fits_entry sliding_seen push ≡ true
push_fits = refl

pub at_hand : AreAtHand sliding_seen (empty_database sliding_seen) push []
at_hand = refl

pub countable : IsCountable push
countable = tt

-- it can be committed where it was accepted and its source has its place, and where it was not
pub sourced : EntryHasSource push (Done []) (given ∷ [])
sourced = (stands, omega arith)

pub refused : EntryHasSource push (Gap 3) []
refused = tt
