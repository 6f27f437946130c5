-- What a crash in one call of a disk in memory leaves, where it is said what each unsynced range then holds.
use Rattle.std.specs.Prelude.{ℕ, suc, ◌-◌, List, [], ◌∷◌, Bool, true, false, nat_le, nat_lt, if◌then◌else◌, length, take, drop, replicate}
use Rattle.ss_disk.specs.declared.disk.FileNo.{FileNo}
use Rattle.ss_disk.specs.declared.crash.Torn.{Torn}
use Rattle.ss_disk.specs.declared.crash.Torn.TheVariants.{Nothing, Whole, Fill}
use Rattle.ss_disk.specs.declared.events.Event.{Event}
use Rattle.ss_disk.specs.declared.events.Event.TheVariants.{Wrote, Cut, Synced}
use Rattle.ss_disk.specs.Files.{Files, file, with_write, with_cut}
use Rattle.ss_disk.specs.Memory.{seen_after}

-- whether an event has happened when a crash falls into this call: a sync in the call hasn't
abbrev pub is_before : ℕ → Event → Bool
is_before call (Wrote n which at bytes done) = nat_le n call
is_before call (Cut n which len done) = nat_le n call
is_before call (Synced n) = nat_lt n call

-- how many events have then happened, which is the moment of that crash
abbrev pub crash_moment : ℕ → List Event → ℕ
crash_moment call [] = 0
crash_moment call (e ∷ es) = if is_before call e then suc (crash_moment call es) else 0

abbrev pub no_sync : List Event → Bool
no_sync [] = true
no_sync (Wrote n which at bytes done ∷ es) = no_sync es
no_sync (Cut n which len done ∷ es) = no_sync es
no_sync (Synced n ∷ es) = false

-- how many events there are up to the last sync, which is one of them
abbrev pub synced_count : List Event → ℕ
synced_count [] = 0
synced_count (Wrote n which at bytes done ∷ es) = if no_sync es then 0 else suc (synced_count es)
synced_count (Cut n which len done ∷ es) = if no_sync es then 0 else suc (synced_count es)
synced_count (Synced n ∷ es) = suc (synced_count es)

-- these bytes in a file, unless they would begin behind its end
abbrev pub written_within : FileNo → ℕ → List ℕ → Files → Files
written_within which at bytes files = if nat_le at (length (file which files)) then with_write which at bytes files else files

-- what a write that no sync has made last leaves
abbrev pub torn_write : Torn → FileNo → ℕ → List ℕ → Files → Files
torn_write Nothing which at bytes files = files
torn_write Whole which at bytes files = written_within which at bytes files
torn_write (Fill byte) which at bytes files = written_within which at (replicate (length bytes) byte) files

-- what a cut that no sync has made last leaves
abbrev pub torn_cut : Torn → FileNo → ℕ → Files → Files
torn_cut Nothing which len files = files
torn_cut Whole which len files = with_cut which len files
torn_cut (Fill byte) which len files = written_within which len (replicate (length (file which files) - len) byte) files

abbrev pub torn_event : Torn → Event → Files → Files
torn_event torn (Wrote n which at bytes done) files = torn_write torn which at bytes files
torn_event torn (Cut n which len done) files = torn_cut torn which len files
torn_event torn (Synced n) files = files

-- the same of many events, the first of them first
abbrev pub torn_events : Torn → List Event → Files → Files
torn_events torn [] files = files
torn_events torn (e ∷ es) files = torn_events torn es (torn_event torn e files)

-- what is left of files that have had these events: those up to the last sync as they are, and those behind it torn
abbrev pub torn_image : Torn → List Event → Files → Files
torn_image torn es first = torn_events torn (drop (synced_count es) es) (seen_after (take (synced_count es) es) first)

-- the same where the crash falls into this call
abbrev pub crash_image : Torn → ℕ → List Event → Files → Files
crash_image torn call es first = torn_image torn (take (crash_moment call es) es) first
