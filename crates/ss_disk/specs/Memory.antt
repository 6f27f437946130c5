-- What a disk in memory holds, and what a crash may leave of it.
use Rattle.std.specs.Prelude.{◌≡◌, List, [], ◌∷◌, Bool, true, ◌&&◌, nat_le, if◌then◌else◌, length}
use Rattle.ss_disk.specs.declared.contents.FileContents.{FileContents}
use Rattle.ss_disk.specs.declared.events.Event.{Event}
use Rattle.ss_disk.specs.declared.events.Event.TheVariants.{Wrote, Cut, Synced}
use Rattle.ss_disk.specs.Files.{Files, file, with_write, with_cut}
use Rattle.ss_disk.specs.Crash.{After, TornWrite, TornCut}

abbrev pub files_of : FileContents → Files
files_of c = record { selector = c.selector.items; first = c.first.items; second = c.second.items }

abbrev pub no_files : Files
no_files = record { selector = []; first = []; second = [] }

-- what a read gives behind an event; a call that failed has changed nothing there
abbrev pub seen_behind : Event → Files → Files
seen_behind (Wrote call which at bytes done) seen = if done then with_write which at bytes seen else seen
seen_behind (Cut call which len done) seen = if done then with_cut which len seen else seen
seen_behind (Synced call) seen = seen

-- what a crash may leave behind an event
abbrev pub left_behind : Event → Files → (Files → Type 0) → Files → Type 0
left_behind (Wrote call which at bytes done) seen may = After (TornWrite which at (length bytes)) may
left_behind (Cut call which len done) seen may = After (TornCut which len) may
left_behind (Synced call) seen may = λ image. image ≡ seen

-- the same behind many events, the first of them first
abbrev pub seen_after : List Event → Files → Files
seen_after [] seen = seen
seen_after (e ∷ es) seen = seen_after es (seen_behind e seen)

abbrev pub left_after : List Event → Files → (Files → Type 0) → Files → Type 0
left_after [] seen may = may
left_after (e ∷ es) seen may = left_after es (seen_behind e seen) (left_behind e seen may)

-- each write begins within its file, or at its end
abbrev pub is_within : Event → Files → Bool
is_within (Wrote call which at bytes done) seen = nat_le at (length (file which seen))
is_within (Cut call which len done) seen = true
is_within (Synced call) seen = true

abbrev pub are_within : List Event → Files → Bool
are_within [] seen = true
are_within (e ∷ es) seen = is_within e seen && are_within es (seen_behind e seen)

-- what a crash may leave of a disk that had these files, all of them on it, before the events
abbrev pub left_of : Files → List Event → Files → Type 0
left_of first events = left_after events first (λ image. image ≡ first)
