-- The machine: which events may happen, and what each leaves.
use Rattle.std.specs.Prelude.{◌≡◌, ◌≢◌, ◌≤◌, ◌<◌, ℕ, Bool, true, false, not, cond, ◌&&◌, List, [], ◌∷◌, ◌++◌, length, set, slice_get, map, take, Some, None}
use Rattle.ss_core.specs.declared.machine.Core.{Core}
use Rattle.ss_core.specs.declared.machine.Stage.TheVariants.{Still, Body, BodySynced, Gate, GateSynced, Cut, Written, Synced, Selecting}
use Rattle.ss_core.specs.declared.machine.Event.{Event}
use Rattle.ss_core.specs.declared.machine.Event.TheVariants.{Take, Commit, Put, WriteBody, SyncBody, OpenGate, SyncGate, Receive, CutOther, WriteGeneration, SyncGeneration, Select, SyncSelect, Fail, Crash, Recover}
use Rattle.ss_core.specs.Counts.{selected_count, with_count, with_generation, other_half, crash, failed_stage}
use Rattle.ss_core.specs.Commits.{IsHolder, MayCommit, commit}

-- the events that are calls of the disk
abbrev pub is_device : Event → Bool
is_device (WriteBody n) = true
is_device SyncBody = true
is_device OpenGate = true
is_device SyncGate = true
is_device (CutOther actor) = true
is_device WriteGeneration = true
is_device SyncGeneration = true
is_device Select = true
is_device SyncSelect = true
is_device _ = false

-- the event that reads the list from the disk
abbrev pub is_recover : Event → Bool
is_recover Recover = true
is_recover _ = false

-- while the core is down, Recover alone is possible; while it is halted, no call of the disk is
abbrev pub is_possible : Core → Event → Bool
is_possible c e = cond (is_recover e) c.down (not c.down && not (is_device e && c.halted))

-- the list is what the selected half covers, and all of it is known
abbrev pub recover : Core → Core
recover c = record c {
  list = take (selected_count c) c.list;
  known = map (λ old. length (take (selected_count c) c.list)) c.known;
  stage = Still;
  halted = false;
  down = false;
}

-- the table of events: from c, by this event, to d
abbrev pub Leads : Core → Event → Core → Type 0
-- nobody holds the partition; the actor does
Leads c (Take actor part) d = (part < c.parts) × (slice_get c.hands part ≡ Some None) × (d ≡ record c { hands = set c.hands part (Some actor) })
-- the actor holds the partition; nobody does
Leads c (Put actor part) d = IsHolder c actor part × (d ≡ record c { hands = set c.hands part None })
-- the entry may join the list; it is at the list's end, and of its partitions all is known
Leads c (Commit actor l seen) d = MayCommit c actor l seen × (d ≡ commit c l)
-- the body of a group that ends behind what the selected half covers
Leads c (WriteBody n) d = (c.stage ≡ Still) × (selected_count c < n) × (n ≤ length c.list) × (d ≡ record c { stage = Body n })
Leads c SyncBody d = (n : ℕ) × (c.stage ≡ Body n) × (d ≡ record c { stage = BodySynced n })
Leads c OpenGate d = (n : ℕ) × (c.stage ≡ BodySynced n) × (d ≡ record c { stage = Gate n })
-- from here on the selected half covers the group
Leads c SyncGate d = (n : ℕ) × (c.stage ≡ Gate n) × (d ≡ record (with_count c n) { stage = GateSynced n })
-- and a receipt says so
Leads c Receive d = (n : ℕ) × (c.stage ≡ GateSynced n) × (d ≡ record c { receipts = c.receipts ++ n ∷ []; stage = Still })
-- the actor holds all partitions, and the selected half covers the whole list
Leads c (CutOther actor) d =
    (c.stage ≡ Still) × ((part : ℕ) → part < c.parts → IsHolder c actor part) × (selected_count c ≡ length c.list) × (d ≡ record c { stage = Cut })
Leads c WriteGeneration d = (c.stage ≡ Cut) × (d ≡ record c { stage = Written })
-- from here on the other half covers as many entries
Leads c SyncGeneration d = (c.stage ≡ Written) × (d ≡ record (with_generation c) { stage = Synced })
Leads c Select d = (c.stage ≡ Synced) × (d ≡ record c { stage = Selecting })
-- the other half is the selected one
Leads c SyncSelect d = (c.stage ≡ Selecting) × (d ≡ record c { selector = other_half c.selector; stage = Still })
-- a call of the disk fails, and what it was to write may be there
Leads c Fail d = (c.halted ≡ false) × ((n : ℕ) → c.stage ≢ GateSynced n) × (d ≡ record c { stage = failed_stage c.stage; halted = true })
-- what is synced stays, and of the rest what the event says
Leads c (Crash gate selector) d = d ≡ crash c gate selector
-- what the selected half covers is the list
Leads c Recover d = d ≡ recover c

-- the event happens at c, and leads to d
abbrev pub Happens : Core → Event → Core → Type 0
Happens c e d = (is_possible c e ≡ true) × Leads c e d

-- the events happen in their order
abbrev pub AllHappen : Core → List Event → Core → Type 0
AllHappen c [] d = d ≡ c
AllHappen c (e ∷ es) d = (between : Core) × Happens c e between × AllHappen between es d

-- the event cannot happen at c
abbrev pub CannotHappen : Core → Event → Type 0
CannotHappen c e = (d : Core) → Happens c e d → ⊥

-- its row of the table leads nowhere
abbrev pub CannotLead : Core → Event → Type 0
CannotLead c e = (d : Core) → Leads c e d → ⊥
