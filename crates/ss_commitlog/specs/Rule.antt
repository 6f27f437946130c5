-- The rule of the log's table, and what each step tells.
use Rattle.std.specs.Prelude.{◌≡◌, ◌≢◌, ◌⊎◌, ℕ, zero, suc, ◌+◌, ◌≤◌, max, List, [], ◌∷◌, ◌++◌, length}
use mathlib.Core.Option.{some}
use lib.ListN.{get_elem?}
use Rattle.atomic_table.specs.Table.{State, Me, Step}
use Rattle.ss_model.specs.declared.entry.Listed.{Listed}
use Rattle.ss_commitlog.specs.declared.role.Role.{Role}
use Rattle.ss_commitlog.specs.declared.role.Role.TheVariants.{Reader, Part, Client, Disk, Log}
use Rattle.ss_commitlog.specs.declared.rule.Item.{Item}
use Rattle.ss_commitlog.specs.declared.rule.Stamp.{Stamp}
use Rattle.ss_commitlog.specs.declared.rule.View.{View}
use Rattle.ss_commitlog.specs.declared.rule.Opening.{Opening}
use Rattle.ss_commitlog.specs.Roles.{In, Begins}

-- no role but Reader stands twice
abbrev pub Unique : List Role → Type 0
Unique [] = Unit {0}
Unique (n ∷ ns) = (n ≢ Reader → In n ns → ⊥) × Unique ns

-- the stamp is right about the list and the two posted numbers
pub record Stands (list : List Item) (count faults : ℕ) (o : Stamp) : Type 0 where
  pub begins : Begins list o.roles o.known
  pub counted : o.count ≤ count
  pub faulted : (o.faults ≡ 0) ⊎ (o.faults ≡ faults)
  pub posted : In Disk o.roles → (o.count ≡ count) × (o.faults ≡ faults)

-- the view of a seat of this number is right: all that it knew, its known list where it is the log's, and its roles, which no
-- other seat has
pub record Fits (list : List Item) (count faults : ℕ) (owner : Role → ℕ) (seat : ℕ) (v : View) : Type 0 where
  pub now : Stands list count faults v.now
  pub olds : (o : Stamp) → In o v.olds → Stands list count faults o
  pub whole : In Log v.now.roles → v.now.known ≡ list
  pub owned : (n : Role) → In n v.now.roles → n ≢ Reader → owner n ≡ seat
  pub kept : (o : Stamp) (n : Role) → In o v.olds → In n o.roles → In n v.now.roles
  pub unique : Unique v.now.roles

-- the rule: word 0 is the place behind the list, words 1 and 2 are the posted numbers, and each view fits
pub record IsKept (first : ℕ) (s : State Listed View) : Type 0 where
  pub list : List Item
  pub count : ℕ
  pub faults : ℕ
  pub owner : Role → ℕ
  pub words : s.words ≡ (first + length list) ∷ count ∷ faults ∷ []
  pub each : (i : ℕ) (v : View) → get_elem? s.views i ≡ some v → Fits list count faults owner i v

-- a stamp, field by field
abbrev pub stamp : List Role → List Item → ℕ → ℕ → Stamp
stamp roles known count faults = record { roles = roles; known = known; count = count; faults = faults }

-- a seat that has taken in no other since its last step
abbrev pub at_rest : Stamp → View
at_rest o = record { now = o; olds = [] }

-- m roles from the k-th on, and then the rest
abbrev pub numbered : (ℕ → Role) → ℕ → ℕ → List Role → List Role
numbered f k zero rest = rest
numbered f k (suc m) rest = f k ∷ numbered f (suc k) m rest

-- the role of each reader
abbrev pub reader : ℕ → Role
reader k = Reader

-- the roles of notes, the disk's behind those of readers, and then the rest
abbrev pub note_roles : ℕ → List Role → List Role
note_roles count rest = numbered reader 0 count (Disk ∷ rest)

-- those of marks, partitions before clients
abbrev pub mark_roles : ℕ → ℕ → List Role → List Role
mark_roles parts clients rest = numbered Part 0 parts (numbered Client 0 clients rest)

-- all roles of a log: marks, a reader for each of these, the disk and the log
abbrev pub opening_roles : ℕ → ℕ → List Role
opening_roles parts clients = mark_roles parts clients (note_roles (parts + clients) (Log ∷ []))

-- what the first seat knows, which has all roles
abbrev pub opening_view : Opening → View
opening_view k = at_rest (stamp (opening_roles k.parts k.clients) [] k.first 0)

-- all roles but the first
abbrev pub rest_of : List Role → List Role
rest_of [] = []
rest_of (n ∷ ns) = ns

-- the first role alone
abbrev pub first_of_roles : List Role → List Role
first_of_roles [] = []
first_of_roles (n ∷ ns) = n ∷ []

-- a seat that gives its first role away
abbrev pub without_first : View → View
without_first v = at_rest (stamp (rest_of v.now.roles) v.now.known v.now.count v.now.faults)

-- the seat that gets it
abbrev pub first_alone : View → View
first_alone v = at_rest (stamp (first_of_roles v.now.roles) v.now.known v.now.count v.now.faults)

-- the seat of one more reader, who knows as much
abbrev pub reader_alone : View → View
reader_alone v = at_rest (stamp (Reader ∷ []) v.now.known v.now.count v.now.faults)

-- the log's seat with another's role and numbers, and the other's stamp to compare
abbrev pub together : View → View → View
together v w = record {
  now = stamp (w.now.roles ++ v.now.roles) v.now.known (max v.now.count w.now.count) (max v.now.faults w.now.faults);
  olds = w.now ∷ v.olds;
}

-- a seat that was taken in
abbrev pub spent : View
spent = at_rest (stamp [] [] 0 0)

-- a seat's view, and the slots that it holds, of which the table has none
abbrev pub SeatState : Type 0
SeatState = Me Listed View

-- all that a seat knew was right about its own list, for some posted numbers
abbrev pub Shown : View → Type 0
Shown v = (count : ℕ) × (faults : ℕ) × Stands v.now.known count faults v.now × ((o : Stamp) → In o v.olds → Stands v.now.known count faults o)

-- a look: the older stamps are dropped, and all that was known was right
abbrev pub Looked : Step Listed → SeatState → ℕ → SeatState → Type 0
Looked st m n m' = (m' ≡ (at_rest m.0.now, m.1)) × Shown m.0

-- an item, field by field
abbrev pub item : Listed → List Role → Item
item e ns = record { listed = e; roles = ns }

-- the entry is added under the roles that the seat has
abbrev pub with_listed : Stamp → Listed → Stamp
with_listed o e = stamp o.roles (o.known ++ item e o.roles ∷ []) o.count o.faults

-- an add of the entry that is said
abbrev pub Added : Step Listed → SeatState → ℕ → SeatState → Type 0
Added st m n m' = (e : Listed) → st.said ≡ some e → (m' ≡ (at_rest (with_listed m.0.now e), m.1)) × Shown m.0

-- a stamp with another count
abbrev pub with_count : Stamp → ℕ → Stamp
with_count o n = stamp o.roles o.known n o.faults

-- with other faults
abbrev pub with_faults : Stamp → ℕ → Stamp
with_faults o n = stamp o.roles o.known o.count n

-- a post of a count, and of faults
abbrev pub PostedCount : Step Listed → SeatState → ℕ → SeatState → Type 0
PostedCount st m n m' = m' ≡ (at_rest (with_count m.0.now n), m.1)

abbrev pub PostedFaults : Step Listed → SeatState → ℕ → SeatState → Type 0
PostedFaults st m n m' = m' ≡ (at_rest (with_faults m.0.now n), m.1)

-- a look at the posted count: it is not below the one that was seen, and just that one where the seat is the disk's
abbrev pub SawCount : Step Listed → SeatState → ℕ → SeatState → Type 0
SawCount st m n m' = (m' ≡ (at_rest (with_count m.0.now n), m.1)) × (m.0.now.count ≤ n) × (In Disk m.0.now.roles → n ≡ m.0.now.count)

-- a look at the posted faults: those that were seen, or the first ones
abbrev pub SawFaults : Step Listed → SeatState → ℕ → SeatState → Type 0
SawFaults st m n m' =
    (m' ≡ (at_rest (with_faults m.0.now n), m.1)) × ((m.0.now.faults ≡ 0) ⊎ (m.0.now.faults ≡ n)) × (In Disk m.0.now.roles → n ≡ m.0.now.faults)
