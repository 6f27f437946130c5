-- What contracts see of a token.
use Rattle.std.specs.Prelude.{◌≡◌, ◌⊎◌, ℕ, ◌≤◌, List, [], ◌∷◌, ◌++◌, map, drop, length, true, false}
use Rattle.ss_model.specs.declared.entry.Listed.{Listed}
use Rattle.ss_commitlog.specs.declared.role.Role.{Role}
use Rattle.ss_commitlog.specs.declared.role.Role.TheVariants.{Reader, Disk, Log}
use Rattle.ss_commitlog.specs.declared.rule.Stamp.{Stamp}
use Rattle.ss_commitlog.specs.declared.rule.View.{View}
use Rattle.ss_commitlog.specs.declared.rule.Item.{Item}
use Rattle.ss_commitlog.specs.Roles.{In}
use Rattle.ss_commitlog.specs.Rule.{stamp, at_rest, together, item}
use Rattle.ss_model.specs.declared.catalog.Catalog.{Catalog}
use Rattle.ss_model.specs.declared.entry.Entry.{Entry}
use Rattle.ss_commitlog.specs.Meaning.{concerns}

-- its role, the list that it knows, and the receipted count and the faults that it has seen posted
pub record Known : Type 0 where
  pub role : Role
  pub list : List Item
  pub count : ℕ
  pub faults : ℕ

-- such a token, field by field
abbrev pub known : Role → List Item → ℕ → ℕ → Known
known n l c f = record { role = n; list = l; count = c; faults = f }

-- the first of these roles
abbrev pub head_or_reader : List Role → Role
head_or_reader [] = Reader
head_or_reader (n ∷ ns) = n

-- what a seat with one role knows
abbrev pub known_of : View → Known
known_of v = known (head_or_reader v.now.roles) v.now.known v.now.count v.now.faults

-- the stamp of a token with one role
abbrev pub stamp_of : Known → Stamp
stamp_of k = stamp (k.role ∷ []) k.list k.count k.faults

-- its seat
abbrev pub seat_view : Known → View
seat_view k = at_rest (stamp_of k)

-- the log's seat, after it took in these, the last first
abbrev pub joined : View → List Known → View
joined v [] = v
joined v (k ∷ ks) = together (joined v ks) (seat_view k)

-- whom tokens stand for
abbrev pub role_of : Known → Role
role_of k = k.role

abbrev pub roles_of : List Known → List Role
roles_of ks = map role_of ks

-- the log's seat, which knows this list
abbrev pub log_view : List Item → ℕ → ℕ → View
log_view l c f = at_rest (stamp (Log ∷ []) l c f)

-- each role that the entry concerns is one of these
abbrev pub Covers : Catalog → ℕ → List Role → Entry → Type 0
Covers catalog parts roles e = (role : Role) → concerns catalog parts e role ≡ true → In role roles

-- numbers that were seen never fall, and those of the disk's token are its own to change
pub record SeesMore (k l : Known) : Type 0 where
  pub count : k.count ≤ l.count
  pub faults : k.faults ≤ l.faults
  pub disk : k.role ≡ Disk → (l.count ≡ k.count) × (l.faults ≡ k.faults)

-- the same token, which knows this list
pub record Knows (list : List Item) (k l : Known) : Type 0 where
  pub role : l.role ≡ k.role
  pub list_is : l.list ≡ list
  pub sees : SeesMore k l

-- the same tokens, which know this list
abbrev pub AllKnow : List Item → List Known → List Known → Type 0
AllKnow list [] [] = Unit {0}
AllKnow list (k ∷ ks) (l ∷ ls) = Knows list k l × AllKnow list ks ls
AllKnow list _ _ = ⊥

-- the list goes on from what the token knew, and no entry behind that concerns the token's role
pub record Continues (catalog : Catalog) (parts : ℕ) (list : List Item) (k : Known) : Type 0 where
  pub rest : List Item
  pub is : list ≡ k.list ++ rest
  pub quiet : (i : Item) → In i rest → concerns catalog parts i.listed.entry k.role ≡ false

-- of each token
abbrev pub AllContinue : Catalog → ℕ → List Item → List Known → Type 0
AllContinue catalog parts list ks = (k : Known) → In k ks → Continues catalog parts list k

-- a token with this role, which has seen as much as the stamp
abbrev pub token : Stamp → Role → Known
token o n = known n o.known o.count o.faults

-- the seat without its first roles
abbrev pub cut : ℕ → View → View
cut n v = at_rest (stamp (drop n v.now.roles) v.now.known v.now.count v.now.faults)

-- the list with an entry that was added under these tokens
abbrev pub added : List Item → List Role → Listed → List Item
added list roles e = list ++ item e (roles ++ Log ∷ []) ∷ []

-- no token had seen more than the disk's token holds
abbrev pub AllSaw : Known → List Known → Type 0
AllSaw disk ks = (k : Known) → In k ks → (k.count ≤ disk.count) × ((k.faults ≡ 0) ⊎ (k.faults ≡ disk.faults))

-- the same token, whose list goes on from the one before, behind which no entry concerns its role, and has at most so many entries
pub record Follows (catalog : Catalog) (parts limit : ℕ) (k l : Known) : Type 0 where
  pub role : l.role ≡ k.role
  pub sees : SeesMore k l
  pub goes_on : Continues catalog parts l.list k
  pub within : length l.list ≤ limit

-- two tokens have seen the same numbers
abbrev pub SeeOne : Known → Known → Type 0
SeeOne k l = (k.count ≡ l.count) × (k.faults ≡ l.faults)

-- and they know the same list
abbrev pub KnowOne : Known → Known → Type 0
KnowOne k l = (k.list ≡ l.list) × SeeOne k l

-- each of these has seen the numbers that the token has seen
abbrev pub AllSeeAs : Known → List Known → Type 0
AllSeeAs l ks = (k : Known) → In k ks → SeeOne k l

-- the same tokens, which then know one list of at most so many entries, that goes on from what each knew
abbrev pub MeetAll : Catalog → ℕ → ℕ → List Known → List Known → Type 0
MeetAll catalog parts limit ks ls = (list : List Item) × (length list ≤ limit) × AllKnow list ks ls × AllContinue catalog parts list ks

-- the same marks and the same note, which then know one list, that goes on from what each of them knew, and have seen the same
-- numbers
pub record Met (catalog : Catalog) (parts limit : ℕ) (marks : List Known) (note : Known) (new_marks : List Known) (new_note : Known) : Type 0 where
  pub know : AllKnow new_note.list marks new_marks
  pub go_on : AllContinue catalog parts new_note.list marks
  pub follows : Follows catalog parts limit note new_note
  pub see : AllSeeAs new_note new_marks

-- the tokens of these roles before the first entry, which has this place
abbrev pub at_opening : ℕ → List Role → List Known
at_opening first roles = map (λ n. known n [] first 0) roles
