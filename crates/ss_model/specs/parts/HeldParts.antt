-- Databases of which only some partitions are held: what stands for the others, and what an entry does there.
use Rattle.std.specs.Prelude.{◌≡◌, ◌≤◌, ℕ, Bool, true, false, cond, [], Some}
use Rattle.std.specs.List.{list_any, range_with_len}
use Rattle.std.specs.Option.{option_map}
use Rattle.std.specs.FinMap as finmap
use Rattle.ss_model.specs.declared.catalog.Catalog.{Catalog}
use Rattle.ss_model.specs.declared.entry.Entry.{Entry}
use Rattle.ss_model.specs.Results.{map_indexed}
use Rattle.ss_model.specs.Accepted.{Accepted}
use Rattle.ss_model.specs.Database.{Database, Applied, apply}
use Rattle.ss_model.specs.Partitions.{row_partition, window_partition, home_of, home_partition, border_procedure, touches, part, seen_bodies}
use Rattle.ss_model.specs.parts.Locality.{SameApplied}

-- whether some partition that runs is held
abbrev pub holds_some : ℕ → (ℕ → Bool) → Bool
holds_some n held = list_any held (range_with_len 0 n)

-- a database with blanks for what is of partitions that are not held; all streams stay, and which bodies the procedures have is seen
-- from each partition
abbrev pub elsewhere_blank : Catalog → ℕ → (ℕ → Bool) → Database → Database
elsewhere_blank catalog n held db = record db {
  contents = record {
    tables = map_indexed (λ t m. finmap.retain_keys m (λ key. held (row_partition catalog n t key))) db.contents.tables;
    windows = map_indexed (λ w us. cond (held (window_partition catalog n w)) us []) db.contents.windows;
  };
  counts = map_indexed (λ q c. cond (held (home_of catalog n q)) c 0) db.counts;
  next_numbers = map_indexed (λ s m. cond (held (home_partition n (border_procedure catalog s))) m finmap.empty) db.next_numbers;
  bodies = seen_bodies catalog (holds_some n held) db.bodies;
}

-- what an entry comes to, with such blanks in the database that it leaves
abbrev pub blank_after : Catalog → ℕ → (ℕ → Bool) → Applied → Applied
blank_after catalog n held a = record a { db = elsewhere_blank catalog n held a.db }

-- each partition that an entry touches is held
abbrev pub HoldsTouched : Catalog → ℕ → (ℕ → Bool) → Entry → Type 0
HoldsTouched catalog n held e = (p : ℕ) → touches catalog n e p ≡ true → held p ≡ true

-- law: the part of a partition that is held has no blanks
abbrev pub HeldPartsStay : Type 0
HeldPartsStay =
    (catalog : Catalog) (n : ℕ) (held : ℕ → Bool) (db : Database) (p : ℕ) → held p ≡ true → part catalog n p (elsewhere_blank catalog n held db) ≡ part catalog n p db

-- law: an entry whose partitions are held has the same effect beside blanks as on the whole database
abbrev pub HeldPartsAreEnough : Type 0
HeldPartsAreEnough =
    (catalog : Catalog) → Accepted catalog → (n : ℕ) → 1 ≤ n → (held : ℕ → Bool) (e : Entry) → HoldsTouched catalog n held e →
    (db : Database) → SameApplied catalog n e (apply catalog (elsewhere_blank catalog n held db) e) (apply catalog db e)

-- law: and what it leaves beside blanks is, part by part, what it leaves of the whole database, with the same blanks
abbrev pub BlanksStay : Type 0
BlanksStay =
    (catalog : Catalog) → Accepted catalog → (n : ℕ) → 1 ≤ n → (held : ℕ → Bool) (e : Entry) → HoldsTouched catalog n held e →
    (db : Database) (x y : Applied) → apply catalog (elsewhere_blank catalog n held db) e ≡ Some x → apply catalog db e ≡ Some y →
    (p : ℕ) → part catalog n p x.db ≡ part catalog n p (elsewhere_blank catalog n held y.db)

-- two databases differ in their streams at most
pub record SameButStreams (x y : Database) : Type 0 where
  pub contents : x.contents ≡ y.contents
  pub counts : x.counts ≡ y.counts
  pub next_numbers : x.next_numbers ≡ y.next_numbers
  pub bodies : x.bodies ≡ y.bodies

-- law: the parts of a database are all that there is of it but for its streams
abbrev pub PartsAreAll : Type 0
PartsAreAll = (catalog : Catalog) (n : ℕ) → 1 ≤ n → (x y : Database) → ((p : ℕ) → part catalog n p x ≡ part catalog n p y) → SameButStreams x y

-- law: so what such an entry comes to beside blanks is what it comes to on the whole database, with the same blanks
abbrev pub RunsBesideBlanks : Type 0
RunsBesideBlanks =
    (catalog : Catalog) → Accepted catalog → (n : ℕ) → 1 ≤ n → (held : ℕ → Bool) (e : Entry) → HoldsTouched catalog n held e →
    (db : Database) → apply catalog (elsewhere_blank catalog n held db) e ≡ option_map (blank_after catalog n held) (apply catalog db e)

-- law: an entry that touches no partition that is held leaves what is held as it was, but for the streams
abbrev pub UntouchedStay : Type 0
UntouchedStay =
    (catalog : Catalog) → Accepted catalog → (n : ℕ) → 1 ≤ n → (held : ℕ → Bool) (e : Entry) → ((p : ℕ) → held p ≡ true → touches catalog n e p ≡ false) →
    (db : Database) (a : Applied) → apply catalog db e ≡ Some a → SameButStreams (elsewhere_blank catalog n held a.db) (elsewhere_blank catalog n held db)
