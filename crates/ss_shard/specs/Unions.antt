-- A shard that takes in the parts of several others, and gives them back.
use Rattle.std.specs.Prelude.{◌≡◌, ◌≤◌, ℕ, false, List, [], ◌∷◌, ◌++◌, map, length}
use Rattle.std.specs.List.{AllByRecursion}
use Rattle.ss_model.specs.declared.catalog.Catalog.{Catalog}
use Rattle.ss_model.specs.Database.{Database}
use Rattle.ss_shard.specs.ShardValue.{ShardValue}
use Rattle.ss_shard.specs.Parts.{is_among, HoldsParts, HasParts, IsShell}

-- the partitions of shards
abbrev pub numbers_of : List ShardValue → List ℕ
numbers_of shards = map (λ s. s.number) shards

-- none of these is among those before it, or among those held
abbrev pub AreFresh : List ℕ → List ℕ → Type 0
AreFresh held [] = Unit {0}
AreFresh held (p ∷ ps) = (is_among held p ≡ false) × AreFresh (held ++ p ∷ []) ps

-- each of these shards has the part of its own partition alone
abbrev pub HaveTheirOwn : Catalog → ℕ → List ShardValue → Type 0
HaveTheirOwn catalog n shards = AllByRecursion (λ s. HasParts catalog n (s.number ∷ []) s) shards

-- and stands for that part of a database
abbrev pub HoldTheirOwn : Catalog → ℕ → List ShardValue → Database → Type 0
HoldTheirOwn catalog n shards db = AllByRecursion (λ s. HoldsParts catalog n (s.number ∷ []) s db) shards

-- each of these has lent all that it had
abbrev pub AreShells : Catalog → ℕ → List ShardValue → Type 0
AreShells catalog n shells = AllByRecursion (IsShell catalog n) shells

-- a shard of some partitions and others beside it, each of its own: there is a database of which each holds its parts
pub record AreApart (catalog : Catalog) (n : ℕ) (held : List ℕ) (shard : ShardValue) (others : List ShardValue) : Type 0 where
  pub own : HasParts catalog n held shard
  pub own_others : HaveTheirOwn catalog n others
  pub fresh : AreFresh held (numbers_of others)
  pub database : (db : Database) × HoldsParts catalog n held shard db × HoldTheirOwn catalog n others db

-- the shard has taken the others in, of which shells are left
pub record WereUnited (catalog : Catalog) (n : ℕ) (held : List ℕ) (old : ShardValue) (others : List ShardValue) (new : ShardValue) (shells : List ShardValue) : Type 0 where
  pub number : new.number ≡ old.number
  pub parts : HasParts catalog n (held ++ numbers_of others) new
  pub holds : (db : Database) → HoldsParts catalog n held old db → HoldTheirOwn catalog n others db → HoldsParts catalog n (held ++ numbers_of others) new db
  pub numbers : numbers_of shells ≡ numbers_of others
  pub left : AreShells catalog n shells

-- whatever partitions the shard held beside the others
abbrev pub Unites : Catalog → ℕ → ShardValue → List ShardValue → ShardValue → List ShardValue → Type 0
Unites catalog n old others new shells = (held : List ℕ) → AreApart catalog n held old others → WereUnited catalog n held old others new shells

-- it could not, and each holds what it held
pub record AreStillApart (catalog : Catalog) (n : ℕ) (held : List ℕ) (old : ShardValue) (others : List ShardValue) (new : ShardValue) (news : List ShardValue) : Type 0 where
  pub number : new.number ≡ old.number
  pub parts : HasParts catalog n held new
  pub numbers : numbers_of news ≡ numbers_of others
  pub parts_others : HaveTheirOwn catalog n news
  pub holds : (db : Database) → HoldsParts catalog n held old db → HoldTheirOwn catalog n others db → HoldsParts catalog n held new db × HoldTheirOwn catalog n news db

-- whatever partitions the shard held beside the others
abbrev pub StayApart : Catalog → ℕ → ShardValue → List ShardValue → ShardValue → List ShardValue → Type 0
StayApart catalog n old others new news =
    (held : List ℕ) → 1 ≤ length held → AreApart catalog n held old others → AreStillApart catalog n held old others new news

-- a shard of some partitions and of those of shells may give the shells their parts back
pub record MayPart (catalog : Catalog) (n : ℕ) (held : List ℕ) (shard : ShardValue) (shells : List ShardValue) : Type 0 where
  pub parts : HasParts catalog n (held ++ numbers_of shells) shard
  pub some : 1 ≤ length held
  pub fresh : AreFresh held (numbers_of shells)
  pub lent : AreShells catalog n shells

-- it has, and of each database of which it held all these parts, each holds its own
pub record WereParted (catalog : Catalog) (n : ℕ) (held : List ℕ) (old : ShardValue) (shells : List ShardValue) (new : ShardValue) (backs : List ShardValue) : Type 0 where
  pub number : new.number ≡ old.number
  pub parts : HasParts catalog n held new
  pub numbers : numbers_of backs ≡ numbers_of shells
  pub parts_backs : HaveTheirOwn catalog n backs
  pub holds : (db : Database) → HoldsParts catalog n (held ++ numbers_of shells) old db → HoldsParts catalog n held new db × HoldTheirOwn catalog n backs db

-- whatever partitions the shard held beside those of the shells
abbrev pub Departs : Catalog → ℕ → ShardValue → List ShardValue → ShardValue → List ShardValue → Type 0
Departs catalog n old shells new backs = (held : List ℕ) → MayPart catalog n held old shells → WereParted catalog n held old shells new backs
