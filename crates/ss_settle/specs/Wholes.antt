-- Lists that may be whole while all partitions are in hand.
use Rattle.std.specs.Prelude.{◌≡◌, ℕ, true, List}
use Rattle.std.specs.List.{AllByRecursion}
use Rattle.ss_model.specs.declared.catalog.Catalog.{Catalog}
use Rattle.ss_model.specs.Database.{Database}
use Rattle.ss_model.specs.Partitions.{touches}
use Rattle.ss_model.specs.Replays.{Replays}
use Rattle.ss_commitlog.specs.declared.rule.Item.{Item}
use Rattle.ss_commitlog.specs.Meaning.{listed_of}
use Rattle.ss_commitlog.specs.Roles.{In}
use Rattle.ss_commitlog.specs.Tokens.{Known, AllContinue}

-- each entry of a list touches some partition
abbrev pub EachTouches : Catalog → ℕ → List Item → Type 0
EachTouches catalog n list = (i : Item) → In i list → (p : ℕ) × (touches catalog n i.listed.entry p ≡ true)

-- these marks know a list
abbrev pub AllAt : List Item → List Known → Type 0
AllAt list marks = AllByRecursion (λ k. k.list ≡ list) marks

-- a list that replays and goes on from what these marks know, each of its entries touching some partition
pub record MayBeWhole (catalog : Catalog) (n : ℕ) (db : Database) (list : List Item) (marks : List Known) : Type 0 where
  pub touch : EachTouches catalog n list
  pub replays : Replays catalog db (listed_of list)
  pub on : AllContinue catalog n list marks
