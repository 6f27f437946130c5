-- An entry whose partitions are in hand.
use Rattle.std.specs.Prelude.{◌≡◌, ℕ, List}
use Rattle.std.specs.List.{AllByRecursion}
use Rattle.ss_model.specs.declared.catalog.Catalog.{Catalog}
use Rattle.ss_model.specs.declared.entry.Entry.{Entry}
use Rattle.ss_model.specs.Database.{Database}
use Rattle.ss_model.specs.parts.HeldParts.{HoldsTouched}
use Rattle.ss_commitlog.specs.Tokens.{Known}
use Rattle.ss_hand.specs.Hands.{IsInHand}
use Rattle.ss_hand.specs.declared.hand.Hand.{Hand}
use Rattle.ss_shard.specs.Parts.{is_among}
use Rattle.ss_engine.specs.Pumped.{IsLeastOf}

-- all partitions that it touches are in hand, p is the least of them, and their marks and the note know one list
pub record ServesHere {I : Type 0} (catalog : Catalog) (n : ℕ) (db : Database) (p : ℕ) (held : List ℕ) (note : Known) (hand : Hand I) (e : Entry) : Type 0 where
  pub in_hand : IsInHand catalog n db held hand
  pub touched : HoldsTouched catalog n (is_among held) e
  pub least : IsLeastOf catalog n e p
  pub know_one : AllByRecursion (λ k. k.list ≡ note.list) hand.marks
