-- An entry that ran on the parts in hand.
use Rattle.std.specs.Prelude.{◌≡◌, ℕ, ◌+◌, ◌<◌, ◌^◌, List, length, Some, None, Ok, Err}
use Rattle.std.specs.declared.option.Option.{Option}
use Rattle.std.specs.declared.result.Result.{Result}
use Rattle.ss_model.specs.declared.catalog.Catalog.{Catalog}
use Rattle.ss_model.specs.declared.entry.Entry.{Entry}
use Rattle.ss_model.specs.declared.entry.Entry.TheVariants.{Call, Push, Step as StepEntry, Install}
use Rattle.ss_model.specs.declared.entry.Listed.{Listed}
use Rattle.ss_model.specs.Database.{Database}
use Rattle.ss_model.specs.parts.HeldParts.{HoldsTouched}
use Rattle.ss_commitlog.specs.declared.placed.Placed.{Placed}
use Rattle.ss_commitlog.specs.declared.placed.Unlisted.{Unlisted}
use Rattle.ss_commitlog.specs.declared.placed.Unlisted.TheVariants.{NoMemory, ListFull}
use Rattle.ss_commitlog.specs.declared.role.Role.{Role}
use Rattle.ss_commitlog.specs.declared.role.Role.TheVariants.{Client}
use Rattle.ss_commitlog.specs.declared.rule.Item.{Item}
use Rattle.ss_commitlog.specs.Tokens.{Known, AllContinue, AllKnow, added, roles_of}
use Rattle.ss_hand.specs.Hands.{IsInHand}
use Rattle.ss_hand.specs.declared.hand.Hand.{Hand}
use Rattle.ss_shard.specs.Parts.{is_among}
use Rattle.ss_turns.specs.Commits.{CommitsAsked}
use Rattle.ss_turns.specs.Stepping.{EachGoesOn}

-- the entry is what a client asked for, whose role this is
abbrev pub IsOfRole : Role → Entry → Type 0
IsOfRole role (Call client index q args) = role ≡ Client client
IsOfRole role (Push client index s source seq rows) = role ≡ Client client
IsOfRole role (Install client index q text) = role ≡ Client client
IsOfRole role (StepEntry q r) = ⊥

-- some partitions are in hand, among them all that the entry touches
pub record HoldsFor {I : Type 0} (catalog : Catalog) (n : ℕ) (db : Database) (hand : Hand I) (e : Entry) : Type 0 where
  pub held : List ℕ
  pub in_hand : IsInHand catalog n db held hand
  pub touched : HoldsTouched catalog n (is_among held) e

-- the same partitions are in hand as before
abbrev pub StaysInHand : {I : Type 0} → Catalog → ℕ → Database → Hand I → Hand I → Type 0
StaysInHand catalog n db old new = (held : List ℕ) → IsInHand catalog n db held old → IsInHand catalog n db held new

-- an entry ran under the marks of its partitions and of its client, and these marks as they come back with what was said
pub record RanAsked (catalog : Catalog) (n first limit : ℕ) (e : Entry) (ks : List Known) (k : Known) (ks' : List Known) (k' : Known) (said : Result Placed Unlisted) : Type 0 where
  pub listed : Listed
  pub entry_is : listed.entry ≡ e
  pub commits : CommitsAsked catalog n first limit ks k listed ks' k' said

-- the next step of a procedure under the marks of its partitions, and these marks as they come back: it joined the list at its
-- place, behind a list that goes on from what each mark knew; or, where it did not run, the marks know no less than before
abbrev pub IsStepped : Catalog → ℕ → ℕ → ℕ → ℕ → List Known → List Known → Result (Option Placed) Unlisted → Type 0
IsStepped catalog n first limit q ks ks' (Ok (Some placed)) =
    (list : List Item) × (r : ℕ) × (placed.place ≡ first + length list) × (placed.place < 2 ^ 60) × (placed.listed.entry ≡ StepEntry q r)
    × AllKnow (added list (roles_of ks) placed.listed) ks ks' × AllContinue catalog n list ks
IsStepped catalog n first limit q ks ks' (Ok None) = EachGoesOn catalog n ks ks'
IsStepped catalog n first limit q ks ks' (Err NoMemory) = EachGoesOn catalog n ks ks'
IsStepped catalog n first limit q ks ks' (Err (ListFull count)) =
    (list : List Item) × (count ≡ limit) × (length list ≡ limit) × AllKnow list ks ks' × AllContinue catalog n list ks
