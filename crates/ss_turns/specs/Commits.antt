-- The commit of an entry, and that of what a client asked for.
use Rattle.std.specs.Prelude.{◌≡◌, ℕ, ◌+◌, ◌<◌, ◌^◌, List, [], ◌∷◌, ◌++◌, length, Ok, Err}
use Rattle.std.specs.declared.result.Result.{Result}
use Rattle.ss_model.specs.declared.catalog.Catalog.{Catalog}
use Rattle.ss_model.specs.declared.entry.Listed.{Listed}
use Rattle.ss_commitlog.specs.declared.placed.Placed.{Placed}
use Rattle.ss_commitlog.specs.declared.placed.Unlisted.{Unlisted}
use Rattle.ss_commitlog.specs.declared.placed.Unlisted.TheVariants.{NoMemory, ListFull}
use Rattle.ss_commitlog.specs.declared.rule.Item.{Item}
use Rattle.ss_commitlog.specs.Tokens.{Known, AllContinue, AllKnow, Knows, added, roles_of}

-- a commit under some marks, and these marks behind it: what has a place is the entry, which stands there behind a list that goes on
-- from what each mark knew, and all marks know the list that ends with it
abbrev pub CommitsListed : Catalog → ℕ → ℕ → ℕ → List Known → Listed → List Known → Result Placed Unlisted → Type 0
CommitsListed catalog parts first limit ks l ks' (Ok placed) =
    (list : List Item) × (placed.place ≡ first + length list) × (placed.place < 2 ^ 60) × (placed.listed ≡ l) × AllKnow (added list (roles_of ks) l) ks ks'
    × AllContinue catalog parts list ks
CommitsListed catalog parts first limit ks l ks' (Err NoMemory) = ks' ≡ ks
CommitsListed catalog parts first limit ks l ks' (Err (ListFull count)) =
    (list : List Item) × (count ≡ limit) × (length list ≡ limit) × AllKnow list ks ks' × AllContinue catalog parts list ks

-- the marks of an execution: those of its partitions, and behind them its client's
abbrev pub with_client : List Known → Known → List Known
with_client parts mark = parts ++ mark ∷ []

-- the same under the marks of partitions and of a client
abbrev pub CommitsAsked : Catalog → ℕ → ℕ → ℕ → List Known → Known → Listed → List Known → Known → Result Placed Unlisted → Type 0
CommitsAsked catalog parts first limit ks k l ks' k' (Ok placed) =
    (list : List Item) × (placed.place ≡ first + length list) × (placed.place < 2 ^ 60) × (placed.listed ≡ l)
    × AllKnow (added list (roles_of (with_client ks k)) l) ks ks' × Knows (added list (roles_of (with_client ks k)) l) k k'
    × AllContinue catalog parts list (with_client ks k)
CommitsAsked catalog parts first limit ks k l ks' k' (Err NoMemory) = (ks' ≡ ks) × (k' ≡ k)
CommitsAsked catalog parts first limit ks k l ks' k' (Err (ListFull count)) =
    (list : List Item) × (count ≡ limit) × (length list ≡ limit) × AllKnow list ks ks' × Knows list k k' × AllContinue catalog parts list (with_client ks k)
