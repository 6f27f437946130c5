-- What a client asks for, run on the parts in hand.
use Rattle.std.proofs.Common.{◌≡◌, ℕ, List, [], ◌∷◌, refl, sym, subst, Ok, Err}
use Rattle.std.specs.declared.result.Result.{Result}
use Rattle.ss_value.specs.Rows.{Rows}
use Rattle.ss_model.specs.declared.catalog.Catalog.{Catalog}
use Rattle.ss_model.specs.declared.entry.Entry.{Entry}
use Rattle.ss_model.specs.declared.entry.Entry.TheVariants.{Call, Push, Step as StepEntry, Install}
use Rattle.ss_model.specs.declared.entry.Listed.{Listed}
use Rattle.ss_model.specs.Database.{Database}
use Rattle.ss_commitlog.specs.declared.placed.Placed.{Placed}
use Rattle.ss_commitlog.specs.declared.placed.Unlisted.{Unlisted}
use Rattle.ss_commitlog.specs.declared.placed.Unlisted.TheVariants.{NoMemory, ListFull}
use Rattle.ss_commitlog.specs.declared.role.Role.{Role}
use Rattle.ss_commitlog.specs.Tokens.{Known, roles_of}
use Rattle.ss_commitlog.proofs.CallerLemmas.{in_left}
use Rattle.ss_turns.specs.Commits.{with_client, CommitsAsked}
use Rattle.ss_turns.specs.Executed.{IsOfRole}
use Rattle.ss_turns.specs.Runs.{AreGiven, SaysOnly}
use Rattle.ss_turns.proofs.InHand.{Came}

-- it takes no batches
no_batches : (catalog : Catalog) (db : Database) (ks : List Known) (role : Role) (e : Entry) → IsOfRole role e → AreGiven catalog db ks e []
no_batches catalog db ks role (Call client index q args) is = record { source = db; known = tt; inputs = tt; at_hand = λ d same. refl }
no_batches catalog db ks role (Push client index s source seq rows) is = record { source = db; known = tt; inputs = tt; at_hand = λ d same. refl }
no_batches catalog db ks role (Install client index q text) is = record { source = db; known = tt; inputs = tt; at_hand = λ d same. refl }
no_batches catalog db ks role (StepEntry q r) is = absurd is

pub given_asked : (catalog : Catalog) (db : Database) (ks : List Known) (role : Role) (e : Entry) → IsOfRole role e → (batches : List Rows) → batches ≡ [] → AreGiven catalog db ks e batches
given_asked catalog db ks role e is batches none = subst (AreGiven catalog db ks e) (sym none) (no_batches catalog db ks role e is)

-- what its commit says, and the marks of the partitions as they come back
module _ (catalog : Catalog) (n first limit : ℕ) (ks : List Known) (k : Known) (l : Listed) (ks' : List Known) (k' : Known) where
  pub says_asked : (said : Result Placed Unlisted) → CommitsAsked catalog n first limit ks k l ks' k' said → SaysOnly l said
  says_asked (Ok placed) done = let (list, at, small, same, know, knows, all) = done in same
  says_asked (Err unlisted) done = tt

  pub came_asked : (said : Result Placed Unlisted) → CommitsAsked catalog n first limit ks k l ks' k' said → Came catalog n ks l ks' said
  came_asked (Ok placed) done =
      let (list, at, small, same, know, knows, all) = done in
      (list, roles_of (with_client ks k), know, λ x i. all x (in_left x ks (k ∷ []) i))
  came_asked (Err NoMemory) done = done.0
  came_asked (Err (ListFull count)) done =
      let (list, count_is, full, know, knows, all) = done in
      (list, know, λ x i. all x (in_left x ks (k ∷ []) i))
