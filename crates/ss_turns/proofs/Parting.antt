-- Marks that are taken apart after a commit.
use Rattle.std.proofs.Common.{◌≡◌, ℕ, List, [], ◌∷◌, ◌++◌, refl, sym, ◌∙◌, Ok, Err}
use Rattle.std.specs.declared.result.Result.{Result}
use Rattle.ss_lemmas.proofs.Ends.{ends_alike}
use Rattle.ss_model.specs.declared.catalog.Catalog.{Catalog}
use Rattle.ss_model.specs.declared.entry.Listed.{Listed}
use Rattle.ss_commitlog.specs.declared.placed.Placed.{Placed}
use Rattle.ss_commitlog.specs.declared.placed.Unlisted.{Unlisted}
use Rattle.ss_commitlog.specs.declared.placed.Unlisted.TheVariants.{NoMemory, ListFull}
use Rattle.ss_commitlog.specs.declared.rule.Item.{Item}
use Rattle.ss_commitlog.specs.Tokens.{Known, AllKnow, Knows, added, roles_of}
use Rattle.ss_turns.specs.Commits.{with_client, CommitsAsked, CommitsListed}

-- as many come back as went in
none_more : (list : List Item) (ls : List Known) (l : Known) → AllKnow list [] (ls ++ l ∷ []) → ⊥
none_more list [] l all = all
none_more list (x ∷ ls) l all = all

none_less : (list : List Item) (ks : List Known) (k : Known) → AllKnow list (ks ++ k ∷ []) [] → ⊥
none_less list [] k all = all
none_less list (x ∷ ks) k all = all

-- the last one is the client's
know_apart : (list : List Item) (ks : List Known) (k : Known) (ls : List Known) (l : Known) → AllKnow list (with_client ks k) (with_client ls l) → AllKnow list ks ls × Knows list k l
know_apart list [] k [] l all = (tt, all.0)
know_apart list [] k (x ∷ ls) l all = absurd (none_more list ls l all.1)
know_apart list (x ∷ ks) k [] l all = absurd (none_less list ks k all.1)
know_apart list (x ∷ ks) k (y ∷ ls) l all = let r = know_apart list ks k ls l all.1 in ((all.0, r.0), r.1)

-- marks that went in come back, so some do
pub some_known : (list : List Item) (ms marks : List Known) → AllKnow list ms marks → (ms ≡ [] → ⊥) → marks ≡ [] → ⊥
some_known list [] marks all some none = some refl
some_known list (k ∷ ks) [] all some none = all
some_known list (k ∷ ks) (l ∷ ls) all some none = absurd (cc)

-- with the client's there are some
pub some_with_client : (ks : List Known) (k : Known) (ms : List Known) → ms ≡ with_client ks k → ms ≡ [] → ⊥
some_with_client [] k ms is none = absurd (cc)
some_with_client (x ∷ ks) k ms is none = absurd (cc)

module _ (catalog : Catalog) (parts first limit : ℕ) (l : Listed) where
  -- so after each commit under some marks there are some
  pub some_behind : (ms marks : List Known) (said : Result Placed Unlisted) → CommitsListed catalog parts first limit ms l marks said → (ms ≡ [] → ⊥) → marks ≡ [] → ⊥
  some_behind ms marks (Ok placed) done some = let (list, at, small, same, all, on_all) = done in some_known (added list (roles_of ms) l) ms marks all some
  some_behind ms marks (Err NoMemory) done some = λ none. some (sym done ∙ none)
  some_behind ms marks (Err (ListFull count)) done some = let (list, count_is, long, all, on_all) = done in some_known list ms marks all some

  -- a commit under marks of partitions and of a client, as each of them sees it
  pub asked_apart : (ks : List Known) (k : Known) (ps : List Known) (m : Known) (said : Result Placed Unlisted) → CommitsListed catalog parts first limit (with_client ks k) l (with_client ps m) said
      → CommitsAsked catalog parts first limit ks k l ps m said
  asked_apart ks k ps m (Ok placed) done =
      let (list, at, small, same, all, on_all) = done in
      let known : AllKnow (added list (roles_of (with_client ks k)) l) ks ps × Knows (added list (roles_of (with_client ks k)) l) k m = know_apart (added list (roles_of (with_client ks k)) l) ks k ps m all in
      (list, at, small, same, known.0, known.1, on_all)
  asked_apart ks k ps m (Err NoMemory) done = ends_alike ps ks m k done
  asked_apart ks k ps m (Err (ListFull count)) done =
      let (list, count_is, long, all, on_all) = done in
      let known = know_apart list ks k ps m all in
      (list, count_is, long, known.0, known.1, on_all)
