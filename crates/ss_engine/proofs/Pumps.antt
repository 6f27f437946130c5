-- What the note of a pump knows after a commit.
use Rattle.std.proofs.Common.{◌≡◌, ℕ, ◌≤◌, List, [], ◌∷◌, ◌++◌, length, ap, ◌∙◌, arith, append_assoc, Result, Ok, Err}
use Rattle.ss_model.specs.declared.catalog.Catalog.{Catalog}
use Rattle.ss_model.specs.declared.entry.Listed as model
use Rattle.ss_model.specs.Database.{Database}
use Rattle.ss_commitlog.specs.declared.placed.Placed.{Placed}
use Rattle.ss_commitlog.specs.declared.placed.Unlisted.{Unlisted}
use Rattle.ss_commitlog.specs.declared.placed.Unlisted.TheVariants.{NoMemory, ListFull}
use Rattle.ss_commitlog.specs.declared.role.Role.TheVariants.{Log}
use Rattle.ss_commitlog.specs.declared.rule.Item.{Item}
use Rattle.ss_commitlog.specs.Roles.{In}
use Rattle.ss_commitlog.specs.Rule.{item}
use Rattle.ss_commitlog.specs.Tokens.{Known, roles_of}
use Rattle.ss_commitlog.proofs.CallerLemmas.{in_left}
use Rattle.ss_turns.specs.Commits.{with_client, CommitsAsked}
use Rattle.ss_commitlog.specs.Growing.{GoesOn}
use Rattle.ss_engine.specs.declared.partition.pumped.Pumped.{Pumped}
use Rattle.ss_engine.specs.declared.partition.pumped.Pumped.TheVariants as pumped
use Rattle.ss_engine.specs.Pumped.{IsLeastOf, IsPumped, AfterPump, pumped_of}
use Rattle.ss_commitlog.proofs.CallerLemmas.{on_and_on, on_longer}

-- a note met the mark of one of the partitions before the commit, and the client's mark after it
module _ (catalog : Catalog) (parts : ℕ) (db : Database) (first limit p : ℕ) (ks : List Known) (k : Known) (l : model.Listed) (ks' : List Known) (k' x held start shown end : Known)
    (least : IsLeastOf catalog parts l.entry p) (one_of : In held ks) (met : shown.list ≡ held.list) (to_shown : GoesOn catalog parts start shown) (to_end : GoesOn catalog parts shown end)
    (since : GoesOn catalog parts k' x) (one : end.list ≡ x.list) (short : length end.list ≤ limit) where
  did_is : (said : Result Placed Unlisted) → CommitsAsked catalog parts first limit ks k l ks' k' said → AfterPump catalog parts db first limit p start end (pumped_of said)
  did_is (Ok placed) done =
      let (list, at, small, same, all, knows, on_all) = done in
      let it : Item = item l (roles_of (with_client ks k) ++ Log ∷ []) in
      let whole : end.list ≡ list ++ it ∷ since.on.rest = one ∙ since.on.is ∙ ap (λ (z : List Item). z ++ since.on.rest) knows.list_is ∙ append_assoc list (it ∷ []) since.on.rest in
      let a = on_longer catalog parts shown.list start to_shown.on in
      let b : length shown.list ≡ length held.list = ap (λ (z : List Item). length z) met in
      let d = on_longer catalog parts list held (on_all held (in_left held ks (k ∷ []) one_of)) in
      ((list, it, since.on.rest, whole, at, least), omega arith)
  did_is (Err NoMemory) none = tt
  did_is (Err (ListFull count)) done =
      let (list, count_is, full, all, knows, on_all) = done in
      let a = on_longer catalog parts x.list k' since.on in
      let b : length k'.list ≡ length list = ap (λ (z : List Item). length z) knows.list_is in
      let d : length end.list ≡ length x.list = ap (λ (z : List Item). length z) one in
      (omega arith, count_is)

  pub commit_pumps : (said : Result Placed Unlisted) → CommitsAsked catalog parts first limit ks k l ks' k' said → IsPumped catalog parts db first limit p start end (pumped_of said)
  commit_pumps said done = record { on = on_and_on catalog parts start shown end to_shown to_end; did_is = did_is said done }

-- the note had gone on before
pub after_later : (catalog : Catalog) (parts : ℕ) (db : Database) (first limit p : ℕ) (a b c : Known) (did : Pumped) → GoesOn catalog parts a b → AfterPump catalog parts db first limit p b c did
    → AfterPump catalog parts db first limit p a c did
after_later catalog parts db first limit p a b c (pumped.Ran place) on did = (did.0, (let l = on_longer catalog parts b.list a on.on in let m = did.1 in omega arith))
after_later catalog parts db first limit p a b c pumped.Idle on did = did
after_later catalog parts db first limit p a b c (pumped.Unlisted NoMemory) on did = did
after_later catalog parts db first limit p a b c (pumped.Unlisted (ListFull count)) on did = did

pub pumped_later : (catalog : Catalog) (parts : ℕ) (db : Database) (first limit p : ℕ) (a b c : Known) (did : Pumped) → GoesOn catalog parts a b → IsPumped catalog parts db first limit p b c did
    → IsPumped catalog parts db first limit p a c did
pumped_later catalog parts db first limit p a b c did on is = record { on = on_and_on catalog parts a b c on is.on; did_is = after_later catalog parts db first limit p a b c did on is.did_is }
