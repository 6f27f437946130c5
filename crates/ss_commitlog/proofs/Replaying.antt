-- What is right after each mark's own list is right after the whole list.
use Rattle.std.proofs.Common.{◌≡◌, ◌⊎◌, inl, inr, ⊎_elim, ℕ, suc, ◌<◌, ◌≤◌, true, false, List, [], ◌∷◌, ◌++◌, length, slice_get, unwrap_or, refl, sym, ap, ◌∙◌, subst, Some, arith, length-append}
use Rattle.std.specs.declared.option.Option.{Option}
use Rattle.std.specs.Option.{option_map}
use Rattle.std.specs.List.{AllByRecursion}
use Rattle.ss_lemmas.proofs.LoopItem.{some_at}
use Rattle.ss_model.specs.declared.catalog.Catalog.{Catalog}
use Rattle.ss_model.specs.declared.entry.Entry.{Entry}
use Rattle.ss_model.specs.declared.entry.Entry.TheVariants.{Call, Push, Step as StepEntry, Install}
use Rattle.ss_model.specs.declared.entry.Outcome.{Outcome}
use Rattle.ss_model.specs.declared.entry.Listed.{Listed}
use Rattle.ss_model.specs.declared.entry.Emitted.{Emitted}
use Rattle.ss_model.specs.Database.{Database, Applied, apply, stream_batches}
use Rattle.ss_model.specs.Replays.{Replays, after}
use Rattle.ss_model.specs.Partitions.{part}
use Rattle.ss_model.specs.parts.ListLocality.{Untouched}
use Rattle.ss_model.specs.parts.Locality.{SameInputs}
use Rattle.ss_model.specs.Accepted.{Accepted}
use Rattle.ss_model.proofs.CallerLemmas.{goes_on}
use Rattle.ss_model_laws.proofs.CallerLemmas.{list_is_local, stream_grows}
use Rattle.ss_commitlog.specs.declared.role.Role.{Role}
use Rattle.ss_commitlog.specs.declared.role.Role.TheVariants.{Part, Log}
use Rattle.ss_commitlog.specs.declared.rule.Item.{Item}
use Rattle.ss_commitlog.specs.Roles.{In}
use Rattle.ss_commitlog.specs.Rule.{item}
use Rattle.ss_commitlog.specs.Meaning.{listed_of, concerns, HasClientBelow, HaveClientsBelow, IsLegal}
use Rattle.ss_commitlog.specs.Tokens.{Known, roles_of, Covers, Continues, AllContinue, added}
use Rattle.ss_commitlog.specs.Right.{AgreesWith, HasInputs, IsKnownTo, Gives, IsRight, known_database}
use Rattle.ss_commitlog.proofs.Lists.{in_either, in_left}

pub length-listed_of : (list : List Item) → length (listed_of list) ≡ length list
length-listed_of [] = refl
length-listed_of (i ∷ is) = ap suc (length-listed_of is)

pub listed_of-append : (xs ys : List Item) → listed_of (xs ++ ys) ≡ listed_of xs ++ listed_of ys
listed_of-append [] ys = refl
listed_of-append (x ∷ xs) ys = ap (λ (l : List Listed). x.listed ∷ l) (listed_of-append xs ys)

pub after-append : (catalog : Catalog) (db : Database) (xs ys : List Item) → after catalog db (listed_of (xs ++ ys)) ≡ after catalog (after catalog db (listed_of xs)) (listed_of ys)
after-append catalog db xs ys = ap (after catalog db) (listed_of-append xs ys) ∙ (goes_on catalog db (listed_of xs) (listed_of ys)).ends

-- the database of a list that goes on from what a token knew is that of the token's list, and then of the rest
pub after_rest : (catalog : Catalog) (parts : ℕ) (db : Database) (list : List Item) (k : Known) (b : Continues catalog parts list k)
    → after catalog db (listed_of list) ≡ after catalog (known_database catalog db k) (listed_of b.rest)
after_rest catalog parts db list k b = ap (λ (l : List Item). after catalog db (listed_of l)) b.is ∙ after-append catalog db k.list b.rest

-- ---- parts

pub untouched : (catalog : Catalog) (parts p : ℕ) (rest : List Item) → ((i : Item) → In i rest → concerns catalog parts i.listed.entry (Part p) ≡ false) → Untouched catalog parts (listed_of rest) p
untouched catalog parts p [] quiet = tt
untouched catalog parts p (x ∷ xs) quiet = (quiet x (inl refl), untouched catalog parts p xs (λ i j. quiet i (inr j)))

module _ (catalog : Catalog) (accepted : Accepted catalog) (parts : ℕ) (some : 1 ≤ parts) where
  -- behind a beginning of the list, a mark's own part is as it left it
  pub own_part : (db : Database) (list : List Item) (ks : List Known) → AllContinue catalog parts list ks → AgreesWith catalog parts db ks (after catalog db (listed_of list))
  own_part db list ks all p k i is =
      let b = all k i in
      ap (part catalog parts p) (after_rest catalog parts db list k b)
      ∙ (list_is_local catalog accepted parts some (known_database catalog db k) (listed_of b.rest)).leaves p
      (untouched catalog parts p b.rest (subst (λ (r : Role). (j : Item) → In j b.rest → concerns catalog parts j.listed.entry r ≡ false) is b.quiet))

-- ---- batches

-- batches that are there stay where they are
same_front : (catalog : Catalog) (d : Database) (list : List Listed) (r : ℕ) (ss : List ℕ) → AllByRecursion (λ s. r < length (stream_batches d s)) ss
    → AllByRecursion (λ s. slice_get (stream_batches (after catalog d list) s) r ≡ slice_get (stream_batches d s) r) ss
same_front catalog d list r [] all = tt
same_front catalog d list r (s ∷ ss) all =
    let (batch, is) = some_at (stream_batches d s) r all.0 in
    ((stream_grows catalog d list s).stays r batch is ∙ sym is, same_front catalog d list r ss all.1)

-- the batches that a step takes are those of the mark that knows them
pub known_inputs : (catalog : Catalog) (parts : ℕ) (db : Database) (list : List Item) (ks : List Known) (e : Entry) (source : Database) → AllContinue catalog parts list ks
    → IsKnownTo catalog db ks e source → HasInputs catalog e source → SameInputs catalog e (after catalog db (listed_of list)) source
known_inputs catalog parts db list ks (Call client index q args) source all known has = tt
known_inputs catalog parts db list ks (Push client index s name seq rows) source all known has = tt
known_inputs catalog parts db list ks (Install client index q text) source all known has = tt
known_inputs catalog parts db list ks (StepEntry q r) source all known has = λ p is.
    let (k, i, same) = known in
    let b = all k i in
    let whole : after catalog db (listed_of list) ≡ after catalog source (listed_of b.rest) = after_rest catalog parts db list k b ∙ ap (λ (d : Database). after catalog d (listed_of b.rest)) (sym same) in
    subst (λ (d : Database). AllByRecursion (λ s. slice_get (stream_batches d s) r ≡ slice_get (stream_batches source s) r) p.inputs) (sym whole)
    (same_front catalog source (listed_of b.rest) r p.inputs (has p is))

-- ---- the list with one entry more

pub right_after : (catalog : Catalog) (accepted : Accepted catalog) (parts : ℕ) (some : 1 ≤ parts) (db : Database) (list : List Item) (ks : List Known) (l : Listed) (emitted : List Emitted)
    → AllContinue catalog parts list ks → IsRight catalog parts db ks l emitted → Gives catalog (after catalog db (listed_of list)) l emitted
right_after catalog accepted parts some db list ks l emitted all right =
    right.gives (after catalog db (listed_of list)) (own_part catalog accepted parts some db list ks all) (known_inputs catalog parts db list ks l.entry right.source all right.known right.inputs)

clients_more : (clients : ℕ) (list : List Listed) (l : Listed) → HaveClientsBelow clients list → HasClientBelow clients l.entry → HaveClientsBelow clients (list ++ l ∷ [])
clients_more clients [] l all one = (one, tt)
clients_more clients (x ∷ xs) l all one = (all.0, clients_more clients xs l all.1 one)

pub legal_more : (catalog : Catalog) (parts clients limit : ℕ) (db : Database) (list : List Item) (ks : List Known) (l : Listed) (emitted : List Emitted) → IsLegal catalog parts clients limit db list
    → Gives catalog (after catalog db (listed_of list)) l emitted → Covers catalog parts (roles_of ks) l.entry → HasClientBelow clients l.entry → length list < limit
    → IsLegal catalog parts clients limit db (added list (roles_of ks) l)
legal_more catalog parts clients limit db list ks l emitted legal gives covers client low = record {
  replays = subst (Replays catalog db) (sym (listed_of-append list (item l (roles_of ks ++ Log ∷ []) ∷ [])))
      ((goes_on catalog db (listed_of list) (l ∷ [])).joins legal.replays (ap (λ (o : Option Applied). option_map (λ (a : Applied). a.outcome) o) gives.1 ∙ ap (λ (x : Outcome). Some x) gives.2, tt));
  recorded = λ i role j t. ⊎_elim (λ (a : In i list). legal.recorded i role a t)
      (λ (b : (i ≡ item l (roles_of ks ++ Log ∷ [])) ⊎ ⊥). ⊎_elim
      (λ (is : i ≡ item l (roles_of ks ++ Log ∷ [])). subst (λ (x : Item). In role x.roles) (sym is) (in_left role (roles_of ks) (Log ∷ []) (covers role (subst (λ (x : Item). concerns catalog parts x.listed.entry role ≡ true) is t))))
      (λ z. absurd z) b)
      (in_either i list (item l (roles_of ks ++ Log ∷ []) ∷ []) j);
  of_clients = subst (HaveClientsBelow clients) (sym (listed_of-append list (item l (roles_of ks ++ Log ∷ []) ∷ []))) (clients_more clients (listed_of list) l legal.of_clients client);
  within = (let more = length-append list (item l (roles_of ks ++ Log ∷ []) ∷ []) in omega arith);
}

pub after_more : (catalog : Catalog) (db : Database) (list : List Item) (roles : List Role) (l : Listed) (a : Applied) → apply catalog (after catalog db (listed_of list)) l.entry ≡ Some a
    → after catalog db (listed_of (added list roles l)) ≡ a.db
after_more catalog db list roles l a is =
    after-append catalog db list (item l (roles ++ Log ∷ []) ∷ [])
    ∙ ap (λ (o : Option Applied). unwrap_or (option_map (λ (x : Applied). x.db) o) (after catalog db (listed_of list))) is
