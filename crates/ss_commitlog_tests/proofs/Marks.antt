-- Marks that change places, are handed back, or popped one after another.
use Rattle.std.proofs.Common.{◌≡◌, ◌<◌, ◌∙◌, ℕ, List, [], ◌∷◌, ◌++◌, length, refl, sym, ap, arith, Some, Ok, Err, slice_get, slice_set}
use Rattle.std.specs.declared.result.Result.{Result}
use Rattle.ss_lemmas.proofs.Ends.{ends_alike}
use Rattle.ss_model.specs.declared.catalog.Catalog.{Catalog}
use Rattle.ss_model.specs.declared.entry.Listed.{Listed}
use Rattle.ss_commitlog.specs.declared.placed.Unlisted.{Unlisted}
use Rattle.ss_commitlog.specs.declared.placed.Unlisted.TheVariants.{NoMemory, ListFull}
use Rattle.ss_commitlog.specs.declared.role.Role.{Role}
use Rattle.ss_commitlog.specs.declared.role.Role.TheVariants.{Part, Client}
use Rattle.ss_commitlog.specs.declared.rule.Item.{Item}
use Rattle.ss_commitlog.specs.Committing.{Commits}
use Rattle.ss_commitlog.specs.Rule.{numbered}
use Rattle.ss_commitlog.specs.Tokens.{AllKnow, Known, known, at_opening, roles_of}
use Rattle.ss_commitlog_tests.specs.Lives.{pair_of}

-- there are two marks at the opening
pub two_there : (f : ℕ → Role) (first n : ℕ) (tokens : List Known) → n ≡ 2 → tokens ≡ at_opening first (numbered f 0 n []) → (0 < length tokens) × (1 < length tokens)
two_there f first n tokens two is =
    let count : length tokens ≡ 2 = ap length is ∙ (λ i. length (at_opening first (numbered f 0 (two i) []))) in
    (omega (arith, count), omega (arith, count))

-- the second mark of two partitions and the first one of two clients change places
pub by_number : (first m n : ℕ) (parts clients : List Known) (part client : Known) → m ≡ 2 → n ≡ 2 → parts ≡ at_opening first (numbered Part 0 m []) → clients ≡ at_opening first (numbered Client 0 n [])
    → slice_get parts 1 ≡ Some part → slice_get clients 0 ≡ Some client → (slice_set parts 1 client ≡ pair_of 0 first) × (slice_set clients 0 part ≡ pair_of 1 first)
by_number first m n parts clients part client em en p c gp gc =
    let ps : parts ≡ known (Part 0) [] first 0 ∷ known (Part 1) [] first 0 ∷ [] = p ∙ (λ i. at_opening first (numbered Part 0 (em i) [])) in
    let cs : clients ≡ known (Client 0) [] first 0 ∷ known (Client 1) [] first 0 ∷ [] = c ∙ (λ i. at_opening first (numbered Client 0 (en i) [])) in
    let here : Some (known (Part 1) [] first 0) ≡ Some part = sym (ap (λ (l : List Known). slice_get l 1) ps) ∙ gp in
    let there : Some (known (Client 0) [] first 0) ≡ Some client = sym (ap (λ (l : List Known). slice_get l 0) cs) ∙ gc in
    let part_is : part ≡ known (Part 1) [] first 0 = cc in
    let client_is : client ≡ known (Client 0) [] first 0 = cc in (
      ap (λ (l : List Known). slice_set l 1 client) ps ∙ ap (λ (k : Known). known (Part 0) [] first 0 ∷ k ∷ []) client_is,
      ap (λ (l : List Known). slice_set l 0 part) cs ∙ ap (λ (k : Known). k ∷ known (Client 1) [] first 0 ∷ []) part_is,
    )

-- tokens that come back have the roles that they had
pub same_roles : (list : List Item) (ks ls : List Known) → AllKnow list ks ls → roles_of ls ≡ roles_of ks
same_roles list [] [] all = refl
same_roles list [] (l ∷ ls) all = absurd all
same_roles list (k ∷ ks) [] all = absurd all
same_roles list (k ∷ ks) (l ∷ ls) all = λ i. all.0.role i ∷ same_roles list ks ls all.1 i

-- the marks of a commit have the roles that they had, whatever is answered
pub commit_roles : (catalog : Catalog) (parts first limit : ℕ) (ks : List Known) (l : Listed) (ms : List Known) (answer : Result ℕ Unlisted) → Commits catalog parts first limit ks l ms answer → roles_of ms ≡ roles_of ks
commit_roles catalog parts first limit ks l ms (Ok place) c = same_roles _ ks ms c.3
commit_roles catalog parts first limit ks l ms (Err NoMemory) c = ap roles_of c
commit_roles catalog parts first limit ks l ms (Err (ListFull count)) c = same_roles _ ks ms c.3

-- of two tokens the first has the first role
pub first_role : (a b : Role) (tokens l m : List Known) (w x : Known) → roles_of tokens ≡ a ∷ b ∷ [] → tokens ≡ l ++ w ∷ [] → l ≡ m ++ x ∷ [] → x.role ≡ a
first_role a b tokens l m w x roles e1 e2 =
    let r1 = ends_alike (a ∷ []) (roles_of l) b w.role (sym roles ∙ (ap roles_of e1 ∙ map-push l w)) in
    let r2 = ends_alike [] (roles_of m) a x.role (r1.0 ∙ (ap roles_of e2 ∙ map-push m x)) in
    sym r2.1
  where
    map-push : (xs : List Known) (y : Known) → roles_of (xs ++ y ∷ []) ≡ roles_of xs ++ y.role ∷ []
    map-push [] y = refl
    map-push (z ∷ zs) y = ap (λ (l : List Role). z.role ∷ l) (map-push zs y)
