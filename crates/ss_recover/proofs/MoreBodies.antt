-- A catalogue that has more bodies to be installed.
use Rattle.std.proofs.Common.{◌≡◌, ◌∙◌, ◌⊎◌, ◌+◌, ◌<◌, ◌≤◌, ℕ, zero, suc, Bool, true, false, cond, List, [], ◌∷◌, ◌++◌, length, take, get_or, refl, sym, ap, subst, inl, inr, append_assoc, append-nil}
use Rattle.std.specs.List.{AllByRecursion}
use Rattle.std.proofs.lemmas.List.{take_all, take_more}
use Rattle.ss_model.specs.declared.catalog.Body.{Body}
use Rattle.ss_model.specs.declared.catalog.Catalog.{Catalog}
use Rattle.ss_model.specs.Accepted.{Accepted}
use Rattle.ss_model.specs.Database.{has_body, spare_bodies}
use Rattle.ss_catalog.specs.Bodies.{with_added, with_spare}
use Rattle.ss_snapshot.specs.Bodies.{GrowsTo, HasNoBody}
use Rattle.ss_snapshot.specs.Own.{IsReadFromItsText}
use Rattle.ss_snapshot.proofs.BodiesRead.{grown_on, still}
use Rattle.ss_model.specs.declared.entry.Entry.{Entry}
use Rattle.ss_model.specs.declared.entry.Entry.TheVariants.{Call, Push, Step, Install}
use Rattle.ss_recover.specs.Loading.{AreBodies, AreNamed, HasMore, IsNamed}

pub more_still : (c : Catalog) → IsReadFromItsText c → Accepted c → HasMore c c
more_still c own accepted = record { grows = still c own accepted; behind = λ q. ([], sym (append-nil (spare_bodies c q))) }

at_added : (xs : List (List Body)) (n q : ℕ) (b : Body) → (more : List Body) × (get_or (with_spare xs n b) q [] ≡ get_or xs q [] ++ more)
at_added [] zero zero b = (b ∷ [], refl)
at_added [] zero (suc q) b = ([], refl)
at_added [] (suc n) zero b = ([], refl)
at_added [] (suc n) (suc q) b = at_added [] n q b
at_added (x ∷ xs) zero zero b = (b ∷ [], refl)
at_added (x ∷ xs) zero (suc q) b = ([], sym (append-nil (get_or xs q [])))
at_added (x ∷ xs) (suc n) zero b = ([], sym (append-nil x))
at_added (x ∷ xs) (suc n) (suc q) b = at_added xs n q b

pub more_added : (old new : Catalog) (n : ℕ) (b : Body) → GrowsTo old new → new ≡ with_added old n b → HasMore old new
more_added old new n b grows is = record {
  grows = grows;
  behind = λ q. subst (λ (c : Catalog). (more : List Body) × (spare_bodies c q ≡ spare_bodies old q ++ more)) (sym is) (by q (has_body old n b.text));
}
  where
    by : (q : ℕ) (t : Bool) → (more : List Body) × (spare_bodies (cond t old (record old { spares = with_spare old.spares n b })) q ≡ spare_bodies old q ++ more)
    by q true = ([], sym (append-nil (spare_bodies old q)))
    by q false = at_added old.spares n q b

pub more_on : (a b c : Catalog) → HasMore a b → HasMore b c → HasMore a c
more_on a b c g h = record {
  grows = grown_on a b c g.grows h.grows;
  behind = λ q. (let (xs, first) = g.behind q in let (ys, then') = h.behind q in (xs ++ ys, then' ∙ ap (λ (l : List Body). l ++ ys) first ∙ append_assoc (spare_bodies a q) xs ys));
}

-- what is named stays so
named_still : (old new : Catalog) → HasMore old new → (e : Entry) → IsNamed old e → IsNamed new e
named_still old new more (Call client index procedure args) h = tt
named_still old new more (Push client index stream source seq rows) h = tt
named_still old new more (Step procedure batch) h = tt
named_still old new more (Install client index procedure text) (inl has) = inl (more.grows.has procedure text has)
named_still old new more (Install client index procedure text) (inr none) = inr (λ other own same. none other own (same ∙ ap (λ (c : Catalog). c.text) more.grows.same))

pub are_named_still : (old new : Catalog) → HasMore old new → (es : List Entry) → AreNamed old es → AreNamed new es
are_named_still old new more [] h = tt
are_named_still old new more (e ∷ es) h = (named_still old new more e h.0, are_named_still old new more es h.1)

-- bodies that are the catalogue's stay so
pub are_bodies_still : (old new : Catalog) (q : ℕ) → HasMore old new → (bs : List Body) → AreBodies old q bs → AreBodies new q bs
are_bodies_still old new q more [] h = tt
are_bodies_still old new q more (b ∷ bs) h = (by h.0, are_bodies_still old new q more bs h.1)
  where
    by : (has_body old q b.text ≡ true) ⊎ HasNoBody old q b.text → (has_body new q b.text ≡ true) ⊎ HasNoBody new q b.text
    by (inl has) = inl (more.grows.has q b.text has)
    by (inr none) = inr (λ other own same. none other own (same ∙ ap (λ (c : Catalog). c.text) more.grows.same))

-- ---- one item more

all_push : {A : Type 0} (P : A → Type 0) (xs : List A) (x : A) → AllByRecursion P xs → P x → AllByRecursion P (xs ++ x ∷ [])
all_push P [] x all one = (one, tt)
all_push P (y ∷ ys) x all one = (all.0, all_push P ys x all.1 one)

pub all_next : {A : Type 0} (P : A → Type 0) (xs : List A) (i : ℕ) (x : A) → i < length xs → x ≡ get_or xs i x → AllByRecursion P (take i xs) → P x → AllByRecursion P (take (i + 1) xs)
all_next {A = A} P xs i x within is all one =
    let more : take (i + 1) xs ≡ take i xs ++ x ∷ [] = rw (take_more xs i x within) (ap (λ (y : A). take i xs ++ y ∷ []) (sym is)) in
    rw more (all_push P (take i xs) x all one)

pub all_done : {A : Type 0} (P : A → Type 0) (xs : List A) (i : ℕ) → length xs ≤ i → AllByRecursion P (take i xs) → AllByRecursion P xs
all_done P xs i h all = subst (AllByRecursion P) (take_all i xs h) all

-- a catalogue that is another has what this has
pub same_more : (a b : Catalog) → IsReadFromItsText a → Accepted a → b ≡ a → HasMore a b
same_more a b own accepted is = subst (HasMore a) (sym is) (more_still a own accepted)
