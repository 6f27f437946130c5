-- An image of a disk stands for one thing.
use Rattle.std.proofs.Common.{◌≡◌, ◌∙◌, inl, inr, ℕ, ◌+◌, ◌^◌, ◌<◌, List, [], ◌∷◌, length, take, refl, sym, ap, subst, arith}
use Rattle.ss_lemmas.proofs.Bools.{some_same}
use Rattle.ss_model.specs.declared.catalog.Catalog.{Catalog}
use Rattle.ss_model.specs.declared.entry.Entry.{Entry}
use Rattle.ss_model.specs.declared.entry.Listed.{Listed}
use Rattle.ss_model.specs.Database.{Database}
use Rattle.ss_model.specs.Replays.{Replays, after, entry_outcome, database_after}
use Rattle.ss_model.specs.Settling.{Kept, kept, KeptCarries}
use Rattle.ss_disk.specs.Files.{Files}
use Rattle.ss_cmdlog.specs.Generation.{Stood}
use Rattle.ss_cmdlog.specs.Store.{IsEmpty, StandsFor}
use Rattle.ss_standing.specs.Image.{kept_bytes, BeginsWithText}
use Rattle.ss_standing.specs.Standing.{listed_entries, Replayed, StandsForReplayed, Stands, StandsForFront, Prefix, StandsForAtLeast}
use Rattle.ss_standing.specs.Laws.{StandsForOne, StandsForOneText, EntriesTellList}
use Rattle.ss_standing.proofs.EmptyKept.{image_begins}
use Rattle.ss_standing.proofs.Spelled.{one_text}
use Rattle.ss_standing.proofs.ImageTells.{image_tells}

-- ---- lists

first_and_rest : (e f : Entry) (es fs : List Entry) → e ∷ es ≡ f ∷ fs → (e ≡ f) × (es ≡ fs)
first_and_rest e f es fs is = let first : e ≡ f = cc in let rest : es ≡ fs = cc in (first, rest)

-- on one database a list that replays is told by its entries
pub entries_tell : EntriesTellList
entries_tell catalog db [] [] replays others e = refl
entries_tell catalog db [] (m ∷ ms) replays others e = cc
entries_tell catalog db (l ∷ ls) [] replays others e = cc
entries_tell catalog db (l ∷ ls) (m ∷ ms) replays others e =
    let parts = first_and_rest l.entry m.entry (listed_entries ls) (listed_entries ms) e in
    let outcome = some_same l.outcome m.outcome (sym replays.0 ∙ ap (entry_outcome catalog db) parts.0 ∙ others.0) in
    let rest = entries_tell catalog (database_after catalog db m.entry) ls ms (subst (λ (f : Entry). Replays catalog (database_after catalog db f) ls) parts.0 replays.1) others.1 parts.1 in
    λ k. record { entry = parts.0 k; outcome = outcome k } ∷ rest k

-- ---- one thing

-- a store isn't empty
pub not_both : (image : Files) (s : Stood) → IsEmpty image → StandsFor image s → ⊥
not_both image s empty stands = let none : [] ≡ stands.byte ∷ [] = sym empty ∙ stands.selector in cc

module _ (carries : KeptCarries) (catalog : Catalog) where
  -- of one generation
  replayed_one : (s : Stood) (m n : ℕ) (j k : Kept) → Replayed catalog s m j → Replayed catalog s n k → (m ≡ n) × (j ≡ k)
  replayed_one s m n j k one other =
      let opened = image_tells s.bodies catalog one.opening other.opening one.image.whole other.image.whole one.image.fits other.image.fits (sym one.image.spelled ∙ other.image.spelled) in
      let carried = carries catalog one.opening other.opening opened one.list in
      let lists = entries_tell catalog other.opening one.list other.list (carried.replays one.replays) other.replays (one.entries ∙ sym other.entries) in (
        one.count_is ∙ ap (λ (l : List Listed). s.first + length l) lists ∙ sym other.count_is,
        one.kept_is ∙ carried.after ∙ ap (λ (l : List Listed). kept catalog (after catalog other.opening l)) lists ∙ sym other.kept_is,
      )

  pub one_thing : ((disk : Files) (s t : Stood) → StandsFor disk s → StandsFor disk t → s ≡ t) → (image : Files) (m n : ℕ) (j k : Kept) → Stands catalog image m j → Stands catalog image n k → (m ≡ n) × (j ≡ k)
  one_thing files image m n j k (inl one) (inl other) = (one.none ∙ sym other.none, one.nothing ∙ sym other.nothing)
  one_thing files image m n j k (inl one) (inr other) = absurd (not_both image other.stood one.empty other.stands)
  one_thing files image m n j k (inr one) (inl other) = absurd (not_both image one.stood other.empty one.stands)
  one_thing files image m n j k (inr one) (inr other) =
      let same = files image one.stood other.stood one.stands other.stands in
      replayed_one other.stood m n j k (subst (λ (s : Stood). Replayed catalog s m j) same one.replayed) other.replayed

-- ---- one text

begins : (catalog : Catalog) (image : Files) (count : ℕ) (k : Kept) → length catalog.text < 2 ^ 32 → (r : StandsForReplayed catalog image count k) → BeginsWithText r.stood.image catalog.text
begins catalog image count k short r = record {
  short = short;
  behind = kept_bytes r.stood.bodies catalog (kept catalog r.replayed.opening);
  spelled = r.replayed.image.spelled ∙ image_begins r.stood.bodies catalog (kept catalog r.replayed.opening);
}

pub stands_for_one_text : ((disk : Files) (s t : Stood) → StandsFor disk s → StandsFor disk t → s ≡ t) → StandsForOneText
stands_for_one_text files a b image m n j k short other one two =
    let same : one.stood.image ≡ two.stood.image = ap (λ (s : Stood). s.image) (files image one.stood two.stood one.stands two.stands) in
    one_text two.stood.image a.text b.text (subst (λ (bytes : List ℕ). BeginsWithText bytes a.text) same (begins a image m j short one)) (begins b image n k other two)

-- ---- receipts

-- a prefix that stands for so many executions at least
pub receipted_front : StandsForOne → (catalog : Catalog) (db : Database) (first : ℕ) (list : List Listed) (n : ℕ) (image : Files) → Prefix catalog db first list image → StandsForAtLeast catalog n image
    → StandsForFront catalog db first list n image
receipted_front one catalog db first list n image p r =
    let same = one catalog image r.count (first + p.some) r.k (kept catalog (after catalog db (take p.some list))) r.stands p.stands in
    record { some = p.some; within = p.within; enough = omega (arith, r.enough, same.0); stands = p.stands }
