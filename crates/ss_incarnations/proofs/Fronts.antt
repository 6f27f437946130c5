-- Fronts of lists, and what incarnations leave at their moments.
use Rattle.std.proofs.Common.{◌≡◌, ◌⊎◌, inl, inr, ⊎_elim, ℕ, ◌+◌, ◌<◌, ◌≤◌, List, [], ◌∷◌, ◌++◌, length, take, sym, ap, subst, ◌∙◌, arith, length-append}
use Rattle.std.proofs.lemmas.Bool.{cases_lt}
use Rattle.std.proofs.Math.Seq.{take-append-add}
use Rattle.ss_model.specs.declared.catalog.Catalog.{Catalog}
use Rattle.ss_model.specs.declared.entry.Listed.{Listed}
use Rattle.ss_model.specs.Database.{Database}
use Rattle.ss_model.specs.Recovery.{Strong}
use Rattle.ss_model.specs.Replays.{ReplaysGoOn, after}
use Rattle.ss_model.specs.Settling.{KeptCarries, kept}
use Rattle.ss_disk.specs.Files.{Files}
use Rattle.ss_standing.specs.Standing.{Prefix, Stands, StandsForAtLeast, StandsForFront}
use Rattle.ss_headline.specs.Between.{AreOneList}
use Rattle.ss_headline.proofs.CallerLemmas.{front_carried}
use Rattle.ss_incarnations.specs.Incarnations.{Incarnation, Between, EachGoesOn, LeaveFronts}

-- ---- fronts

-- a front that ends at a place at least ends at each earlier one at least
pub front_before : (catalog : Catalog) (db : Database) (first : ℕ) (list : List Listed) (least later : ℕ) (image : Files) → least ≤ later → StandsForFront catalog db first list later image → StandsForFront catalog db first list least image
front_before catalog db first list least later image le f = record { some = f.some; within = f.within; enough = omega (arith, le, f.enough); stands = f.stands }

-- a front stands for so many executions
pub front_at_least : (catalog : Catalog) (db : Database) (first : ℕ) (list : List Listed) (least : ℕ) (image : Files) → StandsForFront catalog db first list least image → StandsForAtLeast catalog least image
front_at_least catalog db first list least image f =
    record { count = first + f.some; k = kept catalog (after catalog db (take f.some list)); stands = f.stands; enough = f.enough }

-- a front of the second list is one of both, which ends where it does
pub behind_front : ReplaysGoOn → KeptCarries → (catalog : Catalog) (a b : Database) (m n : ℕ) (one two : List Listed) (least : ℕ) (image : Files) → AreOneList catalog a b m n one two
    → StandsForFront catalog b n two least image → StandsForFront catalog a m (one ++ two) least image
behind_front goes_on carries catalog a b m n one two least image lists p =
    let f = front_carried carries catalog b (after catalog a one) lists.same Strong n two least image p in
    let whole : take (length one + f.some) (one ++ two) ≡ one ++ take f.some two = take-append-add one two f.some in
    let ends : after catalog (after catalog a one) (take f.some two) ≡ after catalog a (take (length one + f.some) (one ++ two)) = sym (goes_on catalog a one (take f.some two)).ends ∙ ap (after catalog a) (sym whole) in
    let place : n + f.some ≡ m + (length one + f.some) = omega (arith, lists.place) in record {
      some = length one + f.some;
      within = omega (arith, f.within, length-append one two);
      enough = omega (arith, f.enough, lists.place);
      stands = subst (λ (at : ℕ). Stands catalog image at (kept catalog (after catalog a (take (length one + f.some) (one ++ two))))) place
          (subst (λ (d : Database). Stands catalog image (n + f.some) (kept catalog d)) ends f.stands);
    }

-- ---- moments

-- what is left at earlier moments is left there still
fronts_stay : (catalog : Catalog) (db : Database) (first : ℕ) (before : Files → Type 0) (past now : ℕ → Files → Type 0) (last till : ℕ) (incarnations : List Incarnation)
    → ((t : ℕ) (image : Files) → t ≤ last → now t image → past t image) → till ≤ last → LeaveFronts catalog db first before past till incarnations
    → LeaveFronts catalog db first before now till incarnations
fronts_stay catalog db first before past now last till [] same le fronts = tt
fronts_stay catalog db first before past now last till (i ∷ []) same le fronts =
    (fronts.0, λ t image from to left. fronts.1 t image from to (same t image (omega (arith, to, le)) left))
fronts_stay catalog db first before past now last till (i ∷ j ∷ earlier) same le fronts = (
  fronts.0,
  (λ t image from to left. fronts.1 t image from to (same t image (omega (arith, to, le)) left)),
  fronts_stay catalog db first before past now last i.moment (j ∷ earlier) same (let begun = fronts.0 in omega (arith, begun, le)) fronts.2,
)

-- the last incarnation goes on up to a later moment, where a crash leaves fronts of its list with all that it has receipts of
pub last_goes_on : (catalog : Catalog) (db : Database) (first : ℕ) (before : Files → Type 0) (past now : ℕ → Files → Type 0) (mid till : ℕ) (last : Incarnation) (earlier : List Incarnation)
    → Between now mid till (StandsForFront catalog db first last.list last.receipted) → ((t : ℕ) (image : Files) → t ≤ mid → now t image → past t image) → mid ≤ till → first ≤ last.receipted
    → EachGoesOn first (last ∷ earlier) → LeaveFronts catalog db first before past mid (last ∷ earlier) → LeaveFronts catalog db first before now till (last ∷ earlier)
last_goes_on catalog db first before past now mid till last [] further same later from each fronts = (
  (let begun = fronts.0 in omega (arith, begun, later)),
  λ t image since to left. ⊎_elim
      (λ (behind : mid < t). inr (front_before catalog db first last.list first last.receipted image from (further t image (omega (arith, behind)) to left)))
      (λ (le : t ≤ mid). fronts.1 t image since le (same t image le left))
      (cases_lt mid t),
)
last_goes_on catalog db first before past now mid till last (j ∷ earlier) further same later from each fronts = (
  (let begun = fronts.0 in omega (arith, begun, later)),
  (λ t image since to left. ⊎_elim
      (λ (behind : mid < t). front_before catalog db first last.list j.receipted last.receipted image (omega (arith, each.0.receipted, each.0.found)) (further t image (omega (arith, behind)) to left))
      (λ (le : t ≤ mid). fronts.1 t image since le (same t image le left))
      (cases_lt mid t)),
  fronts_stay catalog db first before past now mid last.moment (j ∷ earlier) same fronts.0 fronts.2,
)

-- from each database of which the same is kept they leave the same fronts
pub fronts_carried : KeptCarries → (catalog : Catalog) (x y : Database) → kept catalog x ≡ kept catalog y → (first : ℕ) (before : Files → Type 0) (images : ℕ → Files → Type 0) (till : ℕ)
    (incarnations : List Incarnation) → LeaveFronts catalog x first before images till incarnations → LeaveFronts catalog y first before images till incarnations
fronts_carried carries catalog x y same first before images till [] fronts = tt
fronts_carried carries catalog x y same first before images till (i ∷ []) fronts = (fronts.0, λ t image from to left. either image (fronts.1 t image from to left))
  where
    either : (image : Files) → before image ⊎ Prefix catalog x first i.list image → before image ⊎ Prefix catalog y first i.list image
    either image (inl was) = inl was
    either image (inr anew) = inr (front_carried carries catalog x y same Strong first i.list first image anew)
fronts_carried carries catalog x y same first before images till (i ∷ j ∷ earlier) fronts = (
  fronts.0,
  (λ t image from to left. front_carried carries catalog x y same Strong first i.list j.receipted image (fronts.1 t image from to left)),
  fronts_carried carries catalog x y same first before images i.moment (j ∷ earlier) fronts.2,
)
