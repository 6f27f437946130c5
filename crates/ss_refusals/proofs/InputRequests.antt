-- Requests one after another, as their lines are read.
use Rattle.std.proofs.Common.{◌≡◌, ◌==◌, ℕ, zero, suc, ◌+◌, ◌<◌, List, [], ◌∷◌, ◌++◌, true, refl, sym, ap, length, take, drop, get_or, arith}
use Rattle.std.proofs.lemmas.Bool.{and_from}
use Rattle.std.proofs.lemmas.List.{take_more}
use Rattle.std.specs.List.{AllByRecursion, list_all, count_by}
use Rattle.ss_lines.specs.declared.line.Line.{Line}
use Rattle.ss_model.specs.declared.catalog.Catalog.{Catalog}
use Rattle.ss_model.specs.declared.entry.Asked.{Asked}
use Rattle.ss_model.specs.declared.entry.Asked.TheVariants.{Call, Push, Install}
use Rattle.ss_model.specs.declared.entry.Request.{Request}
use Rattle.ss_model.specs.Database.{fits_entry}
use Rattle.ss_model.specs.Report.{asked_entries, asked_entry, entries_behind}
use Rattle.ss_refusals.specs.declared.input.InputError.{InputError}
use Rattle.ss_refusals.specs.Starts.{AsksFor, AskInOrder}
use Rattle.ss_refusals.specs.Refused.{RefusesLater, RefusesAmong}

-- ---- lines

-- one line and its request more
AskInOrder-push : (catalog : Catalog) (ls : List Line) (rs : List Request) (l : Line) (r : Request) → AskInOrder catalog ls rs → AsksFor catalog l r → AskInOrder catalog (ls ++ l ∷ []) (rs ++ r ∷ [])
AskInOrder-push catalog [] [] l r all asks = (asks, tt)
AskInOrder-push catalog [] (x ∷ rs) l r all asks = absurd all
AskInOrder-push catalog (k ∷ ls) [] l r all asks = absurd all
AskInOrder-push catalog (k ∷ ls) (x ∷ rs) l r all asks = (all.0, AskInOrder-push catalog ls rs l r all.1 asks)

-- the line at an index is asked for
pub asked_more : (catalog : Catalog) (ls : List Line) (i : ℕ) (rs : List Request) (l : Line) (r : Request) → i < length ls → l ≡ get_or ls i l → AskInOrder catalog (take i ls) rs → AsksFor catalog l r → AskInOrder catalog (take (i + 1) ls) (rs ++ r ∷ [])
asked_more catalog ls i rs l r h is all asks =
    let more : take (i + 1) ls ≡ take i ls ++ l ∷ [] = rw (take_more ls i l h) (ap (λ (x : Line). take i ls ++ x ∷ []) (sym is)) in
    rw more (AskInOrder-push catalog (take i ls) rs l r all asks)

-- a list is what stands before an index, its item, and what stands behind
pub parts_at : {A : Type 0} (xs : List A) (i : ℕ) (x : A) → i < length xs → x ≡ get_or xs i x → xs ≡ take i xs ++ x ∷ drop (suc i) xs
parts_at [] i x h is = absurd (omega arith)
parts_at (y ∷ xs) zero x h is = ap (λ z. z ∷ xs) (sym is)
parts_at (y ∷ xs) (suc i) x h is = ap (λ zs. y ∷ zs) (parts_at xs i x (omega arith) is)

-- the line at an index is the first that is refused
pub refused_among : (catalog : Catalog) (ls : List Line) (i : ℕ) (rs : List Request) (l : Line) (e : InputError) → i < length ls → l ≡ get_or ls i l → AskInOrder catalog (take i ls) rs → RefusesLater catalog l e → RefusesAmong catalog ls e
refused_among catalog ls i rs l e h is fine refused = record { before = take i ls; line = l; behind = drop (suc i) ls; parts = parts_at ls i l h is; requests = rs; fine = fine; refused = refused }

-- ---- what fits

-- each fits as a client's first
abbrev pub EachFits : Catalog → List Request → Type 0
EachFits catalog rs = AllByRecursion (λ (r : Request). fits_entry catalog (asked_entry r.client 0 r.what) ≡ true) rs

-- one that fits more
pub EachFits-push : (catalog : Catalog) (rs : List Request) (r : Request) → EachFits catalog rs → fits_entry catalog (asked_entry r.client 0 r.what) ≡ true → EachFits catalog (rs ++ r ∷ [])
EachFits-push catalog [] r all fits = (fits, tt)
EachFits-push catalog (x ∷ rs) r all fits = (all.0, EachFits-push catalog rs r all.1 fits)

-- what fits as a client's first fits at each place
fits_at : (catalog : Catalog) (client index : ℕ) (what : Asked) → fits_entry catalog (asked_entry client 0 what) ≡ true → fits_entry catalog (asked_entry client index what) ≡ true
fits_at catalog client index (Call n args) fits = fits
fits_at catalog client index (Push s source seq rows) fits = fits
fits_at catalog client index (Install q text) fits = fits

fit_behind : (catalog : Catalog) (earlier rs : List Request) → EachFits catalog rs → list_all (fits_entry catalog) (entries_behind earlier rs) ≡ true
fit_behind catalog earlier [] all = refl
fit_behind catalog earlier (r ∷ rs) all =
    and_from _ _ (fits_at catalog r.client (count_by (λ (x : Request). x.client == r.client) earlier) r.what all.0) (fit_behind catalog (earlier ++ r ∷ []) rs all.1)

-- all fit where each does
pub each_fits : (catalog : Catalog) (rs : List Request) → EachFits catalog rs → list_all (fits_entry catalog) (asked_entries rs) ≡ true
each_fits catalog rs all = fit_behind catalog [] rs all
