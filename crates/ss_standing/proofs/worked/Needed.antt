-- That an image tells what is kept needs its premises: databases of which other things are kept may have the same image.
use Rattle.std.proofs.Common.{◌≡◌, ◌∙◌, ℕ, ◌^◌, ℤ, pos, nat_abs, codes, true, List, [], ◌∷◌, ◌<◌, All, length, get_or, refl, sym, ap, subst, arith, Option, Some, None, unwrap_or}
use Rattle.std.specs.Option.{option_map}
use Rattle.std.specs.Ordering.{nat_cmp}
use Rattle.std.specs.Cmp.Lexicographic.{slice_cmp, nat_list_cmp_total}
use Rattle.std.specs.FinMap as finmap
use Rattle.std.specs.FinMap.{get-empty, get-insert, entries-insert, len-entries}
use Rattle.std.specs.FinMap.Entries.{put}
use Rattle.std.proofs.lemmas.List.Elements.{All-from_recursion}
use Rattle.ss_value.specs.Words.{is_name}
use Rattle.ss_value.specs.declared.value.Value.{Value}
use Rattle.ss_value.specs.declared.value.Value.TheVariants.{Int, Text}
use Rattle.ss_value.specs.Rows.{Rows, column_value}
use Rattle.ss_model.specs.declared.catalog.Catalog.{Catalog}
use Rattle.ss_model.specs.declared.entry.Entry.{Entry}
use Rattle.ss_model.specs.declared.entry.Entry.TheVariants.{Push}
use Rattle.ss_model.specs.declared.entry.Outcome.TheVariants.{Done}
use Rattle.ss_model.specs.declared.entry.Listed.{Listed}
use Rattle.ss_model.specs.Database.{Database, NextNumbers, empty_database, apply}
use Rattle.ss_model.specs.Settling.{Kept, kept}
use Rattle.ss_model.specs.WholeDatabase.{WholeDatabase}
use Rattle.ss_model_laws.proofs.CallerLemmas.{accepted, workflow, empty_whole, whole_after}
use Rattle.ss_record.specs.Numbers.{number_bytes}
use Rattle.ss_standing.specs.Image.{image_bytes}
use Rattle.ss_standing.specs.FitsImage.{FitNumbers, FitsImage}
use Rattle.ss_standing.specs.Laws.{TellsKept}
use Rattle.ss_standing.proofs.EmptyKept.{no_entries}
use Rattle.ss_standing.proofs.ImageTells.{no_numbers_fit}
use Rattle.ss_standing.proofs.Fronts.{empty_fits}
use Rattle.ss_standing.proofs.worked.Premises.{own_fit}

abbrev pub start : Database
start = empty_database workflow

-- ---- that an image has room for it: 2^64 and 0 have one spelling

abbrev pub rows : ℤ → Rows
rows n = (Int n ∷ []) ∷ []

abbrev pub push : ℤ → Entry
push n = Push 0 0 0 (codes "a") 0 (rows n)

-- the database with a batch that is still to be taken
abbrev pub pushed : ℤ → Database
pushed n = record start { streams = (rows n ∷ []) ∷ [] ∷ [] ∷ [] ∷ [] ∷ []; next_numbers = finmap.insert finmap.empty (codes "a") 1 ∷ finmap.empty ∷ finmap.empty ∷ finmap.empty ∷ finmap.empty ∷ [] }

pub pushes : (n : ℤ) → apply workflow start (push n) ≡ Some (record { db = pushed n; outcome = Done []; emitted = [] })
unfolding apply
pushes n = rw (get-empty (slice_cmp nat_cmp) (codes "a")) refl

abbrev pub listed : ℤ → List Listed
listed n = record { entry = push n; outcome = Done [] } ∷ []

pub pushed_whole : (n : ℤ) → WholeDatabase workflow (pushed n)
pushed_whole n =
    subst (WholeDatabase workflow) (ap (λ o. unwrap_or (option_map (λ a. a.db) o) start) (pushes n)) (whole_after workflow accepted start (listed n) (empty_whole workflow accepted))

same_bytes : image_bytes true workflow (kept workflow (pushed (pos 0))) ≡ image_bytes true workflow (kept workflow (pushed (pos (2 ^ 64))))
unfolding image_bytes kept number_bytes
same_bytes = refl

number_of : Value → ℕ
number_of (Int n) = nat_abs n
number_of (Text t) = 0

-- the number in the first kept batch of the first stream
first_number : Kept → ℕ
first_number k = number_of (column_value (get_or (get_or (get_or k.streams 0 (0, (0, []))).1.1 0 []) 0 []) 0)

other_kept : kept workflow (pushed (pos 0)) ≡ kept workflow (pushed (pos (2 ^ 64))) → ⊥
unfolding kept first_number number_of
other_kept e = let same : 0 ≡ 2 ^ 64 = ap first_number e in omega (arith, same)

fits_needed : ((catalog : Catalog) (a b : Database) → WholeDatabase catalog a → WholeDatabase catalog b → TellsKept true catalog a b) → ⊥
fits_needed law = other_kept (law workflow (pushed (pos 0)) (pushed (pos (2 ^ 64))) (pushed_whole (pos 0)) (pushed_whole (pos (2 ^ 64))) same_bytes)

-- ---- that a database is whole: of a stream that is no border stream, no next number is spelled

abbrev pub one_number : NextNumbers
one_number = finmap.insert finmap.empty (codes "a") 1

abbrev odd : Database
odd = record start { next_numbers = finmap.empty ∷ one_number ∷ finmap.empty ∷ finmap.empty ∷ finmap.empty ∷ [] }

pub one_entry : finmap.entries one_number ≡ (codes "a", 1) ∷ []
one_entry = entries-insert nat_list_cmp_total finmap.empty (codes "a") 1 ∙ ap (put (slice_cmp nat_cmp) (codes "a") 1) (no_entries (slice_cmp nat_cmp))

pub one_number_fits : FitNumbers one_number
one_number_fits = (
  omega (arith, len-entries one_number, ap length one_entry),
  subst (All (λ (next : List ℕ × ℕ). next.1 < 2 ^ 64)) (sym one_entry) (All-from_recursion (λ (next : List ℕ × ℕ). next.1 < 2 ^ 64) ((codes "a", 1) ∷ []) (omega arith, tt)),
  subst (All (λ (next : List ℕ × ℕ). is_name next.0 ≡ true)) (sym one_entry) (All-from_recursion (λ (next : List ℕ × ℕ). is_name next.0 ≡ true) ((codes "a", 1) ∷ []) (refl, tt)),
)

odd_fits : FitsImage true workflow (kept workflow odd)
unfolding kept
odd_fits =
    let fits = empty_fits true workflow own_fit in record {
      tables = fits.tables;
      windows = fits.windows;
      streams = fits.streams;
      counts = fits.counts;
      next_numbers = All-from_recursion FitNumbers (kept workflow odd).next_numbers (no_numbers_fit, (one_number_fits, (no_numbers_fit, (no_numbers_fit, (no_numbers_fit, tt)))));
      texts = fits.texts;
    }

odd_bytes : image_bytes true workflow (kept workflow start) ≡ image_bytes true workflow (kept workflow odd)
unfolding image_bytes kept
odd_bytes = refl

none_is_not_one : ◌≡◌ {A = Option ℕ} None (Some 1) → ⊥
none_is_not_one e = cc

-- the next number that is kept of the second stream
second_number : Kept → Option ℕ
second_number k = finmap.get (get_or k.next_numbers 1 finmap.empty) (codes "a")

no_number : second_number (kept workflow start) ≡ None
unfolding kept second_number
no_number = get-empty (slice_cmp nat_cmp) (codes "a")

its_number : second_number (kept workflow odd) ≡ Some 1
unfolding kept second_number
its_number = get-insert nat_list_cmp_total finmap.empty (codes "a") 1 (codes "a")

odd_kept : kept workflow start ≡ kept workflow odd → ⊥
odd_kept e = none_is_not_one (sym no_number ∙ ap second_number e ∙ its_number)

wholeness_needed : ((catalog : Catalog) (a b : Database) → FitsImage true catalog (kept catalog a) → FitsImage true catalog (kept catalog b) → TellsKept true catalog a b) → ⊥
wholeness_needed law = odd_kept (law workflow start odd (empty_fits true workflow own_fit) odd_fits odd_bytes)
