-- A loop that reads an item for each of a list.
use Rattle.std.proofs.Common.{◌≡◌, ◌∙◌, ℕ, zero, suc, ◌+◌, ◌<◌, List, [], ◌∷◌, ◌++◌, drop, get_or, length, map, slice_get, take, Result, Ok, Some, refl, sym, ap, subst, arith}
use Rattle.std.specs.List.{AllByRecursion}
use Rattle.ss_model.specs.declared.catalog.WindowDef.{WindowDef}
use Rattle.ss_standing.specs.ImageForm.{window_of}
use Rattle.ss_standing.specs.Readers.{Reader, each, with_front}
use Rattle.ss_standing.proofs.CallerLemmas.{for_refused, next_for, no_more_for}
use Rattle.ss_undo.specs.Windows.{IsCommittedWindow}
use Rattle.ss_window.specs.WindowValue.{WindowInvariant, WindowValue}
use Rattle.ss_shard.specs.Databases.{WindowIsSound}
use Rattle.ss_shard.specs.Shards.{frame_for, frame_of}
use Rattle.ss_shard.specs.Windows.{kept_part}
use Rattle.ss_snapshot.specs.declared.reading.fields.PartError.{PartError}
use Rattle.ss_snapshot.specs.declared.reading.fields.PartError.TheVariants.{NoMemory, Foreign}
use Rattle.ss_snapshot.specs.Parts.{Refuses}
use Rattle.ss_snapshot.specs.Windows.{AreRestored, IsRestored}
use Rattle.ss_snapshot.proofs.AllTables.{drop_none, front_none, none_behind, split_at}

next_place : (i : ℕ) → i + 1 ≡ suc i
next_place i = omega arith

-- an item by its place
pub item_here : {A : Type 0} (xs : List A) (i : ℕ) (x : A) → i < length xs → x ≡ get_or xs i x → slice_get xs i ≡ Some x
item_here [] i x within is = absurd (omega (arith, within))
item_here (y ∷ ys) zero x within is = (λ k. Some (sym is k))
item_here (y ∷ ys) (suc i) x within is = item_here ys i x (omega (arith, within)) is

module _ {D A : Type 0} (read : D → Reader A) where
  pub each_begins : (ds : List D) (bytes : List ℕ) → with_front [] (each read (drop 0 ds) bytes) ≡ each read ds bytes
  each_begins ds bytes = ap (λ (ds : List D). with_front [] (each read ds bytes)) (drop_none ds) ∙ front_none (each read ds bytes)

  pub each_ends : (front : List A) (ds : List D) (i : ℕ) (bytes : List ℕ) → i ≡ length ds → with_front front (each read (drop i ds) bytes) ≡ Ok (front, bytes)
  each_ends front ds i bytes end = ap (λ (ds : List D). with_front front (each read ds bytes)) (none_behind ds i end) ∙ no_more_for read front bytes

  module _ (front : List A) (ds : List D) (i : ℕ) (d : D) (here : slice_get ds i ≡ Some d) (bytes : List ℕ) (all : Result (List A × List ℕ) ℕ) (so_far : with_front front (each read (drop i ds) bytes) ≡ all) where
    read_on : with_front front (each read (d ∷ drop (suc i) ds) bytes) ≡ all
    read_on = ap (λ (ds : List D). with_front front (each read ds bytes)) (sym (split_at ds i d here)) ∙ so_far

    pub each_goes_on : (x : A) (rest : List ℕ) → read d bytes ≡ Ok (x, rest) → with_front (front ++ x ∷ []) (each read (drop (i + 1) ds) rest) ≡ all
    each_goes_on x rest is =
        ap (λ (n : ℕ). with_front (front ++ x ∷ []) (each read (drop n ds) rest)) (next_place i)
        ∙ sym (next_for read front d (drop (suc i) ds) bytes x rest is) ∙ read_on

    pub each_refused : (e : PartError) → Refuses e (read d bytes) → Refuses e all
    each_refused NoMemory refused = tt
    each_refused (Foreign left) refused = sym read_on ∙ for_refused read front d (drop (suc i) ds) bytes left refused

-- ---- windows

all_more : {A : Type 0} (P : A → Type 0) (xs : List A) (x : A) → AllByRecursion P xs → P x → AllByRecursion P (xs ++ x ∷ [])
all_more P [] x all one = (one, tt)
all_more P (y ∷ xs) x all one = (all.0, all_more P xs x all.1 one)

take_on : {A : Type 0} (xs : List A) (i : ℕ) (x : A) → slice_get xs i ≡ Some x → take (suc i) xs ≡ take i xs ++ x ∷ []
take_on [] i x is = cc
take_on (y ∷ ys) zero x is = (let same : y ≡ x = cc in λ k. same k ∷ none ys k)
  where
    none : {A : Type 0} (ys : List A) → take 0 ys ≡ []
    none [] = refl
    none (y ∷ ys) = refl
take_on (y ∷ ys) (suc i) x is = ap (λ l. y ∷ l) (take_on ys i x is)

take_whole : {A : Type 0} (xs : List A) (n : ℕ) → n ≡ length xs → take n xs ≡ xs
take_whole [] n is = (let none : n ≡ 0 = is in ap (λ (n : ℕ). take n []) none)
take_whole (x ∷ xs) zero is = absurd (omega (arith, is))
take_whole (x ∷ xs) (suc n) is = ap (λ l. x ∷ l) (take_whole xs n (omega (arith, is)))

pub map_more : {A B : Type 0} (f : A → B) (xs : List A) (x : A) → map f (xs ++ x ∷ []) ≡ map f xs ++ f x ∷ []
map_more f [] x = refl
map_more f (y ∷ xs) x = ap (λ l. f y ∷ l) (map_more f xs x)

-- the first windows have been read
pub record AreRead (defs : List WindowDef) (i : ℕ) (windows : List WindowValue) (bytes rest : List ℕ) : Type 0 where
  pub read : with_front (map kept_part windows) (each window_of (drop i defs) rest) ≡ each window_of defs bytes
  pub sound : AllByRecursion WindowIsSound (drop i defs)
  pub restored : AreRestored (take i defs) windows

pub no_windows : (defs : List WindowDef) (bytes : List ℕ) → AllByRecursion WindowIsSound defs → AreRead defs 0 [] bytes bytes
no_windows defs bytes sound = record {
  read = each_begins window_of defs bytes;
  sound = subst (λ (ds : List WindowDef). AllByRecursion WindowIsSound ds) (sym (drop_none defs)) sound;
  restored = subst (λ (ds : List WindowDef). AreRestored ds []) (sym (none defs)) (record { frames = refl; held = tt; committed = tt });
}
  where
    none : (ds : List WindowDef) → take 0 ds ≡ []
    none [] = refl
    none (d ∷ ds) = refl

module _ (defs : List WindowDef) (i : ℕ) (windows : List WindowValue) (bytes rest : List ℕ) (are : AreRead defs i windows bytes rest) where
  pub all_windows : i ≡ length defs → (each window_of defs bytes ≡ Ok (map kept_part windows, rest)) × AreRestored defs windows
  all_windows end = (sym are.read ∙ each_ends window_of (map kept_part windows) defs i rest end, subst (λ (ds : List WindowDef). AreRestored ds windows) (take_whole defs i end) are.restored)

  module _ (d : WindowDef) (here : slice_get defs i ≡ Some d) where
    pub sound_here : WindowIsSound d
    sound_here = (subst (λ (ds : List WindowDef). AllByRecursion WindowIsSound ds) (split_at defs i d here) are.sound).0

    pub window_refused : (e : PartError) → Refuses e (window_of d rest) → Refuses e (each window_of defs bytes)
    window_refused e refused = each_refused window_of (map kept_part windows) defs i d here rest (each window_of defs bytes) are.read e refused

    pub one_window : (h : WindowValue) (behind : List ℕ) → window_of d rest ≡ Ok (kept_part h, behind) → IsRestored d h → AreRead defs (i + 1) (windows ++ h ∷ []) bytes behind
    one_window h behind is restored = record {
      read =
          ap (λ l. with_front l (each window_of (drop (i + 1) defs) behind)) (map_more kept_part windows h)
          ∙ each_goes_on window_of (map kept_part windows) defs i d here rest (each window_of defs bytes) are.read (kept_part h) behind is;
      sound = subst (λ (n : ℕ). AllByRecursion WindowIsSound (drop n defs)) (sym (next_place i)) (subst (λ (ds : List WindowDef). AllByRecursion WindowIsSound ds) (split_at defs i d here) are.sound).1;
      restored = record {
        frames =
            map_more frame_of windows h ∙ (λ k. are.restored.frames k ++ restored.frame k ∷ [])
            ∙ sym (map_more frame_for (take i defs) d) ∙ ap (map frame_for) (sym (take_on defs i d here) ∙ ap (λ (n : ℕ). take n defs) (sym (next_place i)));
        held = all_more WindowInvariant windows h are.restored.held restored.held;
        committed = all_more IsCommittedWindow windows h are.restored.committed restored.committed;
      };
    }
