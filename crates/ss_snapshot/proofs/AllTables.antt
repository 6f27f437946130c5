-- The tables of a shard that are filled one after the other.
use Rattle.std.proofs.Common.{◌≡◌, ◌∙◌, ℕ, zero, suc, ◌+◌, ◌<◌, ◌≤◌, List, [], ◌∷◌, ◌++◌, drop, get_or, length, map, slice_get, take, Result, Ok, Err, Some, refl, sym, ap, arith}
use Rattle.std.specs.FinMap as finmap
use Rattle.std.proofs.Math.Seq.{take-suc-set}
use Rattle.std.proofs.lemmas.List.{get_or-set_other, length-map}
use Rattle.ss_model.specs.declared.catalog.Catalog.{Catalog}
use Rattle.ss_model.specs.declared.catalog.TableDef.{TableDef}
use Rattle.ss_model.specs.Contents.{Table, table_at}
use Rattle.ss_standing.specs.ImageForm.{table_of}
use Rattle.ss_standing.specs.Readers.{each, with_front}
use Rattle.ss_standing.proofs.CallerLemmas.{for_refused, next_for, no_more_for}
use Rattle.ss_table.specs.TableValue.{TableValue}
use Rattle.ss_shard.specs.Contents.{rows_by_key, tables_of}
use Rattle.ss_shard.specs.Shards.{IsCommitted, shape_for, shape_of}
use Rattle.ss_shard.specs.ShardValue.{ShardValue}
use Rattle.ss_snapshot.specs.declared.reading.fields.PartError.{PartError}
use Rattle.ss_snapshot.specs.declared.reading.fields.PartError.TheVariants.{NoMemory, Foreign}
use Rattle.ss_snapshot.specs.Parts.{Refuses}
use Rattle.ss_snapshot.specs.Tables.{OneFilled, Settles, table_in}

-- ---- lists

pub front_none : {A : Type 0} (read : Result (List A × List ℕ) ℕ) → with_front [] read ≡ read
front_none (Ok x) = refl
front_none (Err left) = refl

pub drop_none : {A : Type 0} (xs : List A) → drop 0 xs ≡ xs
drop_none [] = refl
drop_none (x ∷ xs) = refl

take_none : {A : Type 0} (xs : List A) → take 0 xs ≡ []
take_none [] = refl
take_none (x ∷ xs) = refl

-- the item at a place, and those behind it
pub split_at : {A : Type 0} (xs : List A) (i : ℕ) (x : A) → slice_get xs i ≡ Some x → drop i xs ≡ x ∷ drop (suc i) xs
split_at [] i x is = cc
split_at (y ∷ ys) zero x is = (let same : y ≡ x = cc in λ k. same k ∷ sym (drop_none ys) k)
split_at (y ∷ ys) (suc i) x is = split_at ys i x is

pub item_at : {A : Type 0} (xs : List A) (i : ℕ) → i < length xs → (x : A) × (slice_get xs i ≡ Some x)
item_at [] i within = absurd (omega arith)
item_at (y ∷ ys) zero within = (y, refl)
item_at (y ∷ ys) (suc i) within = item_at ys i (omega (arith, within))

pub none_behind : {A : Type 0} (xs : List A) (n : ℕ) → n ≡ length xs → drop n xs ≡ []
none_behind [] n is = (let none : n ≡ 0 = is in ap (λ (n : ℕ). drop n []) none)
none_behind (x ∷ xs) zero is = absurd (omega (arith, is))
none_behind (x ∷ xs) (suc n) is = none_behind xs n (omega (arith, is))

all_in_front : {A : Type 0} (xs : List A) (n : ℕ) → n ≡ length xs → take n xs ≡ xs
all_in_front [] n is = (let none : n ≡ 0 = is in ap (λ (n : ℕ). take n []) none)
all_in_front (x ∷ xs) zero is = absurd (omega (arith, is))
all_in_front (x ∷ xs) (suc n) is = ap (λ l. x ∷ l) (all_in_front xs n (omega (arith, is)))

all_empty : (ds : List TableDef) (s : ℕ) → ◌≡◌ {A = Table} (get_or (map (λ (d : TableDef). finmap.empty) ds) s finmap.empty) finmap.empty
all_empty [] s = refl
all_empty (d ∷ ds) zero = refl
all_empty (d ∷ ds) (suc s) = all_empty ds s

-- ---- tables

-- the first tables have been read, and the others have no row
pub record AreFilling (catalog : Catalog) (old now : ShardValue) (t : ℕ) (bytes rest : List ℕ) : Type 0 where
  pub settles : Settles catalog old now
  pub read : with_front (take t (tables_of now.tables)) (each table_of (drop t catalog.tables) rest) ≡ each table_of catalog.tables bytes
  pub empty : (s : ℕ) → t ≤ s → table_in now s ≡ finmap.empty

module _ (catalog : Catalog) where
  pub none_filled : (old : ShardValue) (bytes : List ℕ) → IsCommitted catalog old → tables_of old.tables ≡ map (λ (d : TableDef). finmap.empty) catalog.tables → AreFilling catalog old old 0 bytes bytes
  unfolding table_at
  none_filled old bytes committed blank = record {
    settles = record { committed = committed; number = refl; dealt = refl };
    read =
        (λ k. with_front (take_none (tables_of old.tables) k) (each table_of (drop_none catalog.tables k) bytes))
        ∙ front_none (each table_of catalog.tables bytes);
    empty = λ s behind. ap (λ (ts : List Table). get_or ts s finmap.empty) blank ∙ all_empty catalog.tables s;
  }

  as_many : (now : ShardValue) → IsCommitted catalog now → length (tables_of now.tables) ≡ length catalog.tables
  as_many now is =
      length-map now.tables (λ (h : TableValue). rows_by_key h.live) ∙ sym (length-map now.tables shape_of) ∙ ap length is.of_catalog.tables.shapes ∙ length-map catalog.tables shape_for

  module _ (old now : ShardValue) (t : ℕ) (bytes rest : List ℕ) (are : AreFilling catalog old now t bytes rest) where
    pub all_filled : t ≡ length catalog.tables → each table_of catalog.tables bytes ≡ Ok (tables_of now.tables, rest)
    all_filled all =
        sym are.read
        ∙ (λ k. with_front (all_in_front (tables_of now.tables) t (all ∙ sym (as_many now are.settles.committed)) k) (each table_of (none_behind catalog.tables t all k) rest))
        ∙ no_more_for table_of (tables_of now.tables) rest

    module _ (d : TableDef) (here : slice_get catalog.tables t ≡ Some d) where
      abbrev front : List Table
      front = take t (tables_of now.tables)

      read_here : with_front front (each table_of (d ∷ drop (suc t) catalog.tables) rest) ≡ each table_of catalog.tables bytes
      read_here = ap (λ (ds : List TableDef). with_front front (each table_of ds rest)) (sym (split_at catalog.tables t d here)) ∙ are.read

      pub table_refused : (e : PartError) → Refuses e (table_of d rest) → Refuses e (each table_of catalog.tables bytes)
      table_refused NoMemory refused = tt
      table_refused (Foreign left) refused = sym read_here ∙ for_refused table_of front d (drop (suc t) catalog.tables) rest left refused

      pub one_filled : (new : ShardValue) (behind : List ℕ) → t < length catalog.tables → OneFilled catalog now new t → table_of d rest ≡ Ok (table_in new t, behind) → AreFilling catalog old new (t + 1) bytes behind
      unfolding table_at
      one_filled new behind within filled is = record {
        settles = record {
          committed = filled.settles.committed;
          number = filled.settles.number ∙ are.settles.number;
          dealt = filled.settles.dealt ∙ are.settles.dealt;
        };
        read =
            (λ k. with_front (taken k) (each table_of (drop (more k) catalog.tables) behind))
            ∙ sym (next_for table_of front d (drop (suc t) catalog.tables) rest (table_in new t) behind is)
            ∙ read_here;
        empty = λ s past.
            ap (λ (ts : List Table). get_or ts s finmap.empty) filled.others
            ∙ get_or-set_other (tables_of now.tables) t s (table_in new t) finmap.empty (λ same. absurd (omega (arith, past, same)))
            ∙ are.empty s (omega (arith, past));
      }
        where
          more : t + 1 ≡ suc t
          more = omega arith

          long : t < length (tables_of now.tables)
          long = omega (arith, within, as_many now are.settles.committed)

          taken : take (t + 1) (tables_of new.tables) ≡ front ++ table_in new t ∷ []
          taken = (λ k. take (more k) (filled.others k)) ∙ take-suc-set (tables_of now.tables) t (table_in new t) long
