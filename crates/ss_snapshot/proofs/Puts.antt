-- Rows that are put into a shard's table one after the other, and made final.
use Rattle.std.proofs.Common.{◌≡◌, ◌∙◌, ℕ, List, [], ◌∷◌, zero, suc, map, length, Bool, false, true, refl, sym, ap, subst, Ok, Err}
use Rattle.std.specs.Prelude.{IsOk}
use Rattle.std.specs.List.{AllByRecursion}
use Rattle.ss_value.specs.Rows.{Row, Rows}
use Rattle.ss_model.specs.declared.catalog.Catalog.{Catalog}
use Rattle.ss_model.specs.declared.entry.Reason.{Reason}
use Rattle.ss_model.specs.declared.run_error.RunError.TheVariants.{Abort}
use Rattle.ss_model.specs.Contents.{Contents}
use Rattle.ss_model.specs.Results.{OrAbort, ◌>>=◌, try_fold}
use Rattle.ss_model.specs.Statements.{insert_row}
use Rattle.ss_table.specs.TableValue.{TableValue, HasKey}
use Rattle.ss_shard.specs.Bodies.{HasBodies, IsComing}
use Rattle.ss_shard.specs.Changes.{InsertStops, RowInserted}
use Rattle.ss_shard.specs.Contents.{contents_of, tables_of}
use Rattle.ss_shard.specs.Parts.{dealing_of}
use Rattle.ss_shard.specs.Rows.{IsKeyed}
use Rattle.ss_shard.specs.Shards.{CanRollBack, Changed, HasTables, IsCommitted, IsOf, shape_of, shapes_of}
use Rattle.ss_shard.specs.ShardValue.{ShardValue}
use Rattle.ss_shard.proofs.CallerLemmas.{dealt_after, starts_here, still_tables}
use Rattle.ss_snapshot.specs.Tables.{MayPut, WerePut}

-- ---- changes one behind the other

nothing_changed : (shard : ShardValue) → Changed shard shard
nothing_changed shard = record { number = refl; cursors = refl; sources = refl; bodies = (refl, refl); shapes = refl; keyed = λ h. h; columns = refl; frames = refl; held = λ h. h; back = λ before can. can }

changed_on : (a b c : ShardValue) → Changed a b → Changed b c → Changed a c
changed_on a b c first second = record {
  number = second.number ∙ first.number;
  cursors = second.cursors ∙ first.cursors;
  sources = second.sources ∙ first.sources;
  bodies = (second.bodies.0 ∙ first.bodies.0, second.bodies.1 ∙ first.bodies.1);
  shapes = second.shapes ∙ first.shapes;
  keyed = λ h. second.keyed (first.keyed h);
  columns = second.columns ∙ first.columns;
  frames = second.frames ∙ first.frames;
  held = λ h. second.held (first.held h);
  back = λ before can. second.back before (first.back before can);
}

still_of : (catalog : Catalog) (old new : ShardValue) → Changed old new → IsOf catalog old → IsOf catalog new
still_of catalog old new c is = record {
  tables = still_tables catalog old new c is.tables;
  indexes = c.columns ∙ is.indexes;
  windows = record { frames = c.frames ∙ is.windows.frames; held = c.held is.windows.held };
  cursors = ap length c.cursors ∙ is.cursors;
  sources = ap length c.sources ∙ is.sources;
  bodies = subst (HasBodies catalog) (sym c.bodies.0) is.bodies;
  coming = subst (IsComing catalog) (sym c.bodies.1) is.coming;
}

-- ---- keys that stay

key_stays : (old new : List TableValue) (t : ℕ) (row : Row) → shapes_of new ≡ shapes_of old → IsKeyed old t row → IsKeyed new t row
key_stays [] new t row same h = absurd h
key_stays (x ∷ xs) [] t row same h = cc
key_stays (x ∷ xs) (y ∷ ys) zero row same h =
    let shape : shape_of y ≡ shape_of x = cc in
    subst (λ key. HasKey key row) (sym (ap (λ s. s.0) shape)) h
key_stays (x ∷ xs) (y ∷ ys) (suc t) row same h = key_stays xs ys t row (let rest : shapes_of ys ≡ shapes_of xs = cc in rest) h

keys_stay : (old new : List TableValue) (t : ℕ) (rows : Rows) → shapes_of new ≡ shapes_of old → AllByRecursion (IsKeyed old t) rows → AllByRecursion (IsKeyed new t) rows
keys_stay old new t [] same h = tt
keys_stay old new t (row ∷ rows) same h = (key_stays old new t row same h.0, keys_stay old new t rows same h.1)

-- ---- rows one after the other

-- the rows up to the rest have been put in
pub record ArePut (old now : ShardValue) (t : ℕ) (rows rest : Rows) : Type 0 where
  pub keyed : AllByRecursion (IsKeyed now.tables t) rest
  pub changed : Changed old now
  pub so_far : (catalog : Catalog) → HasTables catalog old.tables → try_fold (insert_row catalog t) rest (contents_of now) ≡ try_fold (insert_row catalog t) rows (contents_of old)

pub none_put : (catalog : Catalog) (old : ShardValue) (t : ℕ) (rows : Rows) → MayPut catalog old t rows → ArePut old old t rows rows
none_put catalog old t rows may = record { keyed = may.keyed; changed = nothing_changed old; so_far = λ catalog has. refl }

pub one_put : (old now new : ShardValue) (t : ℕ) (rows : Rows) (row : Row) (rest : Rows) → ArePut old now t rows (row ∷ rest) → Changed now new → RowInserted now new t row → ArePut old new t rows rest
one_put old now new t rows row rest are changed inserted = record {
  keyed = keys_stay now.tables new.tables t rest changed.shapes are.keyed.1;
  changed = changed_on old now new are.changed changed;
  so_far = λ catalog has.
      sym (ap (λ r. r >>= λ s. try_fold (insert_row catalog t) rest s) (inserted catalog (still_tables catalog old now are.changed has)))
      ∙ are.so_far catalog has;
}

first_ok : {A B : Type 0} (r : OrAbort A) (f : A → OrAbort B) → IsOk (r >>= f) → IsOk r
first_ok (Ok x) f is = refl
first_ok (Err reason) f is = is

-- each of rows that may be put in goes in
pub one_goes : (catalog : Catalog) (old now : ShardValue) (t : ℕ) (rows : Rows) (row : Row) (rest : Rows) → MayPut catalog old t rows → ArePut old now t rows (row ∷ rest)
    → (catalog : Catalog) × HasTables catalog now.tables × IsOk (insert_row catalog t row (contents_of now))
one_goes catalog old now t rows row rest may are = (
  catalog,
  still_tables catalog old now are.changed may.committed.of_catalog.tables,
  first_ok (insert_row catalog t row (contents_of now)) (λ s. try_fold (insert_row catalog t) rest s)
      (subst (λ (r : OrAbort Contents). IsOk r) (sym (are.so_far catalog may.committed.of_catalog.tables)) may.free),
)

pub can_commit : (catalog : Catalog) (old now : ShardValue) (t : ℕ) (rows rest : Rows) → MayPut catalog old t rows → ArePut old now t rows rest → CanRollBack old now
can_commit catalog old now t rows rest may are = are.changed.back old (starts_here catalog old may.committed)

pub all_final : (catalog : Catalog) (old now new : ShardValue) (t : ℕ) (rows : Rows) → MayPut catalog old t rows → ArePut old now t rows []
    → tables_of new.tables ≡ tables_of now.tables → new.number ≡ now.number → map dealing_of new.tables ≡ map dealing_of now.tables → ((catalog : Catalog) → IsOf catalog now → IsCommitted catalog new)
    → WerePut catalog old new t rows
all_final catalog old now new t rows may are tables number dealt committed = record {
  settles = record {
    committed = committed catalog (still_of catalog old now are.changed may.committed.of_catalog);
    number = number ∙ are.changed.number;
    dealt = dealt ∙ dealt_after old now (can_commit catalog old now t rows [] may are);
  };
  tables = λ s is. (
      let ok : ◌≡◌ {A = OrAbort Contents} (Ok (contents_of now)) (Ok s) = are.so_far catalog may.committed.of_catalog.tables ∙ is in
      let same : contents_of now ≡ s = cc in
      tables ∙ ap (λ (c : Contents). c.tables) same
      );
}

-- an insert into a table that takes it isn't aborted
pub not_aborted : (now : ShardValue) (t : ℕ) (row : Row) (reason : Reason) → (catalog : Catalog) × HasTables catalog now.tables × IsOk (insert_row catalog t row (contents_of now)) → InsertStops now t row (Abort reason) → ⊥
not_aborted now t row reason goes stops =
    let h : ◌≡◌ {A = Bool} false true = subst (λ (r : OrAbort Contents). IsOk r) (stops goes.0 goes.1) goes.2 in cc
