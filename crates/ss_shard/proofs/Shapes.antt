-- The tables of a catalogue.
use Rattle.std.proofs.Common.{◌≡◌, ℕ, zero, suc, List, [], ◌∷◌, map, length, refl, sym, ap, subst, ◌∙◌, Some, slice_get, slice_set}
use Rattle.std.proofs.lemmas.List.{map-set, length-map}
use Rattle.ss_model.specs.declared.catalog.TableDef.{TableDef}
use Rattle.ss_model.specs.declared.catalog.Catalog.{Catalog}
use Rattle.ss_table.specs.TableValue.{TableValue}
use Rattle.ss_table.specs.Keyed.{AreKeyed}
use Rattle.ss_undo.proofs.CallerLemmas.{set_same}
use Rattle.ss_shard.specs.Bodies.{HasBodies, IsComing}
use Rattle.ss_shard.specs.ShardValue.{ShardValue}
use Rattle.ss_shard.specs.Contents.{row_limit}
use Rattle.ss_model.specs.declared.catalog.WindowDef.{WindowDef}
use Rattle.ss_window.specs.WindowValue.{WindowValue, WindowInvariant}
use Rattle.ss_shard.specs.Shards.{shape_of, shape_for, shapes_of, frame_of, frame_for, frames_of, AllKeyed, AllInvariant, HasTables, HasWindows, IsOf, Changed}

-- a table has the key and the limit of its definition, and each of its rows stands at its key
pub record IsTableOf (d : TableDef) (h : TableValue) : Type 0 where
  pub key : h.key ≡ d.key
  pub limit : h.limit ≡ row_limit d.placement
  pub keyed : AreKeyed h

table_in : (hs : List TableValue) (ds : List TableDef) (t : ℕ) (h : TableValue) → shapes_of hs ≡ map shape_for ds → AllKeyed hs → slice_get hs t ≡ Some h → (d : TableDef) × (slice_get ds t ≡ Some d) × IsTableOf d h
table_in [] ds t h shapes keyed here = cc
table_in (x ∷ xs) [] t h shapes keyed here = cc
table_in (x ∷ xs) (d ∷ ds) zero h shapes keyed here =
    let same : x ≡ h = cc in
    let shape : shape_of x ≡ shape_for d = cc in
    (d, refl, record { key = ap (λ (h : TableValue). h.key) (sym same) ∙ ap (λ s. s.0) shape; limit = ap (λ (h : TableValue). h.limit) (sym same) ∙ ap (λ s. s.1) shape; keyed = subst (λ (h : TableValue). AreKeyed h) same keyed.0 })
table_in (x ∷ xs) (d ∷ ds) (suc t) h shapes keyed here = table_in xs ds t h (let rest : shapes_of xs ≡ map shape_for ds = cc in rest) keyed.1 here

-- the definition of a table that is there
pub table_of : (catalog : Catalog) (tables : List TableValue) → HasTables catalog tables → (t : ℕ) (h : TableValue) → slice_get tables t ≡ Some h → (d : TableDef) × (slice_get catalog.tables t ≡ Some d) × IsTableOf d h
table_of catalog tables has t h here = table_in tables catalog.tables t h has.shapes has.keyed here

-- and a table of a definition
table_for : (hs : List TableValue) (ds : List TableDef) (t : ℕ) (d : TableDef) → shapes_of hs ≡ map shape_for ds → slice_get ds t ≡ Some d → (h : TableValue) × (slice_get hs t ≡ Some h)
table_for hs [] t d shapes here = cc
table_for [] (e ∷ es) t d shapes here = cc
table_for (x ∷ xs) (e ∷ es) zero d shapes here = (x, refl)
table_for (x ∷ xs) (e ∷ es) (suc t) d shapes here = table_for xs es t d (let rest : shapes_of xs ≡ map shape_for es = cc in rest) here

pub table_there_is : (catalog : Catalog) (tables : List TableValue) → HasTables catalog tables → (t : ℕ) (d : TableDef) → slice_get catalog.tables t ≡ Some d → (h : TableValue) × (slice_get tables t ≡ Some h)
table_there_is catalog tables has t d here = table_for tables catalog.tables t d has.shapes here

-- ---- one table is another of the same key and limit

get_map : {A B : Type 0} (f : A → B) (xs : List A) (t : ℕ) (x : A) → slice_get xs t ≡ Some x → slice_get (map f xs) t ≡ Some (f x)
get_map f [] t x e = cc
get_map f (y ∷ ys) zero x e = ap (λ y. Some (f y)) (let q : y ≡ x = cc in q)
get_map f (y ∷ ys) (suc t) x e = get_map f ys t x e

pub shapes_kept : (tables : List TableValue) (t : ℕ) (was now : TableValue) → slice_get tables t ≡ Some was → now.key ≡ was.key → now.limit ≡ was.limit → shapes_of (slice_set tables t now) ≡ shapes_of tables
shapes_kept tables t was now here key limit =
    map-set shape_of tables t now
    ∙ ap (slice_set (shapes_of tables) t) (ap (λ k. (k, now.limit)) key ∙ ap (λ l. (was.key, l)) limit)
    ∙ set_same (shapes_of tables) t (shape_of was) (get_map shape_of tables t was here)

pub all_set : (tables : List TableValue) (t : ℕ) (now : TableValue) → AreKeyed now → AllKeyed tables → AllKeyed (slice_set tables t now)
all_set [] t now k h = h
all_set (x ∷ xs) zero now k h = (k, h.1)
all_set (x ∷ xs) (suc t) now k h = (h.0, all_set xs t now k h.1)

-- ---- windows

-- a window shows and moves as its definition says
pub record IsWindowOf (d : WindowDef) (h : WindowValue) : Type 0 where
  pub unit : h.unit ≡ d.unit
  pub size : h.size ≡ d.size
  pub slide : h.slide ≡ d.slide
  pub held : WindowInvariant h

window_in : (hs : List WindowValue) (ds : List WindowDef) (w : ℕ) (h : WindowValue) → frames_of hs ≡ map frame_for ds → AllInvariant hs → slice_get hs w ≡ Some h → (d : WindowDef) × (slice_get ds w ≡ Some d) × IsWindowOf d h
window_in [] ds w h frames held here = cc
window_in (x ∷ xs) [] w h frames held here = cc
window_in (x ∷ xs) (d ∷ ds) zero h frames held here =
    let same : x ≡ h = cc in
    let frame : frame_of x ≡ frame_for d = cc in (
      d,
      refl,
      record {
        unit = ap (λ (h : WindowValue). h.unit) (sym same) ∙ ap (λ f. f.0) frame;
        size = ap (λ (h : WindowValue). h.size) (sym same) ∙ ap (λ f. f.1.0) frame;
        slide = ap (λ (h : WindowValue). h.slide) (sym same) ∙ ap (λ f. f.1.1) frame;
        held = subst (λ (h : WindowValue). WindowInvariant h) same held.0;
      },
    )
window_in (x ∷ xs) (d ∷ ds) (suc w) h frames held here = window_in xs ds w h (let rest : frames_of xs ≡ map frame_for ds = cc in rest) held.1 here

-- the definition of a window that is there
pub window_of : (catalog : Catalog) (windows : List WindowValue) → HasWindows catalog windows → (w : ℕ) (h : WindowValue) → slice_get windows w ≡ Some h → (d : WindowDef) × (slice_get catalog.windows w ≡ Some d) × IsWindowOf d h
window_of catalog windows has w h here = window_in windows catalog.windows w h has.frames has.held here

-- there are as many as in the catalogue
pub window_count : (catalog : Catalog) (windows : List WindowValue) → HasWindows catalog windows → length windows ≡ length catalog.windows
window_count catalog windows has = sym (length-map windows frame_of) ∙ ap length has.frames ∙ length-map catalog.windows frame_for

pub frames_kept : (windows : List WindowValue) (w : ℕ) (was now : WindowValue) → slice_get windows w ≡ Some was → frame_of now ≡ frame_of was → frames_of (slice_set windows w now) ≡ frames_of windows
frames_kept windows w was now here frame =
    map-set frame_of windows w now
    ∙ ap (slice_set (frames_of windows) w) frame
    ∙ set_same (frames_of windows) w (frame_of was) (get_map frame_of windows w was here)

pub held_set : (windows : List WindowValue) (w : ℕ) (now : WindowValue) → WindowInvariant now → AllInvariant windows → AllInvariant (slice_set windows w now)
held_set [] w now k h = h
held_set (x ∷ xs) zero now k h = (k, h.1)
held_set (x ∷ xs) (suc w) now k h = (h.0, held_set xs w now k h.1)

-- ---- after changes of rows and windows the shard is still of the catalogue

pub still_tables : (catalog : Catalog) (old new : ShardValue) → Changed old new → HasTables catalog old.tables → HasTables catalog new.tables
still_tables catalog old new c has = record { shapes = c.shapes ∙ has.shapes; keyed = c.keyed has.keyed }

pub still_of : (catalog : Catalog) (old new : ShardValue) → Changed old new → IsOf catalog old → IsOf catalog new
still_of catalog old new c is = record {
  tables = still_tables catalog old new c is.tables;
  indexes = c.columns ∙ is.indexes;
  windows = record { frames = c.frames ∙ is.windows.frames; held = c.held is.windows.held };
  cursors = ap length c.cursors ∙ is.cursors;
  sources = ap length c.sources ∙ is.sources;
  bodies = subst (HasBodies catalog) (sym c.bodies.0) is.bodies;
  coming = subst (IsComing catalog) (sym c.bodies.1) is.coming;
}
