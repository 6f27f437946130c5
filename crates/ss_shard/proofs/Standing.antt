-- A shard stands for its own tables and windows, and with them for all databases of which the same is kept.
use Rattle.std.proofs.Common.{◌≡◌, ◌-◌, ◌≤◌, ℕ, zero, suc, List, [], ◌∷◌, ◌++◌, map, get_or, drop, length, replicate, refl, sym, ap, subst, ◌∙◌, Option, Some, None, arith}
use Rattle.ss_value.specs.Rows.{Rows}
use Rattle.ss_model.specs.declared.catalog.WindowDef.{WindowDef}
use Rattle.ss_model.specs.declared.catalog.Catalog.{Catalog}
use Rattle.ss_model.specs.declared.entry.Entry.{Entry}
use Rattle.ss_model.specs.Results.{map_indexed}
use Rattle.ss_model.specs.Contents.{Contents, window_def, default_window, kept_units}
use Rattle.ss_model.specs.Database.{Database, Applied, apply}
use Rattle.ss_model.specs.Settling.{Kept, kept, SameKeptApplied}
use Rattle.ss_model_kept.proofs.CallerLemmas.{kept_is_enough}
use Rattle.ss_window.specs.Slides.{first_kept as first_kept_at}
use Rattle.ss_window.specs.WindowValue.{WindowValue, unit_count, outdated_count, all_units, WindowInvariant}
use Rattle.ss_window.proofs.CallerLemmas.{given_up_first}
use Rattle.ss_shard.specs.ShardValue.{ShardValue}
use Rattle.ss_shard.specs.Contents.{windows_of, contents_of}
use Rattle.ss_shard.specs.Shards.{frame_of, frame_for, frames_of, AllInvariant, HasWindows, IsOf}
use Rattle.ss_shard.specs.Windows.{kept_part, kept_of, Holds, HoldsDatabase, own_database}
use Rattle.ss_shard.specs.Laws.{Carried}
use Rattle.ss_shard.proofs.Staging.{all_count}

-- ---- what may still be seen

pub gone_past : (gone n : ℕ) (us : List Rows) → gone ≤ n → drop n (replicate gone [] ++ us) ≡ drop (n - gone) us
gone_past zero n us h = let e : n ≡ n - 0 = omega arith in ap (λ n. drop n us) e
gone_past (suc gone) zero us h = absurd (omega arith)
gone_past (suc gone) (suc n) us h = gone_past gone n us (omega arith) ∙ ap (λ k. drop k us) (let e : n - gone ≡ suc n - suc gone = omega arith in e)

part_meant : (d : WindowDef) (h : WindowValue) → frame_of h ≡ frame_for d → WindowInvariant h → (length (all_units h), kept_units d (all_units h)) ≡ kept_part h
part_meant d h frame held =
    let count = all_count h in
    let size : d.size ≡ h.size = sym (ap (λ f. f.1.0) frame) in
    let slide : d.slide ≡ h.slide = sym (ap (λ f. f.1.1) frame) in
    let units : kept_units d (all_units h) ≡ drop (outdated_count h) h.kept =
    (λ i. drop (first_kept_at (size i) (slide i) (count i)) (all_units h)) ∙ gone_past h.gone (first_kept_at h.size h.slide (unit_count h)) h.kept (given_up_first h held) in
    λ i. (count i, units i)

parts_in : (f : ℕ → WindowDef) (hs : List WindowValue) (ds : List WindowDef) → ((i : ℕ) → f i ≡ get_or ds i default_window) → frames_of hs ≡ map frame_for ds → AllInvariant hs
    → map_indexed (λ i us. (length us, kept_units (f i) us)) (map all_units hs) ≡ map kept_part hs
parts_in f [] ds is frames held = refl
parts_in f (h ∷ hs) [] is frames held = cc
parts_in f (h ∷ hs) (d ∷ ds) is frames held =
    let frame : frame_of h ≡ frame_for d = cc in
    let rest : frames_of hs ≡ map frame_for ds = cc in
    let first = ap (λ (d : WindowDef). (length (all_units h), kept_units d (all_units h))) (is 0) ∙ part_meant d h frame held.0 in
    let others = parts_in (λ i. f (suc i)) hs ds (λ i. is (suc i)) rest held.1 in
    λ i. first i ∷ others i

pub parts_meant : (catalog : Catalog) (windows : List WindowValue) → HasWindows catalog windows → map_indexed (kept_of catalog) (windows_of windows) ≡ map kept_part windows
parts_meant catalog windows has = parts_in (window_def catalog) windows catalog.windows (λ i. refl) has.frames has.held

-- a shard stands for its own
pub holds_itself : (catalog : Catalog) (shard : ShardValue) → IsOf catalog shard → Holds catalog shard (contents_of shard)
holds_itself catalog shard is = record { tables = refl; windows = sym (parts_meant catalog shard.windows is.windows) }

-- ---- one database of those that it stands for

module _ (catalog : Catalog) (old new : ShardValue) (is : IsOf catalog old) (now : IsOf catalog new) (db : Database) (holds : HoldsDatabase catalog old db) where
  same_kept : kept catalog (own_database old db) ≡ kept catalog db
  unfolding kept
  same_kept =
      let windows = parts_meant catalog old.windows is.windows ∙ holds.contents.windows in
      λ i. record (kept catalog db) { tables = holds.contents.tables i; windows = windows i }

  module _ (e : Entry) (a : Applied) (is_value : apply catalog (own_database old db) e ≡ Some a) (left : (a.db).contents ≡ contents_of new) where
    stands : (b : Applied) → kept catalog a.db ≡ kept catalog b.db → Holds catalog new (b.db).contents
    unfolding kept
    stands b same = record {
      tables = sym (ap (λ (s : Contents). s.tables) left) ∙ ap (λ (k : Kept). k.tables) same;
      windows = sym (parts_meant catalog new.windows now.windows) ∙ sym (ap (λ (s : Contents). map_indexed (kept_of catalog) s.windows) left) ∙ ap (λ (k : Kept). k.windows) same;
    }

    same_counts : (b : Applied) → kept catalog a.db ≡ kept catalog b.db → (b.db).counts ≡ (a.db).counts
    unfolding kept
    same_counts b same = sym (ap (λ (k : Kept). k.counts) same)

    same_numbers : (b : Applied) → kept catalog a.db ≡ kept catalog b.db → (b.db).next_numbers ≡ (a.db).next_numbers
    unfolding kept
    same_numbers b same = sym (ap (λ (k : Kept). k.next_numbers) same)

    same_bodies : (b : Applied) → kept catalog a.db ≡ kept catalog b.db → (b.db).bodies ≡ (a.db).bodies
    unfolding kept
    same_bodies b same = sym (ap (λ (k : Kept). k.bodies) same)

    by : (o : Option Applied) → apply catalog db e ≡ o → SameKeptApplied catalog (Some a) o → Carried catalog db e new a
    by None is h = absurd h
    by (Some b) is h = record { applied = b; value = is; outcome = h.outcome; emitted = h.emitted; leaves = stands b h.after; counts = same_counts b h.after; numbers = same_numbers b h.after; bodies = same_bodies b h.after }

    pub carried : Carried catalog db e new a
    carried = by (apply catalog db e) refl (subst (λ o. SameKeptApplied catalog o (apply catalog db e)) is_value (kept_is_enough catalog (own_database old db) db same_kept e))
