-- What a unit more of a window is to the model.
use Rattle.std.proofs.Common.{◌≡◌, ℕ, zero, suc, ◌+◌, ◌^◌, ◌<◌, ◌≤◌, ◌==◌, nat_le, not, List, [], ◌∷◌, ◌++◌, set, length, replicate, refl, sym, ap, ◌∙◌, Some, slice_get, slice_set, Ok, Err, append_assoc, length-append}
use Rattle.std.proofs.lemmas.Option.{get_or_from_slice_get}
use Rattle.std.proofs.lemmas.List.{map-set}
use Rattle.std.proofs.lemmas.Bool.{le-leb, lt-leb}
use Rattle.ss_value.specs.Rows.{Rows}
use Rattle.ss_model.specs.declared.catalog.WindowDef.{WindowDef}
use Rattle.ss_model.specs.declared.catalog.Catalog.{Catalog}
use Rattle.ss_model.specs.declared.entry.Reason.TheVariants.{WindowFull}
use Rattle.ss_model.specs.Results.{abort_when}
use Rattle.ss_model.specs.Contents.{Window, Contents, window_def, window_units, append_unit, default_window}
use Rattle.ss_table.specs.TableValue.{TableValue}
use Rattle.ss_window.specs.Slides.{visible_end}
use Rattle.ss_window.specs.WindowValue.{WindowValue, unit_count, stage, moves_end, all_units}
use Rattle.ss_shard.specs.Contents.{contents_with, windows_of}
use Rattle.ss_shard.specs.Shards.{HasWindows}
use Rattle.ss_shard.specs.Windows.{unit_added, unit_moves_end}
use Rattle.ss_shard.proofs.Shapes.{window_of}
use Rattle.ss_shard.proofs.Tables.{get_or_map}

pub length_replicate : {A : Type 0} (n : ℕ) (x : A) → length (replicate n x) ≡ n
length_replicate zero x = refl
length_replicate (suc n) x = ap suc (length_replicate n x)

-- all units of the model are those that were dropped, and those that are held
pub all_count : (h : WindowValue) → length (all_units h) ≡ unit_count h
all_count h = length-append (replicate h.gone []) h.kept ∙ ap (λ n. n + length h.kept) (length_replicate h.gone [])

module _ (catalog : Catalog) (tables : List TableValue) (windows : List WindowValue) (has : HasWindows catalog windows) (w : ℕ) (was : WindowValue) (here : slice_get windows w ≡ Some was) where
  abbrev held : Contents
  held = contents_with tables windows

  pub units_there : window_units held w ≡ all_units was
  unfolding window_units
  units_there = get_or_map all_units windows w was [] here

  pub count_there : length (window_units held w) ≡ unit_count was
  count_there = ap length units_there ∙ all_count was

  pub def_there : window_def catalog w ≡ (window_of catalog windows has w was here).0
  def_there = get_or_from_slice_get catalog.windows w _ default_window (window_of catalog windows has w was here).1

  moves_there : unit_moves_end catalog w held ≡ moves_end was
  moves_there =
      let d = (window_of catalog windows has w was here).0 in
      let is = (window_of catalog windows has w was here).2 in
      ap (λ (d : WindowDef). not (visible_end d.size d.slide (length (window_units held w)) == visible_end d.size d.slide (suc (length (window_units held w))))) def_there
      ∙ ap (λ k. not (visible_end d.size d.slide k == visible_end d.size d.slide (suc k))) count_there
      ∙ (λ i. not (visible_end (sym is.size i) (sym is.slide i) (unit_count was) == visible_end (sym is.size i) (sym is.slide i) (suc (unit_count was))))

  added_there : (unit : Rows) → append_unit held w unit ≡ contents_with tables (slice_set windows w (stage was unit))
  unfolding append_unit
  added_there unit =
      ap (λ (us : Window). record held { windows = set (windows_of windows) w (us ++ unit ∷ []) }) units_there
      ∙ ap (λ (us : Window). record held { windows = set (windows_of windows) w us }) (append_assoc (replicate was.gone []) was.kept (unit ∷ []))
      ∙ ap (λ (ws : List Window). record held { windows = ws }) (sym (map-set all_units windows w (stage was unit)))

  pub unit_more : (unit : Rows) → unit_count was < 2 ^ 62 → unit_added catalog w unit held ≡ Ok (moves_end was, contents_with tables (slice_set windows w (stage was unit)))
  unit_more unit less =
      ap (λ k. abort_when (nat_le (2 ^ 62) k) (WindowFull w) (Ok (unit_moves_end catalog w held, append_unit held w unit))) count_there
      ∙ ap (λ b. abort_when b (WindowFull w) (Ok (unit_moves_end catalog w held, append_unit held w unit))) (lt-leb (2 ^ 62) (unit_count was) less)
      ∙ (λ i. Ok (moves_there i, added_there unit i))

  pub window_full : (unit : Rows) → 2 ^ 62 ≤ unit_count was → unit_added catalog w unit held ≡ Err (WindowFull w)
  window_full unit full =
      ap (λ k. abort_when (nat_le (2 ^ 62) k) (WindowFull w) (Ok (unit_moves_end catalog w held, append_unit held w unit))) count_there
      ∙ ap (λ b. abort_when b (WindowFull w) (Ok (unit_moves_end catalog w held, append_unit held w unit))) (le-leb (2 ^ 62) (unit_count was) full)
