-- The step that a ready procedure takes next.
use Rattle.std.proofs.Common.{◌≡◌, ◌<◌, ℕ, true, length, slice_get}
use Rattle.std.proofs.lemmas.Option.{slice_get_within}
use Rattle.ss_model.specs.declared.catalog.Catalog.{Catalog}
use Rattle.ss_model.specs.declared.entry.Entry.TheVariants.{Step as StepEntry}
use Rattle.ss_model.specs.Database.{Database, batch_count, is_ready, is_ready_entry, fits_entry}
use Rattle.ss_model.specs.Settling.{is_ready_now}
use Rattle.ss_lemmas.proofs.Bools.{first_of_two}
use Rattle.ss_model_laws.proofs.CallerLemmas.{named}

module _ (catalog : Catalog) (db : Database) where
  -- the step of a ready procedure is ready and fits
  pub ready_step : (q r : ℕ) → batch_count db q ≡ r → is_ready_now catalog db q ≡ true → is_ready_entry catalog db (StepEntry q r) ≡ true
  ready_step q r count ready =
      let (d, here, is) = named (is_ready db q (batch_count db q)) (slice_get catalog.procedures q) ready in
      rw (here, ← count) is

  pub ready_fits : (q r : ℕ) → is_ready_now catalog db q ≡ true → fits_entry catalog (StepEntry q r) ≡ true
  ready_fits q r ready =
      let (d, here, is) = named (is_ready db q (batch_count db q)) (slice_get catalog.procedures q) ready in
      rw here (first_of_two _ _ (first_of_two _ _ is))

  pub ready_within : (q : ℕ) → is_ready_now catalog db q ≡ true → q < length catalog.procedures
  ready_within q ready =
      let (d, here, is) = named (is_ready db q (batch_count db q)) (slice_get catalog.procedures q) ready in
      slice_get_within catalog.procedures q d here
