-- What the form of a catalogue says, part by part.
use Rattle.std.proofs.Common.{◌≡◌, ◌≤◌, ◌&&◌, nat_le, true, length}
use Rattle.std.proofs.lemmas.Bool.{leb-true}
use Rattle.ss_lemmas.proofs.Bools.{first_of_two, second_of_two}
use Rattle.ss_model.specs.declared.catalog.Catalog.{Catalog}
use Rattle.ss_model.specs.CatalogForm.{has_form, numbers_in_range, is_within_limits, counts_within_limits}

pub numbers_of : (catalog : Catalog) → has_form catalog ≡ true → numbers_in_range catalog ≡ true
numbers_of catalog h = second_of_two _ _ (first_of_two _ _ (first_of_two _ _ (first_of_two _ _ (first_of_two _ _ (first_of_two _ _ h)))))

pub limits_of : (catalog : Catalog) → has_form catalog ≡ true → is_within_limits catalog ≡ true
limits_of catalog h = second_of_two _ _ (first_of_two _ _ (first_of_two _ _ (first_of_two _ _ (first_of_two _ _ h))))

-- ---- how many there are

module _ (catalog : Catalog) (form : has_form catalog ≡ true) where
  counts : counts_within_limits catalog ≡ true
  counts = first_of_two _ _ (limits_of catalog form)

  -- those of the first five kinds: tables, streams, windows, triggers, procedures
  kinds : nat_le (length catalog.tables) 64 && nat_le (length catalog.streams) 32 && nat_le (length catalog.windows) 32 && nat_le (length catalog.triggers) 64 && nat_le (length catalog.procedures) 64 ≡ true
  kinds = first_of_two _ _ (first_of_two _ _ (first_of_two _ _ (first_of_two _ _ (first_of_two _ _ (first_of_two _ _ counts)))))

  pub few_procedures : length catalog.procedures ≤ 64
  few_procedures = leb-true (length catalog.procedures) 64 (second_of_two _ _ kinds)

  pub few_triggers : length catalog.triggers ≤ 64
  few_triggers = leb-true (length catalog.triggers) 64 (second_of_two _ _ (first_of_two _ _ kinds))

  pub few_windows : length catalog.windows ≤ 32
  few_windows = leb-true (length catalog.windows) 32 (second_of_two _ _ (first_of_two _ _ (first_of_two _ _ kinds)))

  pub few_streams : length catalog.streams ≤ 32
  few_streams = leb-true (length catalog.streams) 32 (second_of_two _ _ (first_of_two _ _ (first_of_two _ _ (first_of_two _ _ kinds))))
