-- How many batches each procedure has taken, held against the streams.
use Rattle.std.specs.Prelude.{ℕ, Bool, List, [], ◌∷◌, ◌++◌, get_or, length}
use Rattle.std.specs.List.{list_all, range_with_len}
use Rattle.ss_value.specs.Rows.{Rows}
use Rattle.ss_model.specs.declared.catalog.Catalog.{Catalog}
use Rattle.ss_standing.specs.ImageForm.{goes_with, no_batches}

-- how many batches a stream has had, and which of them is the first kept one; 0 past the end
abbrev pub had_and_first : List (ℕ × (ℕ × List Rows)) → ℕ → ℕ × ℕ
had_and_first streams s = ((get_or streams s no_batches).0, (get_or streams s no_batches).1.0)

-- whether each stream goes with the count of the procedure behind those with the first counts
abbrev pub all_go_with : Catalog → List (ℕ × (ℕ × List Rows)) → List ℕ → ℕ → Bool
all_go_with catalog streams before n =
    list_all (λ s. goes_with catalog s (get_or streams s no_batches) (length before) n (before ++ n ∷ [])) (range_with_len 0 (length catalog.streams))
