-- What a name of an opening says before a caller picks its values.
use Rattle.std.specs.Prelude.{ℕ, List, []}
use Rattle.atomic_table.specs.Seated.{TableId}
use Rattle.ss_model.specs.declared.catalog.Catalog.{Catalog}
use Rattle.ss_model.specs.Database.{Database}

abbrev pub no_catalog : Catalog
no_catalog = record { tables = []; streams = []; windows = []; triggers = []; procedures = []; own_texts = []; spares = []; text = [] }

abbrev pub no_database : Database
no_database = record { contents = record { tables = []; windows = [] }; streams = []; counts = []; next_numbers = []; bodies = [] }

abbrev pub no_table : TableId
no_table = record { words = 0; slots = 0; views_name = 0; atom = 0; block = 0; offset = 0; slot_names = [] }

-- a crash may have left anything
abbrev pub any_past : ℕ → List (List ℕ) → Type 0
any_past moment files = Unit {0}
