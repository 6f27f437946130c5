-- What pushes come to.
use Rattle.std.specs.Prelude.{◌≡◌, List}
use Rattle.ss_model.specs.declared.catalog.Catalog.{Catalog}
use Rattle.ss_model.specs.declared.entry.Listed.{Listed}
use Rattle.ss_model.specs.Asked.{listed_entries, pushes_among, pushes_of}
use Rattle.ss_model.specs.Database.{Database}
use Rattle.ss_model.specs.Replays.{Replays, after}

-- of two lists, which begin at two databases: what their pushes come to is the same
pub record SamePushes (catalog : Catalog) (x y : Database) (one other : List Listed) : Type 0 where
  -- they are the same, with the same outcomes, in the same order
  pub outcomes : pushes_of one ≡ pushes_of other
  -- and behind the lists each source goes on from the same number
  pub next_numbers : (after catalog x one).next_numbers ≡ (after catalog y other).next_numbers

-- law: what pushes come to depends on the next numbers and on the pushes before them alone
abbrev pub PushesNeedNumbers : Type 0
PushesNeedNumbers =
    (catalog : Catalog) (x y : Database) (one other : List Listed) → x.next_numbers ≡ y.next_numbers →
    Replays catalog x one → Replays catalog y other → pushes_among (listed_entries one) ≡ pushes_among (listed_entries other) →
    SamePushes catalog x y one other
