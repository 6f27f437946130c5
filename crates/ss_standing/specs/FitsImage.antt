-- What an image has room for.
use Rattle.std.specs.Prelude.{◌≡◌, ◌^◌, ◌<◌, ℕ, Bool, true, false, List, length, All}
use Rattle.std.specs.FinMap as finmap
use Rattle.ss_value.specs.Words.{is_name}
use Rattle.ss_value.specs.Rows.{Rows}
use Rattle.ss_model.specs.declared.catalog.Catalog.{Catalog}
use Rattle.ss_model.specs.Contents.{Table, Window}
use Rattle.ss_model.specs.Database.{NextNumbers, own_bodies}
use Rattle.ss_model.specs.Settling.{Kept}
use Rattle.ss_record.specs.Bounds.{IsTypedRow}

-- fewer rows than this, each of values that the types of a program hold
abbrev pub FitRows : ℕ → Rows → Type 0
FitRows most rows = (length rows < most) × All IsTypedRow rows

-- a table
abbrev pub FitsTable : Table → Type 0
FitsTable m = FitRows (2 ^ 64) (finmap.values m)

-- how many units a window has had, and the kept ones; how many are kept follows from that
abbrev pub FitsWindow : ℕ × Window → Type 0
FitsWindow w = (w.0 < 2 ^ 64) × All (FitRows (2 ^ 64)) w.1

-- how many batches a stream has had, which of them is the first kept one, and the kept ones
abbrev pub FitsStream : ℕ × (ℕ × List Rows) → Type 0
FitsStream s = (s.0 < 2 ^ 64) × (s.1.0 < 2 ^ 64) × All (FitRows (2 ^ 16)) s.1.1

-- sources by their names, and their next numbers
abbrev pub FitNumbers : NextNumbers → Type 0
FitNumbers m =
    (finmap.len m < 2 ^ 64) × All (λ (next : List ℕ × ℕ). next.1 < 2 ^ 64) (finmap.entries m)
    × All (λ (next : List ℕ × ℕ). is_name next.0 ≡ true) (finmap.entries m)

-- the texts of the procedures' bodies; an image of the older form, which has none, is of procedures with their own bodies
abbrev pub FitBodies : Bool → Catalog → List (List ℕ) → Type 0
FitBodies true catalog texts = All (λ (text : List ℕ). length text < 2 ^ 32) texts
FitBodies false catalog texts = texts ≡ own_bodies catalog

-- each number fits its bytes, each row is of values that the types of a program hold, sources have names, and the bodies may be in an image
-- of this form
pub record FitsImage (bodies : Bool) (catalog : Catalog) (k : Kept) : Type 0 where
  pub tables : All FitsTable k.tables
  pub windows : All FitsWindow k.windows
  pub streams : All FitsStream k.streams
  pub counts : All (λ (n : ℕ). n < 2 ^ 64) k.counts
  pub next_numbers : All FitNumbers k.next_numbers
  pub texts : FitBodies bodies catalog k.bodies
