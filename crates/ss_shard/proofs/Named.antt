-- The sources of a shard's streams are names.
use Rattle.std.proofs.Common.{◌≡◌, ◌∙◌, ℕ, zero, suc, ◌≤◌, List, [], ◌∷◌, refl, ap, Option, Some, None, unwrap_or, is_some, true, arith}
use Rattle.std.specs.Prelude.{IsTrue}
use Rattle.std.specs.List.{AllByRecursion}
use Rattle.std.specs.FinMap as finite
use Rattle.ss_value.specs.Words.{is_name}
use Rattle.ss_model.specs.declared.catalog.Catalog.{Catalog}
use Rattle.ss_model.specs.Database.{Database, NextNumbers}
use Rattle.ss_model.specs.WholeDatabase.{WholeDatabase}
use Rattle.ss_shard.specs.ShardValue.{ShardValue}
use Rattle.ss_shard.specs.Sources.{numbers_at, AreNames, AllAreNames}
use Rattle.ss_shard.specs.Windows.{HoldsDatabase}
use Rattle.ss_shard.proofs.Numbers.{no_names}

pub all_named : (sources : List NextNumbers) → AllByRecursion AreNames sources → AllAreNames sources
all_named [] all s = no_names
all_named (x ∷ xs) all zero = all.0
all_named (x ∷ xs) all (suc s) = all_named xs all.1 s

has_entry : (o : Option ℕ) (n : ℕ) → unwrap_or o 0 ≡ n → 1 ≤ n → is_some o ≡ true
has_entry None n e least = absurd (omega (arith, e, least))
has_entry (Some m) n e least = refl

-- a next number of a whole database is 1 at least, so the shard has an entry for its source
pub held_named : (catalog : Catalog) (shard : ShardValue) (db : Database) → AllAreNames shard.sources → HoldsDatabase catalog shard db → WholeDatabase catalog db → AllAreNames db.next_numbers
held_named catalog shard db own holds whole s source has = by (finite.get (numbers_at db.next_numbers s) source) refl has
  where
    by : (o : Option ℕ) → finite.get (numbers_at db.next_numbers s) source ≡ o → is_some o ≡ true → IsTrue (is_name source)
    by None is h = cc
    by (Some n) is h = own s source (has_entry (finite.get (numbers_at shard.sources s) source) n (holds.numbers.numbers s source ∙ ap (λ o. unwrap_or o 0) is) (whole.next_numbers s source n is).at_least)
