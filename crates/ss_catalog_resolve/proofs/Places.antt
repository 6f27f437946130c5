-- Numbers of names are below the lists' lengths.
use Rattle.std.proofs.Common.{◌≡◌, ℕ, ◌<◌, ◌≤◌, refl, List, Option, None, Some, length}
use Rattle.std.specs.Prelude.{position, unwrap_or}
use Rattle.std.specs.Str.{bytes_eq}
use Rattle.ss_names.proofs.CallerLemmas.{position_below}
use Rattle.ss_catalog_resolve.specs.Numbers.{number_in}

-- the number of a name is below the list's length, where there is any name
pub number_below : (names : List (List ℕ)) (name : List ℕ) (most : ℕ) → 0 < most → length names ≤ most → number_in names name < most
number_below names name most some h = by (position (bytes_eq name) names) refl
  where
    by : (o : Option ℕ) → o ≡ position (bytes_eq name) names → unwrap_or o 0 < most
    by None e = some
    by (Some at) e = position_below names name at most e h
