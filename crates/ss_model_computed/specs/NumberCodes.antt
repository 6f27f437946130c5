-- How next numbers are stored as data.
use Rattle.std.specs.Coded.{Coded, coded_list, coded_ℕ}
use Rattle.std.specs.FinMap as finmap
use Rattle.ss_model.specs.Database.{NextNumbers}

-- next numbers as the list of the sources' names and their numbers
abbrev pub coded_numbers : Coded NextNumbers
coded_numbers = finmap.code (coded_list coded_ℕ) coded_ℕ
