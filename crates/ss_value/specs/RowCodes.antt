-- How rows are compared.
use Rattle.std.specs.Coded.{Coded, coded_list}
use Rattle.ss_value.specs.contracts.value.Value as value
use Rattle.ss_value.specs.Rows.{Row}

-- two rows are equal where their values are
abbrev pub coded_row : Coded Row
coded_row = coded_list value.the_row.coded
