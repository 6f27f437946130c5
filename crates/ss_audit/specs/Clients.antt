-- A number for each client.
use Rattle.std.specs.Prelude.{ℕ, get_or}
use Rattle.ss_audit.specs.declared.per_client.PerClient.{PerClient}

-- the number of a client, and 0 of one that no request may name
abbrev pub number_of : PerClient → ℕ → ℕ
number_of numbers client = get_or numbers.numbers client 0
