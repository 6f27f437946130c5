-- Tables of several parts: how one takes in another's rows, and gives them back.
use Rattle.std.specs.Prelude.{◌≡◌, ◌==◌, not, length, ℕ, List, [], ◌∷◌, ◌++◌, None}
use Rattle.std.specs.FinMap as finite
use Rattle.ss_value.specs.Rows.{Row}
use Rattle.ss_table.specs.TableValue.{TableValue, LiveRows}
use Rattle.ss_table.specs.Routes.{part_of, place_among, place_of}
use Rattle.ss_table.specs.Unions.{united}

-- each row is of one of the parts
abbrev pub StandsAtHome : TableValue → Type 0
StandsAtHome h = (k : Row) → place_among h.parts (part_of h.route k) ≡ None → finite.get h.live k ≡ None

-- a part that a table does not have
abbrev pub IsFresh : TableValue → ℕ → Type 0
IsFresh h p = place_among h.parts p ≡ None

-- no row is dead
abbrev pub IsSettled : TableValue → Type 0
IsSettled h = h.dead ≡ finite.empty

-- a table with the rows of another, whose parts are others
abbrev pub with_table : TableValue → TableValue → TableValue
with_table h g = record h {
  live = united (h.live ∷ g.live ∷ []);
  dead = united (h.dead ∷ g.dead ∷ []);
  parts = h.parts ++ g.parts;
}

-- a table that lent all its rows, and its key with them
abbrev pub shell_of : TableValue → TableValue
shell_of h = record h { key = []; live = finite.empty; dead = finite.empty }

-- the rows of one of the parts, by the place of the part
abbrev pub live_of_place : TableValue → ℕ → LiveRows
live_of_place h at = finite.retain_keys h.live (λ k. place_of h.parts (part_of h.route k) == at)

-- the rows of all parts but one
abbrev pub live_elsewhere : TableValue → ℕ → LiveRows
live_elsewhere h at = finite.retain_keys h.live (λ k. not (place_of h.parts (part_of h.route k) == at))

-- the last part of a table, which is not its first, is that of a shell
pub record IsLentBy (h shell : TableValue) : Type 0 where
  pub first : ℕ
  pub rest : List ℕ
  pub part : ℕ
  pub parts : h.parts ≡ first ∷ (rest ++ part ∷ [])
  pub own : shell.parts ≡ part ∷ []
  pub routes : shell.route ≡ h.route
  pub empty : shell ≡ shell_of shell

-- the last part of a table went back to the table that it came from
pub record WasReleased (old new last : TableValue) : Type 0 where
  pub parts : old.parts ≡ new.parts ++ last.parts
  pub one : (p : ℕ) × (last.parts ≡ p ∷ [])
  pub joined : old ≡ with_table new last
  pub live : last.live ≡ live_of_place old (length new.parts)
  pub others : new.live ≡ live_elsewhere old (length new.parts)
  pub keys : (last.key ≡ old.key) × (new.key ≡ old.key)
  pub routes : last.route ≡ old.route
