-- The bodies that procedures have, by number.
use Rattle.std.specs.Prelude.{◌≡◌, ℕ, zero, suc, List, [], get_or, set, length, slice_get, Option, Some, None, unwrap_or}
use Rattle.std.specs.Option.{option_map}
use Rattle.ss_model.specs.declared.catalog.Body.{Body}
use Rattle.ss_model.specs.declared.catalog.Catalog.{Catalog}
use Rattle.ss_model.specs.declared.catalog.Procedure.{Procedure}
use Rattle.ss_model.specs.declared.catalog.Step.{Step}
use Rattle.ss_model.specs.Database.{own_text, spare_bodies, steps_named, with_body}
use Rattle.ss_model.specs.Results.{map_indexed}
use Rattle.ss_shard.specs.ShardValue.{ShardValue}

-- the text of the body of this number of a procedure: 0 is its own, and i + 1 the i-th that may be installed
abbrev pub text_numbered : Catalog → ℕ → ℕ → List ℕ
text_numbered catalog q zero = own_text catalog q
text_numbered catalog q (suc i) = unwrap_or (option_map (λ (b : Body). b.text) (slice_get (spare_bodies catalog q) i)) []

-- the steps of the body of this number; the procedure's own where there is none
abbrev pub steps_numbered : Catalog → ℕ → ℕ → Procedure → List Step
steps_numbered catalog q zero p = p.body
steps_numbered catalog q (suc i) p = unwrap_or (option_map (λ (b : Body). b.steps) (slice_get (spare_bodies catalog q) i)) p.body

-- the texts of the bodies that all procedures have
abbrev pub texts_of : Catalog → List ℕ → List (List ℕ)
texts_of catalog bodies = map_indexed (text_numbered catalog) bodies

-- a procedure as it is on a shard: with the body that it has there
abbrev pub present_on : Catalog → ShardValue → ℕ → Procedure → Procedure
present_on catalog shard q p = with_body (steps_numbered catalog q (get_or shard.bodies q 0) p) p

-- a number has the steps that its text names: those of the first body with this text
abbrev pub IsBodyNumber : Catalog → ℕ → ℕ → Type 0
IsBodyNumber catalog q k = (p : Procedure) → steps_numbered catalog q k p ≡ steps_named catalog q (text_numbered catalog q k) p

-- there is such a number for each procedure
pub record HasBodies (catalog : Catalog) (bodies : List ℕ) : Type 0 where
  pub count : length bodies ≡ length catalog.procedures
  pub each : (q : ℕ) → IsBodyNumber catalog q (get_or bodies q 0)

-- and for the procedure whose body is to be another, if there is one
abbrev pub IsComing : Catalog → Option (ℕ × ℕ) → Type 0
IsComing catalog None = Unit {0}
IsComing catalog (Some c) = IsBodyNumber catalog c.0 c.1

-- the bodies once the one that is to come is there
abbrev pub with_coming : Option (ℕ × ℕ) → List ℕ → List ℕ
with_coming None bodies = bodies
with_coming (Some c) bodies = set bodies c.0 c.1
