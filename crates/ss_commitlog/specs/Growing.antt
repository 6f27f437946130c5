-- Tokens whose lists go on.
use Rattle.std.specs.Prelude.{◌≡◌, ℕ}
use Rattle.ss_model.specs.declared.catalog.Catalog.{Catalog}
use Rattle.ss_commitlog.specs.Tokens.{Known, Continues, SeesMore}

-- the same token, which has seen no less: its list goes on from the one before, behind which no entry concerns its role
pub record GoesOn (catalog : Catalog) (parts : ℕ) (k l : Known) : Type 0 where
  pub role : l.role ≡ k.role
  pub sees : SeesMore k l
  pub on : Continues catalog parts l.list k
