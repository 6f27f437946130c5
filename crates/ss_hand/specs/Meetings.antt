-- Tokens whose lists go on.
use Rattle.std.specs.Prelude.{◌≡◌, ◌⊎◌, ℕ, List}
use Rattle.ss_model.specs.declared.catalog.Catalog.{Catalog}
use Rattle.ss_commitlog.specs.Roles.{In}
use Rattle.ss_commitlog.specs.Tokens.{Known, Continues, Follows}

-- each of these tokens goes on from one of those: it has the same role, and a list that goes on from what that one knew
abbrev pub AllGoOn : Catalog → ℕ → List Known → List Known → Type 0
AllGoOn catalog n ks ls = (l : Known) → In l ls → (k : Known) × In k ks × (l.role ≡ k.role) × Continues catalog n l.list k

-- it may be as it was, and else it follows
abbrev pub MayFollow : Catalog → ℕ → ℕ → Known → Known → Type 0
MayFollow catalog n limit k l = (l ≡ k) ⊎ Follows catalog n limit k l
