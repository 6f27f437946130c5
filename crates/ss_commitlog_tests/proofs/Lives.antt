-- What holds of the workflow holds of any name of the tests.
use Rattle.std.proofs.Common.{ℕ, sym, subst}
use Rattle.ss_model.specs.declared.catalog.Catalog.{Catalog}
use Rattle.ss_model.specs.Database.{Database, empty_database}
use Rattle.ss_commitlog_tests.specs.Lives.{IsTestLife}
use Rattle.ss_commitlog_tests.specs.Workflow.{workflow}

pub at_life : (P : Catalog → Database → ℕ → ℕ → Type 0) (catalog : Catalog) (opening : Database) (parts clients : ℕ) → IsTestLife catalog opening parts clients → P workflow (empty_database workflow) 2 2 → P catalog opening parts clients
at_life P catalog opening parts clients life it =
    subst (λ (k : Catalog). P k opening parts clients) (sym life.0)
    (subst (λ (d : Database). P workflow d parts clients) (sym life.1)
    (subst (λ (n : ℕ). P workflow (empty_database workflow) n clients) (sym life.2) (subst (λ (n : ℕ). P workflow (empty_database workflow) 2 n) (sym life.3) it)))
