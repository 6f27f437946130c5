use Rattle.std.proofs.Common.{◌≤◌, Option, Some, None, codes, sym, subst}
use Rattle.std.specs.Prelude.{option_map, IfSome}
use Rattle.serde_json.specs.Data.{Data, depth}
use Rattle.serde_json.specs.View.{view}
use Rattle.ss_catalog_requests.proofs.Levels.{levels_at}
use Rattle.ss_catalog_requests.proofs.request.value_at_body.Goals as goal

-- what is there under f
under : {A B : Type 0} (f : A → B) (P : B → Type 0) (o : Option A) → IfSome (option_map f o) P → IfSome o (λ a. P (f a))
under f P None h = tt
under f P (Some a) h = h

pub returns-clause-levels : goal.returns-clause-levels
returns-clause-levels c =
    let whole = view c.args.value.now in
    under (λ v. view v.now) (λ e. depth e ≤ depth whole) c.get.result
    (subst (λ (o : Option Data). IfSome o (λ e. depth e ≤ depth whole)) (sym c.get.ensures) (levels_at (codes "body") whole))
