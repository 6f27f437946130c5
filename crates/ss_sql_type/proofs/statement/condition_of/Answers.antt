use Rattle.std.proofs.Common.{◌≡◌, ℕ, ap, ◌∙◌, None, Option, List, length}
use Rattle.std.specs.Prelude.{◌==◌}
use Rattle.ss_sql_lex.specs.declared.tree.ItemTree.{ItemTree}
use Rattle.ss_sql_trees.specs.declared.typed.Condition.{Condition}
use Rattle.ss_sql_trees.specs.declared.typed.Expr.{Expr}
use Rattle.ss_sql_trees.specs.declared.typed.Query.{Query}
use Rattle.ss_sql_type.specs.declared.kinds.ValueKind.{ValueKind}
use Rattle.ss_sql_type.specs.declared.scope.TypeError.TheVariants.{WrongCount}
use Rattle.ss_sql_type.specs.Refusals.{least_of, fault_unless}
use Rattle.ss_sql_type.specs.Names.{Reach}
use Rattle.ss_sql_type.specs.Expressions.{typed_expr}
use Rattle.ss_sql_type.specs.Queries.{query_reach, faults_within, query_faults, typed_within, typed_query}
use Rattle.ss_sql_type.specs.Statements.{bare, first_kind, right_faults}
use Rattle.ss_sql_type.proofs.Noted.{noted_twice}
use Rattle.ss_sql_type.proofs.statement.condition_of.Goals as goal

pub returns-clause-ok : goal.returns-clause-ok
returns-clause-ok c =
    let tree = c.args.tree.now in
    let of_query : Query → Condition = λ q. record { query = q; cmp = tree.cmp; right = c.in_ok-right.right } in
    let of_right : Expr → Condition = λ e. record { query = typed_query c.args.scope.now tree.query; cmp = tree.cmp; right = e } in
    ap of_query (c.in_ok-query.ensures.ok ∙ ap (λ (r : Reach). typed_within r tree.query) c.in_ok-names.ensures.ok) ∙ ap of_right c.in_ok-right.ensures.ok

pub returns-clause-faults : goal.returns-clause-faults
returns-clause-faults c =
    let scope = c.args.scope.now in
    let tree = c.args.tree.now in
    let f0 = c.args.found.now in
    let f1 = c.query_within.new.found in
    let f2 = c.check.new.found in
    let f3 = c.right_of.new.found in
    let t = typed_expr (bare scope) None tree.right in
    let e1 : f1 ≡ least_of f0 (query_faults scope None 0 tree.query) = c.in_ok-query.ensures.faults ∙ ap (λ (r : Reach). least_of f0 (faults_within r None 0 tree.query)) c.in_ok-names.ensures.ok in
    let e2 : f2 ≡ least_of f1 (fault_unless (length tree.query.items == 1) (WrongCount tree.query.at)) = c.check.ensures ∙ ap (λ (n : ℕ). least_of f1 (fault_unless (n == 1) (WrongCount tree.query.at))) c.len-one.ensures in
    let kind : c.first_kind-kind.result ≡ first_kind (query_reach scope tree.query) tree.query.items =
    c.first_kind-kind.ensures
    ∙ ap (λ (x : List ItemTree). first_kind c.in_ok-names.names x) c.as_slice.ensures
    ∙ ap (λ (r : Reach). first_kind r tree.query.items) c.in_ok-names.ensures.ok in
    let e3 : f3 ≡ least_of f2 (right_faults (first_kind (query_reach scope tree.query) tree.query.items) t) = c.in_ok-right.ensures.faults ∙ ap (λ (k : Option ValueKind). least_of f2 (right_faults k t)) kind in
    noted_twice f0 f1 f3 (query_faults scope None 0 tree.query) _ e1 (noted_twice f1 f2 f3 (fault_unless (length tree.query.items == 1) (WrongCount tree.query.at)) _ e2 e3)
