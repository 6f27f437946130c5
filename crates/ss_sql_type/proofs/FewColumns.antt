-- What is in scope has few columns, and so has what a query names.
use Rattle.std.proofs.Common.{◌≡◌, ℕ, refl, Bool, true, false, List, [], ◌∷◌, Option, Some, None}
use Rattle.std.specs.Prelude.{cond, ◌&&◌, find, is_some}
use Rattle.std.specs.List.{list_all}
use Rattle.std.proofs.lemmas.Bool.{and_from, and_parts}
use Rattle.ss_sql_lex.specs.declared.tree.JoinTree.{JoinTree}
use Rattle.ss_sql_lex.specs.declared.tree.QueryTree.{QueryTree}
use Rattle.ss_sql_type.specs.declared.scope.Named.{Named}
use Rattle.ss_sql_type.specs.declared.scope.Scope.{Scope}
use Rattle.ss_sql_type.specs.Names.{same_name, columns_of, is_narrow}
use Rattle.ss_sql_type.specs.Statements.{table_of, table_named, of_table}
use Rattle.ss_sql_type.specs.Queries.{is_short, scope_narrow, joined_source, query_reach}

-- one of two
pub one_short : (b : Bool) (n : Named) (o : Option Named) → is_short n.schema ≡ true → is_short (columns_of o) ≡ true → is_short (columns_of (cond b (Some n) o)) ≡ true
one_short true n o h k = h
one_short false n o h k = k

pub found_short : (list : List Named) (test : Named → Bool) → list_all (λ (n : Named). is_short n.schema) list ≡ true → is_short (columns_of (find test list)) ≡ true
found_short [] test h = refl
found_short (n ∷ list) test h =
    let parts = and_parts (is_short n.schema) (list_all (λ (x : Named). is_short x.schema) list) h in
    one_short (test n) n (find test list) parts.0 (found_short list test parts.1)

pub join_short : (list : List Named) (j : Option JoinTree) → list_all (λ (n : Named). is_short n.schema) list ≡ true → is_short (columns_of (joined_source list j)) ≡ true
join_short list None h = refl
join_short list (Some j) h = found_short list (λ (n : Named). same_name n.name j.name.name) h

pub narrow_query : (scope : Scope) (q : QueryTree) → scope_narrow scope ≡ true → is_narrow (query_reach scope q) ≡ true
narrow_query scope q h =
    let sources = list_all (λ (n : Named). is_short n.schema) scope.sources in
    let targets = list_all (λ (n : Named). is_short n.schema) scope.targets in
    let parts = and_parts (sources && targets) (is_short scope.params) h in
    let lists = and_parts sources targets parts.0 in
    let first = found_short scope.sources (λ (n : Named). same_name n.name q.from.name) lists.0 in
    let second = join_short scope.sources q.joined lists.0 in
    let f = is_short (columns_of (query_reach scope q).first) in
    let s = is_short (columns_of (query_reach scope q).second) in
    and_from (f && s) (is_short scope.params) (and_from f s first second) parts.1

-- the table that an UPDATE or a DELETE names
pub narrow_table : (scope : Scope) (name : List ℕ) → scope_narrow scope ≡ true → is_narrow (of_table scope (table_named scope name)) ≡ true
narrow_table scope name h =
    let sources = list_all (λ (n : Named). is_short n.schema) scope.sources in
    let targets = list_all (λ (n : Named). is_short n.schema) scope.targets in
    let parts = and_parts (sources && targets) (is_short scope.params) h in
    let lists = and_parts sources targets parts.0 in
    let first = found_short scope.targets (λ (n : Named). same_name n.name name && is_some (table_of n.source)) lists.1 in
    let f = is_short (columns_of (table_named scope name)) in
    and_from (f && is_short []) (is_short scope.params) (and_from f (is_short []) first refl) parts.1
