use Rattle.std.proofs.Common.{ap, ◌∙◌}
use Rattle.ss_sql_type.specs.Refusals.{least_of}
use Rattle.ss_sql_type.specs.Names.{Reach}
use Rattle.ss_sql_type.specs.Queries.{columns_shown, faults_within, typed_within}
use Rattle.ss_sql_type.proofs.query.query_of.Goals as goal

pub returns-clause-ok : goal.returns-clause-ok
returns-clause-ok c = c.in_ok-query.ensures.ok ∙ ap (λ (r : Reach). typed_within r c.args.tree.now) c.in_ok-names.ensures.ok

pub returns-clause-faults : goal.returns-clause-faults
returns-clause-faults c =
    c.in_ok-query.ensures.faults
    ∙ ap (λ (r : Reach). least_of c.args.found.now (faults_within r (columns_shown c.args.columns) c.args.at c.args.tree.now)) c.in_ok-names.ensures.ok
