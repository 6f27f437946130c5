use Rattle.std.proofs.Common.{◌∙◌, ap, ℕ, List, not}
use Rattle.ss_names.specs.Names.{is_among, bytes_behind}
use Rattle.ss_names.proofs.Sets.{behind_any, behind_insert, with_name}
use Rattle.ss_names.proofs.set.NameSet.insert.Goals as goal

pub returns-clause-ok : goal.returns-clause-ok
returns-clause-ok c =
    c.in_ok-fresh.ensures.added
    ∙ ap not (behind_any c.args.name c.self.inside.names.keys)
    ∙ ap (λ (ns : List (List ℕ)). not (is_among ns c.args.name.now)) c.self.view_is

pub returns-clause-names : goal.returns-clause-names
returns-clause-names c =
    ap bytes_behind c.in_ok-fresh.ensures.keys
    ∙ behind_insert c.self.inside.names.keys c.args.name
    ∙ ap (λ (ns : List (List ℕ)). with_name ns c.args.name.now) c.self.view_is
