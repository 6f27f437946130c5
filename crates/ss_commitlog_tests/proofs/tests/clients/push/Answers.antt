use Rattle.std.proofs.Common.{◌<◌, sym, subst, arith, List, [], ◌∷◌}
use Rattle.ss_model.specs.declared.entry.Emitted.{Emitted}
use Rattle.ss_model.specs.declared.entry.Listed.{Listed}
use Rattle.ss_model.specs.Database.{empty_database}
use Rattle.ss_commitlog.specs.declared.role.Role.TheVariants.{Part, Client}
use Rattle.ss_commitlog.specs.Meaning.{HasClientBelow}
use Rattle.ss_commitlog.specs.Right.{IsRight}
use Rattle.ss_commitlog.specs.Tokens.{Covers, Known, roles_of}
use Rattle.ss_commitlog_tests.specs.Lives.{pair_of}
use Rattle.ss_commitlog_tests.specs.Workflow.{workflow, push}
use Rattle.ss_commitlog_tests.proofs.Lives.{at_life}
use Rattle.ss_commitlog_tests.proofs.Marks.{commit_roles}
use Rattle.ss_commitlog_tests.proofs.Rightly.{push_covers, push_right}
use Rattle.ss_commitlog_tests.proofs.tests.clients.push.Goals as goal

pub commit-requires-clause-covers : goal.commit-requires-clause-covers
commit-requires-clause-covers g c =
    at_life (λ k d p n. Covers k p (roles_of c.args.marks.now) c.in_ok-listed.listed.entry) g.I.Life.catalog g.I.Life.opening g.I.Life.parts g.I.Life.clients c.requires.life
    (subst (λ (ks : List Known). Covers workflow 2 (roles_of ks) c.in_ok-listed.listed.entry) (sym c.requires.marks)
    (subst (λ (l : Listed). Covers workflow 2 (Part 0 ∷ Client 0 ∷ []) l.entry) (sym c.in_ok-listed.ensures) push_covers))

pub commit-requires-clause-client : goal.commit-requires-clause-client
commit-requires-clause-client g c =
    at_life (λ k d p n. HasClientBelow n c.in_ok-listed.listed.entry) g.I.Life.catalog g.I.Life.opening g.I.Life.parts g.I.Life.clients c.requires.life
    (subst (λ (l : Listed). HasClientBelow 2 l.entry) (sym c.in_ok-listed.ensures) (let low : 0 < 2 = omega arith in low))

pub commit-requires-clause-right : goal.commit-requires-clause-right
commit-requires-clause-right g c =
    at_life (λ k d p n. IsRight k p d c.args.marks.now c.in_ok-listed.listed c.in_ok-emitted.emitted) g.I.Life.catalog g.I.Life.opening g.I.Life.parts g.I.Life.clients c.requires.life
    (subst (λ (ks : List Known). IsRight workflow 2 (empty_database workflow) ks c.in_ok-listed.listed c.in_ok-emitted.emitted) (sym c.requires.marks)
    (subst (λ (l : Listed). IsRight workflow 2 (empty_database workflow) (pair_of 0 g.I.Life.first) l c.in_ok-emitted.emitted) (sym c.in_ok-listed.ensures)
    (subst (λ (e : List Emitted). IsRight workflow 2 (empty_database workflow) (pair_of 0 g.I.Life.first) push e) (sym c.in_ok-emitted.ensures) (push_right g.I.Life.first))))

pub returns : goal.returns
returns g c = commit_roles g.I.Life.catalog g.I.Life.parts g.I.Life.first g.I.Life.limit c.args.marks.now c.in_ok-listed.listed _ _ c.commit.ensures
