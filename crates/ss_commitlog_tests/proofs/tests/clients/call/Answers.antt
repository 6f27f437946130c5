use Rattle.std.proofs.Common.{◌<◌, sym, subst, arith, List, [], ◌∷◌}
use Rattle.ss_model.specs.declared.entry.Emitted.{Emitted}
use Rattle.ss_model.specs.declared.entry.Listed.{Listed}
use Rattle.ss_model.specs.Database.{empty_database}
use Rattle.ss_commitlog.specs.declared.role.Role.TheVariants.{Part, Client}
use Rattle.ss_commitlog.specs.Meaning.{HasClientBelow}
use Rattle.ss_commitlog.specs.Right.{IsRight}
use Rattle.ss_commitlog.specs.Tokens.{Covers, Known, roles_of}
use Rattle.ss_commitlog_tests.specs.Lives.{pair_of}
use Rattle.ss_commitlog_tests.specs.Workflow.{workflow, call}
use Rattle.ss_commitlog_tests.proofs.Lives.{at_life}
use Rattle.ss_commitlog_tests.proofs.Rightly.{call_covers, call_right}
use Rattle.ss_commitlog_tests.proofs.tests.clients.call.Goals as goal

pub commit-requires-clause-covers : goal.commit-requires-clause-covers
commit-requires-clause-covers g c =
    at_life (λ k d p n. Covers k p (roles_of c.args.marks.now) c.call_of.result.entry) g.I.Life.catalog g.I.Life.opening g.I.Life.parts g.I.Life.clients c.requires.life
    (subst (λ (ks : List Known). Covers workflow 2 (roles_of ks) c.call_of.result.entry) (sym c.requires.marks)
    (subst (λ (l : Listed). Covers workflow 2 (Part 1 ∷ Client 1 ∷ []) l.entry) (sym c.call_of.ensures) call_covers))

pub commit-requires-clause-client : goal.commit-requires-clause-client
commit-requires-clause-client g c =
    at_life (λ k d p n. HasClientBelow n c.call_of.result.entry) g.I.Life.catalog g.I.Life.opening g.I.Life.parts g.I.Life.clients c.requires.life
    (subst (λ (l : Listed). HasClientBelow 2 l.entry) (sym c.call_of.ensures) (let low : 1 < 2 = omega arith in low))

pub commit-requires-clause-right : goal.commit-requires-clause-right
commit-requires-clause-right g c =
    at_life (λ k d p n. IsRight k p d c.args.marks.now c.call_of.result c.new.result) g.I.Life.catalog g.I.Life.opening g.I.Life.parts g.I.Life.clients c.requires.life
    (subst (λ (ks : List Known). IsRight workflow 2 (empty_database workflow) ks c.call_of.result c.new.result) (sym c.requires.marks)
    (subst (λ (l : Listed). IsRight workflow 2 (empty_database workflow) (pair_of 1 g.I.Life.first) l c.new.result) (sym c.call_of.ensures)
    (subst (λ (e : List Emitted). IsRight workflow 2 (empty_database workflow) (pair_of 1 g.I.Life.first) call e) (sym c.new.ensures) (call_right g.I.Life.first))))
