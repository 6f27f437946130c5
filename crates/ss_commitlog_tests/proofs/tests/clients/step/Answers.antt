use Rattle.std.proofs.Common.{◌≡◌, ◌∙◌, sym, subst, List, [], ◌∷◌, Some, IfOk}
use Rattle.std.specs.declared.option.Option.{Option}
use Rattle.ss_value.specs.Rows.{Rows}
use Rattle.ss_model.specs.declared.catalog.Catalog.{Catalog}
use Rattle.ss_model.specs.declared.entry.Emitted.{Emitted}
use Rattle.ss_model.specs.declared.entry.Listed.{Listed}
use Rattle.ss_model.specs.Database.{Database, empty_database}
use Rattle.ss_commitlog.specs.declared.role.Role.{Role}
use Rattle.ss_commitlog.specs.declared.role.Role.TheVariants.{Part}
use Rattle.ss_commitlog.specs.Reading.{found_batch}
use Rattle.ss_commitlog.specs.Right.{IsRight, known_database}
use Rattle.ss_commitlog.specs.Tokens.{Covers, Known, roles_of}
use Rattle.ss_commitlog_tests.specs.Workflow.{workflow, step}
use Rattle.ss_commitlog_tests.proofs.Lives.{at_life}
use Rattle.ss_commitlog_tests.proofs.Rightly.{step_covers, step_right}
use Rattle.ss_commitlog_tests.proofs.tests.clients.step.Goals as goal

pub commit-requires-clause-covers : goal.commit-requires-clause-covers
commit-requires-clause-covers g c =
    at_life (λ k d p n. Covers k p (roles_of c.in_ok-marks.marks) c.step_of.result.entry) g.I.Life.catalog g.I.Life.opening g.I.Life.parts g.I.Life.clients c.requires.life
    (subst (λ (ks : List Known). Covers workflow 2 (roles_of ks) c.step_of.result.entry) (sym c.in_ok-marks.ensures)
    (subst (λ (n : Role). Covers workflow 2 (n ∷ []) c.step_of.result.entry) (sym (c.look.ensures.mark.role ∙ c.requires.mark))
    (subst (λ (l : Listed). Covers workflow 2 (Part 0 ∷ []) l.entry) (sym c.step_of.ensures) step_covers)))

pub commit-requires-clause-right : goal.commit-requires-clause-right
commit-requires-clause-right g c =
    let k : Known = c.look.new.mark in
    let rows : Rows = c.in-Ok-Some._rows in
    let here : found_batch (known_database g.I.Life.catalog g.I.Life.opening k) 0 0 0 ≡ Some rows =
    sym (subst (λ r. IfOk r (λ (f : Option Rows). f ≡ found_batch (known_database g.I.Life.catalog g.I.Life.opening k) 0 0 0)) c.in-Ok-Some.is c.look.ensures.ok) ∙ c.in-Ok-Some.field-0-is in
    let found : found_batch (known_database workflow (empty_database workflow) k) 0 0 0 ≡ Some rows =
    subst (λ (d : Database). found_batch (known_database workflow d k) 0 0 0 ≡ Some rows) c.requires.life.1
    (subst (λ (x : Catalog). found_batch (known_database x g.I.Life.opening k) 0 0 0 ≡ Some rows) c.requires.life.0 here) in
    at_life (λ x d p n. IsRight x p d c.in_ok-marks.marks c.step_of.result c.new.result) g.I.Life.catalog g.I.Life.opening g.I.Life.parts g.I.Life.clients c.requires.life
    (subst (λ (ks : List Known). IsRight workflow 2 (empty_database workflow) ks c.step_of.result c.new.result) (sym c.in_ok-marks.ensures)
    (subst (λ (l : Listed). IsRight workflow 2 (empty_database workflow) (k ∷ []) l c.new.result) (sym c.step_of.ensures)
    (subst (λ (e : List Emitted). IsRight workflow 2 (empty_database workflow) (k ∷ []) step e) (sym c.new.ensures)
    (step_right k rows (c.look.ensures.mark.role ∙ c.requires.mark) found))))
