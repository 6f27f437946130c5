use Rattle.std.proofs.Common.{refl, sym, subst, ◌∙◌}
use Rattle.ss_value.specs.Reserved.{ReservedList}
use Rattle.ss_undo.specs.declared.change.Change.{Change}
use Rattle.ss_undo.specs.ResultsFrom.{ResultsFrom}
use Rattle.ss_undo.specs.Indexed.{AreIndexed, columns_of}
use Rattle.ss_undo.specs.Staying.{HasStayed, HaveStayed}
use Rattle.ss_undo.specs.Windows.{WindowsResultFrom}
use Rattle.ss_undo.proofs.Back.{came_back}
use Rattle.ss_undo.proofs.Staying.{last_stayed}
use Rattle.ss_undo.proofs.Windows.{windows_back}
use Rattle.ss_undo.proofs.undo.Undo.rollback.Goals as goal

pub loop-change-init : goal.loop-change-init
loop-change-init c = record {
  tables = λ before start. start;
  indexed = subst (λ (u : ReservedList Change). AreIndexed c.args.tables.now u.items c.args.indexes.now) (sym c.self.view_is) c.requires.indexed;
  stayed = subst (λ (u : ReservedList Change). HaveStayed (columns_of c.args.indexes.now) c.args.tables.now u.items) (sym c.self.view_is) c.requires.stayed;
  columns = refl;
  windows = λ before start. start;
}

pub rollback_change-requires : goal.rollback_change-requires
rollback_change-requires c =
    let before = c.requires.came.0 in
    let start : ResultsFrom before c.self.inside.changes.items c.args.tables.now = subst (λ (u : ReservedList Change). ResultsFrom before u.items c.args.tables.now) (sym c.self.view_is) c.requires.came.1 in
    let came = subst (λ cs. ResultsFrom before cs c.loop-change.tables) c.in-Some.ensures.some.0 (c.loop-change.invariant.tables before start) in
    let old = c.requires.windows.0 in
    let first : WindowsResultFrom old c.self.inside.changes.items c.args.windows.now = subst (λ (u : ReservedList Change). WindowsResultFrom old u.items c.args.windows.now) (sym c.self.view_is) c.requires.windows.1 in
    let led = subst (λ cs. WindowsResultFrom old cs c.loop-change.windows) c.in-Some.ensures.some.0 (c.loop-change.invariant.windows old first) in
    record {
      undo = (came_back before c.loop-change.tables c.pop.new.self.items c.in-Some.change came).0;
      window = (windows_back old c.loop-change.windows c.pop.new.self.items c.in-Some.change led).0;
      indexed = (c.pop.new.self.items, subst (λ cs. AreIndexed c.loop-change.tables cs c.loop-change.indexes) c.in-Some.ensures.some.0 c.loop-change.invariant.indexed);
      stayed = subst (λ columns. HasStayed columns c.loop-change.tables c.in-Some.change) (sym c.loop-change.invariant.columns)
          (last_stayed (columns_of c.args.indexes.now) c.loop-change.tables c.pop.new.self.items c.in-Some.change
          (subst (λ cs. HaveStayed (columns_of c.args.indexes.now) c.loop-change.tables cs) c.in-Some.ensures.some.0 c.loop-change.invariant.stayed)).0;
    }

pub loop-change-preserved : goal.loop-change-preserved
loop-change-preserved c = record {
  tables = λ before start.
      let came = subst (λ cs. ResultsFrom before cs c.loop-change.tables) c.in-Some.ensures.some.0 (c.loop-change.invariant.tables before start) in
      subst (ResultsFrom before c.pop.new.self.items) (sym c.rollback_change.ensures.tables) (came_back before c.loop-change.tables c.pop.new.self.items c.in-Some.change came).1;
  indexed = c.rollback_change.ensures.indexed c.pop.new.self.items (subst (λ cs. AreIndexed c.loop-change.tables cs c.loop-change.indexes) c.in-Some.ensures.some.0 c.loop-change.invariant.indexed);
  stayed = subst (λ ts. HaveStayed (columns_of c.args.indexes.now) ts c.pop.new.self.items) (sym c.rollback_change.ensures.tables)
      (last_stayed (columns_of c.args.indexes.now) c.loop-change.tables c.pop.new.self.items c.in-Some.change
      (subst (λ cs. HaveStayed (columns_of c.args.indexes.now) c.loop-change.tables cs) c.in-Some.ensures.some.0 c.loop-change.invariant.stayed)).1;
  columns = c.rollback_change.ensures.columns ∙ c.loop-change.invariant.columns;
  windows = λ before start.
      let came = subst (λ cs. WindowsResultFrom before cs c.loop-change.windows) c.in-Some.ensures.some.0 (c.loop-change.invariant.windows before start) in
      subst (WindowsResultFrom before c.pop.new.self.items) (sym c.rollback_change.ensures.windows) (windows_back before c.loop-change.windows c.pop.new.self.items c.in-Some.change came).1;
}

pub returns-clause-indexed : goal.returns-clause-indexed
returns-clause-indexed c = subst (λ cs. AreIndexed c.loop-change.tables cs c.loop-change.indexes) c.in_default.ensures.none.0 c.loop-change.invariant.indexed

pub returns-clause-columns : goal.returns-clause-columns
returns-clause-columns c = c.loop-change.invariant.columns
