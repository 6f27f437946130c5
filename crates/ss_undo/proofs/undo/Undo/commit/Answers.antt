use Rattle.std.proofs.Common.{refl, sym, subst, ◌∙◌}
use Rattle.ss_value.specs.Reserved.{ReservedList}
use Rattle.ss_undo.specs.declared.change.Change.{Change}
use Rattle.ss_undo.specs.ResultsFrom.{ResultsFrom}
use Rattle.ss_undo.specs.Indexed.{AreIndexed}
use Rattle.ss_undo.specs.Windows.{WindowsResultFrom, IsCommittedStaging}
use Rattle.ss_undo.proofs.Final.{OnTheWay, way_on, way_ends, buried_itself}
use Rattle.ss_undo.proofs.Windows.{WindowsOnTheWay, way_starts, windows_on, windows_end}
use Rattle.ss_undo.proofs.undo.Undo.commit.Goals as goal

pub loop-change-init : goal.loop-change-init
loop-change-init c = record {
  tables = λ before start. (c.args.tables.now, start, refl, sym (buried_itself c.args.tables.now));
  indexed = subst (λ (u : ReservedList Change). AreIndexed c.args.tables.now u.items c.args.indexes.now) (sym c.self.view_is) c.requires.indexed;
  columns = refl;
  windows = λ before start. way_starts before c.args.windows.now _ start;
}

pub commit_change-requires : goal.commit_change-requires
commit_change-requires c =
    let before = c.requires.came.0 in
    let start : ResultsFrom before c.self.inside.changes.items c.args.tables.now = subst (λ (u : ReservedList Change). ResultsFrom before u.items c.args.tables.now) (sym c.self.view_is) c.requires.came.2 in
    let way = subst (λ cs. OnTheWay before c.args.tables.now cs c.loop-change.tables) c.in-Some.ensures.some.0 (c.loop-change.invariant.tables before start) in
    record {
      settle = (way_on before c.args.tables.now c.pop.new.self.items c.in-Some.change c.loop-change.tables way).0;
      indexed = (c.pop.new.self.items, subst (λ cs. AreIndexed c.loop-change.tables cs c.loop-change.indexes) c.in-Some.ensures.some.0 c.loop-change.invariant.indexed);
    }

pub loop-change-preserved : goal.loop-change-preserved
loop-change-preserved c = record {
  tables = λ before start.
      let way = subst (λ cs. OnTheWay before c.args.tables.now cs c.loop-change.tables) c.in-Some.ensures.some.0 (c.loop-change.invariant.tables before start) in
      subst (OnTheWay before c.args.tables.now c.pop.new.self.items) (sym c.commit_change.ensures.tables) (way_on before c.args.tables.now c.pop.new.self.items c.in-Some.change c.loop-change.tables way).1;
  indexed = c.commit_change.ensures.indexed c.pop.new.self.items (subst (λ cs. AreIndexed c.loop-change.tables cs c.loop-change.indexes) c.in-Some.ensures.some.0 c.loop-change.invariant.indexed);
  columns = c.commit_change.ensures.columns ∙ c.loop-change.invariant.columns;
  windows = λ before start.
      let way = subst (λ cs. WindowsOnTheWay before c.args.windows.now cs c.loop-change.windows) c.in-Some.ensures.some.0 (c.loop-change.invariant.windows before start) in
      subst (WindowsOnTheWay before c.args.windows.now c.pop.new.self.items) (sym c.commit_change.ensures.windows)
      (windows_on before c.args.windows.now c.pop.new.self.items c.in-Some.change c.loop-change.windows way
      (subst (λ ws. IsCommittedStaging ws c.in-Some.change) c.commit_change.ensures.windows c.commit_change.ensures.ended));
}

pub returns-clause-tables : goal.returns-clause-tables
returns-clause-tables c =
    let before = c.requires.came.0 in
    let start : ResultsFrom before c.self.inside.changes.items c.args.tables.now = subst (λ (u : ReservedList Change). ResultsFrom before u.items c.args.tables.now) (sym c.self.view_is) c.requires.came.2 in
    let way = subst (λ cs. OnTheWay before c.args.tables.now cs c.loop-change.tables) c.in_default.ensures.none.0 (c.loop-change.invariant.tables before start) in
    way_ends before c.args.tables.now c.loop-change.tables c.requires.came.1 way

pub returns-clause-indexed : goal.returns-clause-indexed
returns-clause-indexed c = subst (λ cs. AreIndexed c.loop-change.tables cs c.loop-change.indexes) c.in_default.ensures.none.0 c.loop-change.invariant.indexed

pub returns-clause-columns : goal.returns-clause-columns
returns-clause-columns c = c.loop-change.invariant.columns

pub returns-clause-windows : goal.returns-clause-windows
returns-clause-windows c =
    let before = c.requires.windows.0 in
    let start : WindowsResultFrom before c.self.inside.changes.items c.args.windows.now = subst (λ (u : ReservedList Change). WindowsResultFrom before u.items c.args.windows.now) (sym c.self.view_is) c.requires.windows.2 in
    let way = subst (λ cs. WindowsOnTheWay before c.args.windows.now cs c.loop-change.windows) c.in_default.ensures.none.0 (c.loop-change.invariant.windows before start) in
    windows_end before c.args.windows.now c.loop-change.windows c.requires.windows.1 way
