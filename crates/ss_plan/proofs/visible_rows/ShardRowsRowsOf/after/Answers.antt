use Rattle.std.proofs.Common.{◌≡◌, sym, ap, subst, ◌∙◌}
use Rattle.ss_value.specs.Rows.{Row}
use Rattle.ss_rows.specs.Sources.{Positioned, first_position, StandsAt}
use Rattle.ss_plan.specs.Seen.{positioned_by, value_behind}
use Rattle.ss_plan.proofs.visible_rows.ShardRowsRowsOf.after.Goals as goal

pub returns-in-InTable : goal.returns-in-InTable
returns-in-InTable c =
    let is = c.rows_at.ensures ∙ ap (positioned_by c.args.self.now.catalog.now (value_behind c.args.self.now.split)) c.in-InTable.is in
    subst (λ (ps : Positioned). (row : Row) (behind : Positioned) → StandsAt ps c.args.at row behind → c.next_seen.result.0 ≡ first_position behind) (sym is) c.next_seen.ensures

pub returns-in-InWindow : goal.returns-in-InWindow
returns-in-InWindow c =
    let is = c.rows_at.ensures ∙ ap (positioned_by c.args.self.now.catalog.now (value_behind c.args.self.now.split)) c.in-InWindow.is in
    subst (λ (ps : Positioned). (row : Row) (behind : Positioned) → StandsAt ps c.args.at row behind → c.next_shown.result ≡ first_position behind) (sym is) c.next_shown.ensures

pub returns-in-InList : goal.returns-in-InList
returns-in-InList c =
    let is = c.rows_at.ensures ∙ ap (positioned_by c.args.self.now.catalog.now (value_behind c.args.self.now.split)) c.in-InList.is in
    subst (λ (ps : Positioned). (row : Row) (behind : Positioned) → StandsAt ps c.args.at row behind → c.next_listed.result ≡ first_position behind) (sym is) c.next_listed.ensures
