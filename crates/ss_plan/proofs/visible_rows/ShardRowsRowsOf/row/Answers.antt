use Rattle.std.proofs.Common.{◌≡◌, sym, ap, subst, ◌∙◌, Some}
use Rattle.std.specs.Option.{option_copied}
use Rattle.ss_value.specs.Rows.{Row}
use Rattle.ss_rows.specs.Sources.{Positioned, StandsAt}
use Rattle.ss_plan.specs.Seen.{positioned_by, value_behind}
use Rattle.ss_plan.proofs.Meant.{nothing_stands}
use Rattle.ss_plan.proofs.visible_rows.ShardRowsRowsOf.row.Goals as goal

pub returns-in-InTable-clause-some : goal.returns-in-InTable-clause-some
returns-in-InTable-clause-some c =
    let is = c.rows_at.ensures ∙ ap (positioned_by c.args.self.now.catalog.now (value_behind c.args.self.now.split)) c.in-InTable.is in
    subst (λ (ps : Positioned). (row : Row) (behind : Positioned) → StandsAt ps c.args.at row behind → option_copied c.seen_row.result ≡ Some row) (sym is) c.seen_row.ensures.some

pub returns-in-InWindow-clause-some : goal.returns-in-InWindow-clause-some
returns-in-InWindow-clause-some c =
    let is = c.rows_at.ensures ∙ ap (positioned_by c.args.self.now.catalog.now (value_behind c.args.self.now.split)) c.in-InWindow.is in
    subst (λ (ps : Positioned). (row : Row) (behind : Positioned) → StandsAt ps c.args.at row behind → option_copied c.shown_row.result ≡ Some row) (sym is) c.shown_row.ensures.some

pub returns-in-InList-clause-some : goal.returns-in-InList-clause-some
returns-in-InList-clause-some c =
    let is = c.rows_at.ensures ∙ ap (positioned_by c.args.self.now.catalog.now (value_behind c.args.self.now.split)) c.in-InList.is in
    subst (λ (ps : Positioned). (row : Row) (behind : Positioned) → StandsAt ps c.args.at row behind → option_copied c.listed_row.result ≡ Some row) (sym is) c.listed_row.ensures.some

pub returns-in-Nowhere-clause-some : goal.returns-in-Nowhere-clause-some
returns-in-Nowhere-clause-some c = λ row behind stands.
    let is = c.rows_at.ensures ∙ ap (positioned_by c.args.self.now.catalog.now (value_behind c.args.self.now.split)) c.in-Nowhere.is in
    absurd (nothing_stands _ c.args.at row behind is stands)
