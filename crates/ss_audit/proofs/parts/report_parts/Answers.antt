use Rattle.std.proofs.Common.{◌≡◌, ◌∙◌, ◌-◌, ℕ, List, length, take, drop, Ok, sym, ap}
use Rattle.std.proofs.lemmas.Result.{err_from_is_err_and}
use Rattle.ss_lines.specs.declared.line.Line.{Line}
use Rattle.ss_model.specs.declared.catalog.TableDef.{TableDef}
use Rattle.ss_model.specs.Database.{empty_database}
use Rattle.ss_audit_laws.specs.Shape.{behind_entries, behind_tables, table_names}
use Rattle.ss_audit.specs.Lent.{names_of}
use Rattle.ss_audit.proofs.Naming.{names_shown, tables_many}
use Rattle.ss_audit.proofs.Splitting.{breaks_end, breaks_replies, breaks_so, breaks_tables, entries_dropped, entries_taken, entries_within, has_parts, replies_within}
use Rattle.ss_audit.proofs.parts.report_parts.Goals as goal

pub split_at-requires : goal.split_at-requires
split_at-requires c = rw c.in_ok-count.ensures (entries_within c.in_ok-rest.rest.now)

pub by_name-requires : goal.by_name-requires
by_name-requires c =
    ap (λ ts. length ts) c.tables.ensures ∙ tables_many c.args.catalog.now c.args.database.now (empty_database c.args.catalog.now) c.requires ∙ sym (ap (λ (ts : List TableDef). length ts) c.as_slice.ensures)

pub split_at-requires-2 : goal.split_at-requires-2
split_at-requires-2 c = (replies_within c.args.end c.args.requests.now c.args.lines.now c.in_ok-rest.rest.now c.in_ok-rest.ensures.ok)

pub returns-in_err-rest-clause-broken : goal.returns-in_err-rest-clause-broken
returns-in_err-rest-clause-broken c =
    let p = err_from_is_err_and c.from_residual.result c.from_residual.ensures.1 in
    rw (p.1, p.2) (breaks_replies c.args.catalog.now c.args.requests.now c.args.lines.now c.args.end _ c.in_err-rest.ensures.broken)

pub returns-in_err-lasts-clause-broken : goal.returns-in_err-lasts-clause-broken
returns-in_err-lasts-clause-broken c =
    let catalog = c.args.catalog.now in
    let rest = c.in_ok-rest.rest.now in
    let names = names_shown catalog c.args.database.now c.requires c.in_ok-named.named.entries (rw (c.as_slice.ensures, c.tables.ensures) at c.in_ok-named.ensures) in
    let behind = c.split_at.ensures.back ∙ ap (λ (n : ℕ). drop n rest) c.in_ok-count.ensures ∙ entries_dropped rest in
    let p = err_from_is_err_and c.from_residual-in_err-lasts.result c.from_residual-in_err-lasts.ensures.1 in
    rw (p.1, p.2)
    (breaks_tables catalog c.args.requests.now c.args.lines.now c.args.end rest c.in_ok-rest.ensures.ok _
    (breaks_so (behind_tables c.args.end (names_of c.in_ok-named.named) c.split_at.result.1.now) (behind_tables c.args.end (table_names catalog) (behind_entries rest)) _ (λ k. behind_tables c.args.end (names k) (behind k)) c.in_err-lasts.ensures.broken))

pub returns-in_err-last-clause-broken : goal.returns-in_err-last-clause-broken
returns-in_err-last-clause-broken c =
    let catalog = c.args.catalog.now in
    let rest = c.in_ok-rest.rest.now in
    let names = names_shown catalog c.args.database.now c.requires c.in_ok-named.named.entries (rw (c.as_slice.ensures, c.tables.ensures) at c.in_ok-named.ensures) in
    let behind = c.split_at.ensures.back ∙ ap (λ (n : ℕ). drop n rest) c.in_ok-count.ensures ∙ entries_dropped rest in
    let tables : behind_tables c.args.end (table_names catalog) (behind_entries rest) ≡ Ok c.in_ok-lasts.lasts.now = sym (λ k. behind_tables c.args.end (names k) (behind k)) ∙ c.in_ok-lasts.ensures.ok in
    let p = err_from_is_err_and c.from_residual-in_err-last.result c.from_residual-in_err-last.ensures.1 in
    rw (p.1, p.2) (breaks_end catalog c.args.requests.now c.args.lines.now c.args.end rest c.in_ok-rest.ensures.ok c.in_ok-lasts.lasts.now tables _ c.in_err-last.ensures.broken)

pub returns-clause-ok : goal.returns-clause-ok
returns-clause-ok c =
    let catalog = c.args.catalog.now in
    let requests = c.args.requests.now in
    let lines = c.args.lines.now in
    let rest = c.in_ok-rest.rest.now in
    let last = c.in_ok-last.last.now in
    let names = names_shown catalog c.args.database.now c.requires c.in_ok-named.named.entries (rw (c.as_slice.ensures, c.tables.ensures) at c.in_ok-named.ensures) in
    let behind = c.split_at.ensures.back ∙ ap (λ (n : ℕ). drop n rest) c.in_ok-count.ensures ∙ entries_dropped rest in
    let tables : behind_tables c.args.end (table_names catalog) (behind_entries rest) ≡ Ok c.in_ok-lasts.lasts.now = sym (λ k. behind_tables c.args.end (names k) (behind k)) ∙ c.in_ok-lasts.ensures.ok in
    let replies_are = sym (c.split_at-2.ensures.front) in
    let entries_are = sym (c.split_at.ensures.front ∙ ap (λ (n : ℕ). take n rest) c.in_ok-count.ensures ∙ entries_taken rest) in
    let but_one = c.saturating_sub-before_last.ensures in
    let tables_are = sym (c.split_at-3.ensures.front ∙ ap (λ (n : ℕ). take n c.split_at.result.1.now) but_one ∙ ap (λ (ls : List Line). take (length ls - 1) ls) behind) in
    has_parts catalog requests lines c.args.end rest c.in_ok-rest.ensures.ok c.in_ok-lasts.lasts.now tables last c.in_ok-last.ensures.ok
    ∙ (λ k. Ok (record { replies = replies_are k; entries = entries_are k; tables = tables_are k; last = last }))
