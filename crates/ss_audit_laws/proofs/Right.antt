-- What an audit finds right is the report of a list.
use Rattle.std.proofs.Common.{◌≡◌, ◌∙◌, ◌&&◌, ℕ, List, [], ◌∷◌, ◌++◌, map, length, true, Option, Some, None, is_none, Result, Ok, Err, refl, sym, ap, subst, append_assoc}
use Rattle.std.proofs.lemmas.Bool.{and_parts}
use Rattle.serde_json.specs.Written.{compact_text}
use Rattle.ss_lines.specs.declared.line.Line.{Line}
use Rattle.ss_model.specs.declared.catalog.Catalog.{Catalog}
use Rattle.ss_model.specs.declared.entry.Listed.{Listed}
use Rattle.ss_model.specs.declared.entry.Request.{Request}
use Rattle.ss_model.specs.Accepted.{Accepted}
use Rattle.ss_model.specs.Database.{Database, empty_database}
use Rattle.ss_model.specs.InStep.{IsInStep, DatabasesStayInStep}
use Rattle.ss_model.specs.Orders.{ReplaysHaveOrders}
use Rattle.ss_model.specs.Replays.{after}
use Rattle.ss_model.specs.Report.{Report, Whole, asked_entries, report_text, reply_lines}
use Rattle.ss_model.specs.ReportLines.{list_lines, database_lines, done_line, lines_text}
use Rattle.ss_model.specs.Settled.{DrainedAtRest}
use Rattle.ss_model.specs.Settling.{Drained, next_settled}
use Rattle.ss_report_laws.proofs.SameIndices.{indices}
use Rattle.ss_audit_laws.specs.Shape.{OrLine, Parts, shape}
use Rattle.ss_audit_laws.specs.Checks.{says, all_say, called_replies, replayed, ends_well, Broken, checked, audited}
use Rattle.ss_audit_laws.specs.Valid.{bytes_of, IsValid}
use Rattle.ss_audit_laws.proofs.Texts.{AreTexts, chosen_ok, says_text, all_say-texts, bytes-texts, joined}
use Rattle.ss_audit_laws.proofs.Splits.{ArePartsOf, shape_whole}
use Rattle.ss_audit_laws.proofs.Told.{answer_in, all_answered, all_among, called_texts}
use Rattle.ss_audit_laws.proofs.Replayed.{IsRun, is_run, rising_from}

-- what a check lets through
passed : {A B : Type 0} (check : ℕ) (x : OrLine A) (f : A → Result B Broken) (b : B) → checked check x f ≡ Ok b → (a : A) × (x ≡ Ok a) × (f a ≡ Ok b)
passed check (Ok a) f b h = (a, refl, h)
passed check (Err line) f b h = absurd (cc)

no_step : (o : Option ℕ) → is_none o ≡ true → o ≡ None
no_step None h = refl
no_step (Some q) h = absurd (cc)

same_number : (m n : ℕ) → ◌≡◌ {A = Result ℕ Broken} (Ok m) (Ok n) → m ≡ n
same_number m n h = cc

-- what the laws of the model give
pub record Laws : Type 0 where
  pub orders : ReplaysHaveOrders
  pub in_step : DatabasesStayInStep
  pub rest : DrainedAtRest

-- a list with what an audit found of its lines
pub record IsFound (catalog : Catalog) (requests : List Request) (parts : Parts) : Type 0 where
  pub last : Database
  pub run : IsRun catalog requests (λ _. 0) (empty_database catalog) 0 parts.entries last
  pub replies : AreTexts (called_replies parts.entries [] requests) parts.replies
  pub tables : AreTexts (database_lines catalog last) parts.tables
  pub done : compact_text (done_line (length parts.entries)) ≡ parts.last.bytes
  pub at_rest : next_settled catalog last ≡ None

found : (catalog : Catalog) (requests : List Request) (end n : ℕ) (parts : Parts)
    → checked 2 (all_say end (called_replies parts.entries [] requests) parts.replies) (λ _.
    checked 3 (replayed catalog requests (λ _. 0) (empty_database catalog) 0 parts.entries) (λ db.
    checked 4 (all_say end (database_lines catalog db) parts.tables) (λ _.
    checked 5 (ends_well catalog db (length parts.entries) parts.last) (λ _.
    Ok (length parts.entries))))) ≡ Ok n
    → IsFound catalog requests parts × (length parts.entries ≡ n)
found catalog requests end n parts h =
    let two = passed 2 (all_say end (called_replies parts.entries [] requests) parts.replies) _ n h in
    let three = passed 3 (replayed catalog requests (λ _. 0) (empty_database catalog) 0 parts.entries) _ n two.2 in
    let four = passed 4 (all_say end (database_lines catalog three.0) parts.tables) _ n three.2 in
    let five = passed 5 (ends_well catalog three.0 (length parts.entries) parts.last) _ n four.2 in
    let ends = chosen_ok (says (done_line (length parts.entries)) parts.last && is_none (next_settled catalog three.0)) (Ok tt) parts.last.number five.0 five.1 in
    let both = and_parts (says (done_line (length parts.entries)) parts.last) (is_none (next_settled catalog three.0)) ends.0 in (
      record {
        last = three.0;
        run = is_run catalog requests (λ _. 0) (empty_database catalog) 0 parts.entries three.0 three.1;
        replies = all_say-texts end (called_replies parts.entries [] requests) parts.replies two.0 two.1;
        tables = all_say-texts end (database_lines catalog three.0) parts.tables four.0 four.1;
        done = says_text (done_line (length parts.entries)) parts.last both.0;
        at_rest = no_step (next_settled catalog three.0) both.1;
      },
      same_number (length parts.entries) n five.2,
    )

module _ (catalog : Catalog) (accepted : Accepted catalog) (laws : Laws) (requests : List Request) where
  -- the lines of the parts that an audit has found
  the_text : (lines : List Line) (parts : Parts) → ArePartsOf lines parts → (f : IsFound catalog requests parts)
      → bytes_of lines ≡ report_text catalog requests (map (answer_in (f.run).list) (asked_entries requests)) 0 (f.run).list (empty_database catalog) Whole
  the_text lines parts split f =
      let list = (f.run).list in
      let replies : AreTexts (reply_lines catalog requests (map (answer_in list) (asked_entries requests))) parts.replies =
      f.replies ∙ called_texts catalog requests list parts.entries (f.run).told (f.run).texts (f.run).asked [] requests (all_among (asked_entries requests)) in
      let tables : AreTexts (database_lines catalog (after catalog (empty_database catalog) list)) parts.tables =
      subst (λ (db : Database). AreTexts (database_lines catalog db) parts.tables) (sym (f.run).reached) f.tables in
      let done : AreTexts (done_line (length list) ∷ []) (parts.last ∷ []) =
      ap (λ (text : List ℕ). text ∷ []) (sym f.done ∙ ap (λ (n : ℕ). compact_text (done_line n)) (sym (f.run).many)) in
      let db = after catalog (empty_database catalog) list in
      let ending = database_lines catalog db ++ done_line (length list) ∷ [] in
      let told = reply_lines catalog requests (map (answer_in list) (asked_entries requests)) in
      let tail : AreTexts ending (parts.tables ++ parts.last ∷ []) = joined (database_lines catalog db) (done_line (length list) ∷ []) parts.tables (parts.last ∷ []) tables done in
      let behind : AreTexts (list_lines catalog 0 list ++ ending) (parts.entries ++ (parts.tables ++ parts.last ∷ [])) =
      joined (list_lines catalog 0 list) ending parts.entries (parts.tables ++ parts.last ∷ []) (f.run).texts tail in
      let all : AreTexts (told ++ (list_lines catalog 0 list ++ ending)) (parts.replies ++ (parts.entries ++ (parts.tables ++ parts.last ∷ []))) =
      joined told (list_lines catalog 0 list ++ ending) parts.replies (parts.entries ++ (parts.tables ++ parts.last ∷ [])) replies behind in
      ap bytes_of split ∙ bytes-texts (told ++ (list_lines catalog 0 list ++ ending)) (parts.replies ++ (parts.entries ++ (parts.tables ++ parts.last ∷ []))) all
      ∙ ap lines_text (sym (append_assoc told (list_lines catalog 0 list) ending))

  the_report : (lines : List Line) (parts : Parts) → ArePartsOf lines parts → (f : IsFound catalog requests parts)
      → Report catalog requests (empty_database catalog) 0 (f.run).list Whole (bytes_of lines)
  the_report lines parts split f = record {
    asked = (f.run).asked;
    in_turn = λ client. rising_from 0 (indices client (f.run).list) ((f.run).rising client);
    answers = map (answer_in (f.run).list) (asked_entries requests);
    answered = all_answered (f.run).list (asked_entries requests);
    text = the_text lines parts split f;
  }

  valid : (lines : List Line) (parts : Parts) → ArePartsOf lines parts → (f : IsFound catalog requests parts) → IsValid catalog requests (bytes_of lines) (f.run).list
  valid lines parts split f =
      let stays = laws.in_step catalog accepted.structure.streams.wired in
      let rest = laws.rest catalog accepted (f.last) (subst (IsInStep catalog) (f.run).reached (stays.along (empty_database catalog) (f.run).list stays.starts)) in
      record {
        report = the_report lines parts split f;
        replays = (f.run).replays;
        orders = laws.orders catalog (empty_database catalog) (f.run).list accepted.structure.streams.wired (stays.starts).matched (f.run).replays;
        drained = subst (Drained catalog) (sym (f.run).reached) ((rest.drained).1 ((rest.no_next).0 f.at_rest));
      }

  pub right : (lines : List Line) (end n : ℕ) → audited catalog requests lines end ≡ Ok n → (list : List Listed) × IsValid catalog requests (bytes_of lines) list × (length list ≡ n)
  right lines end n h =
      let one = passed 1 (shape catalog requests lines end) _ n h in
      let f = found catalog requests end n one.0 one.2 in
      ((f.0).run.list, valid lines one.0 (shape_whole catalog requests lines end one.0 one.1) f.0, (f.0).run.many ∙ f.1)
