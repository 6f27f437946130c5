-- A report that is right is found right.
use Rattle.std.proofs.Common.{◌≡◌, ◌∙◌, ◌&&◌, ◌-◌, ℕ, List, [], ◌∷◌, ◌++◌, suc, map, length, take, true, cond, Option, Some, None, is_none, Ok, Err, refl, sym, ap, subst, append_assoc}
use Rattle.std.specs.Prelude.{⊤}
use Rattle.std.specs.List.{AllByRecursion}
use Rattle.std.specs.FinMap as finmap
use Rattle.std.proofs.Math.Seq.{take-append_seam}
use Rattle.std.proofs.lemmas.List.{append_cancel_right, length-map, map-append}
use Rattle.serde_json.specs.Data.{Data}
use Rattle.serde_json.specs.Written.{compact_text}
use Rattle.ss_lemmas.proofs.Bools.{first_of_two, second_of_two}
use Rattle.ss_lines.specs.declared.line.Line.{Line}
use Rattle.ss_lines.specs.Json.{ReadsBack}
use Rattle.ss_model.specs.declared.catalog.Catalog.{Catalog}
use Rattle.ss_model.specs.declared.catalog.TableDef.{TableDef}
use Rattle.ss_model.specs.declared.entry.Answer.{Answer}
use Rattle.ss_model.specs.declared.entry.Answer.TheVariants.{Listed as ListedAnswer, NoMemory, ListFull, Halted}
use Rattle.ss_model.specs.declared.entry.Entry.{Entry}
use Rattle.ss_model.specs.declared.entry.Listed.{Listed}
use Rattle.ss_model.specs.declared.entry.Outcome.{Outcome}
use Rattle.ss_model.specs.declared.entry.Request.{Request}
use Rattle.ss_model.specs.Accepted.{Accepted}
use Rattle.ss_model.specs.CatalogForm.{all_distinct, has_distinct_names}
use Rattle.ss_model.specs.Contents.{Table}
use Rattle.ss_model.specs.Database.{Database, empty_database}
use Rattle.ss_model.specs.InStep.{DatabasesStayInStep}
use Rattle.ss_model.specs.Replays.{after}
use Rattle.ss_model.specs.Report.{asked_entries, entries_behind, find_listed, IsAnswer, AreAnswers, Unlisted, Whole, reply_lines, end_lines, report_text}
use Rattle.ss_model.specs.ReportLines.{list_lines, database_lines, tables_by_name, done_line, lines_text}
use Rattle.ss_model.specs.Settled.{DrainedAtRest}
use Rattle.ss_model.specs.Settling.{next_settled}
use Rattle.ss_model.specs.WholeDatabase.{WholeDatabasesStay}
use Rattle.ss_report_laws.proofs.Lines.{texts, same_lines}
use Rattle.ss_report_laws.proofs.SameIndices.{indices}
use Rattle.ss_audit_laws.specs.Shape.{OrLine, ◌>>=◌, behind_replies, behind_tables, the_end, behind_entries, table_names, Parts, parts_of, shape}
use Rattle.ss_audit_laws.specs.Checks.{says, all_say, called_replies, replayed, ends_well, checked, audited}
use Rattle.ss_audit_laws.specs.Valid.{bytes_of, AreLines, IsReadable, IsValid}
use Rattle.ss_audit_laws.proofs.Texts.{AreTexts, text_says, texts-all_say}
use Rattle.ss_audit_laws.proofs.Splits.{but_last}
use Rattle.ss_audit_laws.proofs.Told.{answer_in, found_answer, all_among, called_texts}
use Rattle.ss_audit_laws.proofs.Passing.{cut_at, same_texts, all_left, all_right, replies_pass, entries_pass, tables_pass, end_pass, no_entry}
use Rattle.ss_audit_laws.proofs.Names.{same_names}
use Rattle.ss_audit_laws.proofs.Meaning.{byte_clients, rises, runs_through}

-- what the laws of the model give
pub record Laws : Type 0 where
  pub in_step : DatabasesStayInStep
  pub rest : DrainedAtRest
  pub whole : WholeDatabasesStay

-- ---- answers

answer_is : (o : Option (ℕ × Outcome)) (a : Answer) → IsAnswer (Unlisted Whole) o a → a ≡ found_answer o
answer_is None (ListedAnswer place outcome) h = absurd h
answer_is None NoMemory h = refl
answer_is None (ListFull n) h = absurd h
answer_is None (Halted faults) h = absurd h
answer_is (Some found) a h = h

answers_are : (list : List Listed) (es : List Entry) (answers : List Answer) → AreAnswers (Unlisted Whole) 0 list es answers → answers ≡ map (answer_in list) es
answers_are list [] [] h = refl
answers_are list [] (a ∷ answers) h = absurd h
answers_are list (e ∷ es) [] h = absurd h
answers_are list (e ∷ es) (a ∷ answers) h = λ i. answer_is (find_listed 0 e list) a h.0 i ∷ answers_are list es answers h.1 i

names_once : (catalog : Catalog) → Accepted catalog → all_distinct (map (λ d. d.name) catalog.procedures) ≡ true
names_once catalog accepted =
    let names : has_distinct_names catalog ≡ true = first_of_two _ _ (first_of_two _ _ (first_of_two _ _ (first_of_two _ _ (first_of_two _ _ (first_of_two _ _ accepted.form))))) in
    second_of_two _ _ (first_of_two _ _ (first_of_two _ _ (first_of_two _ _ (first_of_two _ _ names))))

-- so there is a reply to each request
replies_many : (catalog : Catalog) (list : List Listed) (earlier rs : List Request) (answers : List Answer) → AreAnswers (Unlisted Whole) 0 list (entries_behind earlier rs) answers
    → length (reply_lines catalog rs answers) ≡ length rs
replies_many catalog list earlier [] answers h = refl
replies_many catalog list earlier (r ∷ rs) [] h = absurd h
replies_many catalog list earlier (r ∷ rs) (a ∷ answers) h = ap suc (replies_many catalog list (earlier ++ r ∷ []) rs answers h.1)

-- lines before the same ones have the same texts, where all have
same_before : (xs ys zs : List Data) → texts (xs ++ zs) ≡ texts (ys ++ zs) → texts xs ≡ texts ys
same_before xs ys zs e = append_cancel_right (texts xs) (texts ys) (texts zs) (sym (map-append compact_text xs zs) ∙ e ∙ map-append compact_text ys zs)

-- replies in reports of one list with the same bytes have the same texts
same_replies : (catalog : Catalog) (requests : List Request) (answers others : List Answer) (list : List Listed) (db : Database)
    → report_text catalog requests answers 0 list db Whole ≡ report_text catalog requests others 0 list db Whole
    → texts (reply_lines catalog requests answers) ≡ texts (reply_lines catalog requests others)
same_replies catalog requests answers others list db e =
    let one = reply_lines catalog requests answers in
    let two = reply_lines catalog requests others in
    let entries = list_lines catalog 0 list in
    let ends = end_lines catalog db list Whole in
    same_before one two entries (same_before (one ++ entries) (two ++ entries) ends (same_lines (one ++ entries ++ ends) (two ++ entries ++ ends) e))

-- ---- the parts

-- the parts of a report's lines, each the text of what it is
pub record AreParts (catalog : Catalog) (requests : List Request) (answers : List Answer) (list : List Listed) (db : Database) (lines : List Line) : Type 0 where
  pub replies : List Line
  pub entries : List Line
  pub tables : List Line
  pub last : Line
  pub whole : lines ≡ replies ++ (entries ++ (tables ++ last ∷ []))
  pub replies_are : AreTexts (reply_lines catalog requests answers) replies
  pub entries_are : AreTexts (list_lines catalog 0 list) entries
  pub tables_are : AreTexts (database_lines catalog db) tables
  pub last_is : last.bytes ≡ compact_text (done_line (length list))

one_line : (d : Data) (ls : List Line) → AreTexts (d ∷ []) ls → (l : Line) × (ls ≡ l ∷ []) × (l.bytes ≡ compact_text d)
one_line d [] h = absurd (cc)
one_line d (l ∷ []) h = let text : l.bytes ≡ compact_text d = cc in (l, refl, text)
one_line d (l ∷ m ∷ ls) h = absurd (cc)

the_parts : (catalog : Catalog) (requests : List Request) (answers : List Answer) (list : List Listed) (db : Database) (lines : List Line)
    → AreTexts (reply_lines catalog requests answers ++ (list_lines catalog 0 list ++ (database_lines catalog db ++ done_line (length list) ∷ []))) lines → AreParts catalog requests answers list db lines
the_parts catalog requests answers list db lines h =
    let a = cut_at (reply_lines catalog requests answers) (list_lines catalog 0 list ++ (database_lines catalog db ++ done_line (length list) ∷ [])) lines h in
    let b = cut_at (list_lines catalog 0 list) (database_lines catalog db ++ done_line (length list) ∷ []) a.back a.second in
    let c = cut_at (database_lines catalog db) (done_line (length list) ∷ []) b.back b.second in
    let d = one_line (done_line (length list)) c.back c.second in
    record {
      replies = a.front;
      entries = b.front;
      tables = c.front;
      last = d.0;
      whole = a.whole ∙ ap (λ (ms : List Line). a.front ++ ms) (b.whole ∙ ap (λ (ms : List Line). b.front ++ ms) (c.whole ∙ ap (λ (ms : List Line). c.front ++ ms) d.1));
      replies_are = a.first;
      entries_are = b.first;
      tables_are = c.first;
      last_is = d.2;
    }

-- each of these is read as itself
pub record AreRead (catalog : Catalog) (requests : List Request) (answers : List Answer) (list : List Listed) (db : Database) : Type 0 where
  pub replies : AllByRecursion ReadsBack (reply_lines catalog requests answers)
  pub entries : AllByRecursion ReadsBack (list_lines catalog 0 list)
  pub tables : AllByRecursion ReadsBack (database_lines catalog db)
  pub last : ReadsBack (done_line (length list))

all_read : (catalog : Catalog) (requests : List Request) (answers : List Answer) (list : List Listed) (db : Database)
    → AllByRecursion ReadsBack (reply_lines catalog requests answers ++ (list_lines catalog 0 list ++ (database_lines catalog db ++ done_line (length list) ∷ []))) → AreRead catalog requests answers list db
all_read catalog requests answers list db h =
    let b = all_right (reply_lines catalog requests answers) (list_lines catalog 0 list ++ (database_lines catalog db ++ done_line (length list) ∷ [])) h in
    let c = all_right (list_lines catalog 0 list) (database_lines catalog db ++ done_line (length list) ∷ []) b in
    record {
      replies = all_left (reply_lines catalog requests answers) (list_lines catalog 0 list ++ (database_lines catalog db ++ done_line (length list) ∷ [])) h;
      entries = all_left (list_lines catalog 0 list) (database_lines catalog db ++ done_line (length list) ∷ []) b;
      tables = all_left (database_lines catalog db) (done_line (length list) ∷ []) c;
      last = (all_right (database_lines catalog db) (done_line (length list) ∷ []) c).0;
    }

module _ (catalog : Catalog) (accepted : Accepted catalog) (laws : Laws) (requests : List Request) (lines : List Line) (end : ℕ) (list : List Listed) (valid : IsValid catalog requests (bytes_of lines) list) where
  -- the names of the tables are those of the last database's
  names : table_names catalog ≡ map (λ (t : TableDef × Table). t.0.name) (finmap.values (tables_by_name catalog.tables (after catalog (empty_database catalog) list).contents.tables))
  names =
      let stays = laws.whole catalog accepted in
      let first = (stays.starts).contents.table_count in
      let last = (stays.along (empty_database catalog) list stays.starts).contents.table_count in
      same_names catalog.tables (empty_database catalog).contents.tables (after catalog (empty_database catalog) list).contents.tables (first ∙ sym last)

  shape_is : (answers : List Answer) → length (reply_lines catalog requests answers) ≡ length requests
      → (parts : AreParts catalog requests answers list (after catalog (empty_database catalog) list) lines) → AreRead catalog requests answers list (after catalog (empty_database catalog) list)
      → shape catalog requests lines end ≡ Ok (record { replies = parts.replies; entries = parts.entries; tables = parts.tables; last = parts.last })
  shape_is answers many parts read =
      let db = after catalog (empty_database catalog) list in
      let ts = finmap.values (tables_by_name catalog.tables db.contents.tables) in
      let tail = parts.tables ++ parts.last ∷ [] in
      let rest = parts.entries ++ tail in
      let r = replies_pass end catalog requests answers parts.replies rest many parts.replies_are read.replies in
      let none = no_entry ts parts.tables (length list) parts.last parts.tables_are read.tables read.last parts.last_is in
      let e = entries_pass catalog 0 list parts.entries tail parts.entries_are read.entries (byte_clients catalog (empty_database catalog) list valid.replays) none in
      let t = tables_pass end ts parts.tables (parts.last ∷ []) parts.tables_are read.tables in
      let l = end_pass end (length list) parts.last read.last parts.last_is in
      let behind = λ (ms : List Line) (ns : List (List ℕ)).
      behind_tables end ns (behind_entries ms) >>= λ lasts. the_end end lasts >>= λ last. Ok (parts_of (length requests) lines ms last) in
      let replies : take (length requests) lines ≡ parts.replies =
      ap (take (length requests)) parts.whole ∙ ap (λ n. take n (parts.replies ++ rest)) (sym r.1) ∙ take-append_seam parts.replies rest in
      let tables : take (length (behind_entries rest) - 1) (behind_entries rest) ≡ parts.tables =
      ap (λ (ms : List Line). take (length ms - 1) ms) e.1 ∙ but_last parts.tables parts.last tail refl in
      ap (λ (ms : List Line). behind_replies end requests ms >>= λ x. behind x (table_names catalog)) parts.whole
      ∙ ap (λ (o : OrLine (List Line)). o >>= λ x. behind x (table_names catalog)) r.0
      ∙ ap (behind rest) names
      ∙ ap (λ (ms : List Line). behind_tables end (map (λ (t : TableDef × Table). t.0.name) ts) ms >>= λ lasts. the_end end lasts >>= λ last. Ok (parts_of (length requests) lines rest last)) e.1
      ∙ ap (λ (o : OrLine (List Line)). o >>= λ lasts. the_end end lasts >>= λ last. Ok (parts_of (length requests) lines rest last)) t
      ∙ ap (λ (o : OrLine Line). o >>= λ last. Ok (parts_of (length requests) lines rest last)) l
      ∙ (λ i. Ok (record { replies = replies i; entries = e.0 i; tables = tables i; last = parts.last }))

  at_rest : next_settled catalog (after catalog (empty_database catalog) list) ≡ None
  at_rest =
      let stays = laws.in_step catalog accepted.structure.streams.wired in
      let rest = laws.rest catalog accepted (after catalog (empty_database catalog) list) (stays.along (empty_database catalog) list stays.starts) in
      (rest.no_next).1 ((rest.drained).0 valid.drained)

  -- where these answers make up the bytes, and each of their lines is read as what it says
  pub printed_right : AreLines lines → (answers : List Answer) → bytes_of lines ≡ report_text catalog requests answers 0 list (empty_database catalog) Whole
      → IsReadable catalog requests answers list → audited catalog requests lines end ≡ Ok (length list)
  printed_right one answers written readable =
      let db = after catalog (empty_database catalog) list in
      let own = (valid.report).answers in
      let alike = same_replies catalog requests answers own list (empty_database catalog) (sym written ∙ (valid.report).text) in
      let many = sym (length-map (reply_lines catalog requests answers) compact_text) ∙ ap length alike
      ∙ length-map (reply_lines catalog requests own) compact_text ∙ replies_many catalog list [] requests own (valid.report).answered in
      let told : AreTexts (reply_lines catalog requests answers ++ (list_lines catalog 0 list ++ (database_lines catalog db ++ done_line (length list) ∷ []))) lines =
      same_texts (reply_lines catalog requests answers ++ (list_lines catalog 0 list ++ (database_lines catalog db ++ done_line (length list) ∷ []))) lines one
      (written ∙ ap lines_text (append_assoc (reply_lines catalog requests answers) (list_lines catalog 0 list) (database_lines catalog db ++ done_line (length list) ∷ []))) in
      let parts = the_parts catalog requests answers list db lines told in
      let read = all_read catalog requests answers list db
      (subst (AllByRecursion ReadsBack) (append_assoc (reply_lines catalog requests answers) (list_lines catalog 0 list) (database_lines catalog db ++ done_line (length list) ∷ [])) readable) in
      let run = runs_through catalog requests (names_once catalog accepted) (λ _. 0) (empty_database catalog) 0 list parts.entries parts.entries_are read.entries (valid.report).asked
      (λ client. rises (indices client list) ((valid.report).in_turn client)) valid.replays in
      let called : AreTexts (called_replies parts.entries [] requests) parts.replies =
      parts.replies_are ∙ alike ∙ ap (λ (xs : List Answer). map compact_text (reply_lines catalog requests xs)) (answers_are list (asked_entries requests) own (valid.report).answered)
      ∙ sym (called_texts catalog requests list parts.entries run.told parts.entries_are (valid.report).asked [] requests (all_among (asked_entries requests))) in
      let p : Parts = record { replies = parts.replies; entries = parts.entries; tables = parts.tables; last = parts.last } in
      let done : (says (done_line (length parts.entries)) parts.last && is_none (next_settled catalog db)) ≡ true =
      (λ i. says (done_line (sym run.many i)) parts.last && is_none (at_rest i)) ∙ ap (λ b. b && true) (text_says (done_line (length list)) parts.last parts.last_is) in
      ap (λ (o : OrLine Parts). checked 1 o (λ q.
      checked 2 (all_say end (called_replies q.entries [] requests) q.replies) (λ _.
      checked 3 (replayed catalog requests (λ _. 0) (empty_database catalog) 0 q.entries) (λ x.
      checked 4 (all_say end (database_lines catalog x) q.tables) (λ _.
      checked 5 (ends_well catalog x (length q.entries) q.last) (λ _. Ok (length q.entries))))))) (shape_is answers many parts read)
      ∙ ap (λ (o : OrLine ⊤). checked 2 o (λ _.
      checked 3 (replayed catalog requests (λ _. 0) (empty_database catalog) 0 parts.entries) (λ x.
      checked 4 (all_say end (database_lines catalog x) parts.tables) (λ _.
      checked 5 (ends_well catalog x (length parts.entries) parts.last) (λ _. Ok (length parts.entries)))))) (texts-all_say end (called_replies parts.entries [] requests) parts.replies called)
      ∙ ap (λ (o : OrLine Database). checked 3 o (λ x.
      checked 4 (all_say end (database_lines catalog x) parts.tables) (λ _.
      checked 5 (ends_well catalog x (length parts.entries) parts.last) (λ _. Ok (length parts.entries))))) run.replayed_so
      ∙ ap (λ (o : OrLine ⊤). checked 4 o (λ _.
      checked 5 (ends_well catalog db (length parts.entries) parts.last) (λ _. Ok (length parts.entries)))) (texts-all_say end (database_lines catalog db) parts.tables parts.tables_are)
      ∙ ap (λ b. checked 5 (cond {A = OrLine ⊤} b (Ok tt) (Err parts.last.number)) (λ _. Ok (length parts.entries))) done
      ∙ ap Ok (sym run.many)

  pub right : AreLines lines → IsReadable catalog requests (valid.report).answers list → audited catalog requests lines end ≡ Ok (length list)
  right one readable = printed_right one (valid.report).answers (valid.report).text readable
