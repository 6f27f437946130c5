-- Entries that run where their lines stand.
use Rattle.std.proofs.Common.{◌≡◌, ◌∙◌, ◌+◌, ℕ, List, [], ◌∷◌, Bool, true, false, cond, Option, Some, None, option_map, option_and_then, Err, sym, ap, subst}
use Rattle.serde_json.specs.Data.{Data}
use Rattle.ss_lines.specs.declared.line.Line.{Line}
use Rattle.ss_model.specs.declared.catalog.Catalog.{Catalog}
use Rattle.ss_model.specs.declared.entry.Entry.{Entry}
use Rattle.ss_model.specs.declared.entry.Outcome.{Outcome}
use Rattle.ss_model.specs.declared.entry.Request.{Request}
use Rattle.ss_model.specs.Accepted.{Accepted}
use Rattle.ss_model.specs.Database.{Database as Model, empty_database}
use Rattle.ss_model.specs.Replays.{database_after, entry_outcome}
use Rattle.ss_model.specs.ReportLines.{entry_line}
use Rattle.ss_shard.specs.declared.database.Database.{Database}
use Rattle.ss_shard.specs.Databases.{StandsFor}
use Rattle.ss_report_lines.specs.Kinds.{kind_of}
use Rattle.ss_report_lines.specs.Said.{said}
use Rattle.ss_replay.specs.Replaying.{IsOnAt}
use Rattle.ss_replay.proofs.CallerLemmas.{stands_behind}
use Rattle.ss_audit_laws.specs.Shape.{OrLine, line_kind}
use Rattle.ss_audit_laws.specs.Checks.{Turns, entry_at, go_on, meant, outcome_of, printed_as, replayed, says, turns_behind}
use Rattle.ss_audit.specs.declared.broken.Broken.{Broken}
use Rattle.ss_audit.specs.declared.broken.Broken.TheVariants.{NoMemory, Line as LineOf}
use Rattle.ss_audit.specs.declared.entries.Behind.{Behind}
use Rattle.ss_audit.specs.Breaks.{BreaksAs}
use Rattle.ss_audit.specs.Clients.{number_of}
use Rattle.ss_audit.specs.Running.{HasOutcome, HasRun, IsLeft, NoEntryAs, RanAs}

-- an entry has run, and one place more is taken
pub has_run : (catalog : Catalog) → Accepted catalog → (d : Model) (place : ℕ) (old new : Database) (e : Entry) (o : Outcome) → IsOnAt catalog old place d
    → entry_outcome catalog d e ≡ Some o → StandsFor catalog new (database_after catalog d e) → HasOutcome catalog d place e new (Some o)
has_run catalog accepted d place old new e o on is stands =
    (is, stands_behind catalog accepted old new place d (record { entry = e; outcome = o } ∷ []) on (record { replays = (is, tt); stands = stands }))

-- ---- one line

module _ (catalog : Catalog) (requests : List Request) (turns : Turns) (l : Line) where
  -- a line that says nothing is about nothing
  pub means_nothing : said l.bytes ≡ None → meant catalog requests turns l (line_kind l) ≡ None
  means_nothing h = ap (λ (o : Option Data). meant catalog requests turns l (option_and_then kind_of o)) h

  -- what comes of a line is what comes of its entry
  pub entry_so : (d : Model) (place : ℕ) (m : Option Entry) → meant catalog requests turns l (line_kind l) ≡ m → entry_at catalog requests turns d place l ≡ printed_as catalog place l (outcome_of catalog d m)
  entry_so d place m means = ap (λ (m : Option Entry). printed_as catalog place l (outcome_of catalog d m)) means

module _ (catalog : Catalog) (d : Model) (place : ℕ) (l : Line) (e : Entry) (new : Database) where
  -- the entry has no outcome
  pub runs_nothing : entry_outcome catalog d e ≡ None → RanAs catalog d place e l new false
  runs_nothing none = ap (λ (o : Option Outcome). printed_as catalog place l (option_map (λ o. (e, o)) o)) none

  -- it has one, and the line says so or not
  pub prints : (o : Outcome) (is : Bool) → HasOutcome catalog d place e new (Some o) → is ≡ says (entry_line catalog place o e) l → RanAs catalog d place e l new is
  prints o false ran same =
      ap (λ (o : Option Outcome). printed_as catalog place l (option_map (λ o. (e, o)) o)) ran.0
      ∙ ap (λ b. cond b (Some e) None) (sym same)
  prints o true ran same = (
    ap (λ (o : Option Outcome). printed_as catalog place l (option_map (λ o. (e, o)) o)) ran.0
        ∙ ap (λ b. cond b (Some e) None) (sym same),
    ran.1,
  )

-- ---- all lines

module _ (catalog : Catalog) (requests : List Request) (lines : List Line) where
  abbrev rest_of : Turns → Model → ℕ → Line → List Line → Entry → OrLine Model
  rest_of turns d place l ls e = replayed catalog requests (turns_behind turns (line_kind l)) (database_after catalog d e) (place + 1) ls

  -- one line less is left
  pub one_less : (old new : Behind) (place : ℕ) (l : Line) (ls : List Line) (left : IsLeft catalog requests lines old place (l ∷ ls)) → HasRun catalog requests left.d place l old new → IsLeft catalog requests lines new (place + 1) ls
  one_less old new place l ls left run = record {
    d = database_after catalog left.d run.entry;
    on = run.on;
    same =
        ap (λ (turns : Turns). replayed catalog requests turns (database_after catalog left.d run.entry) (place + 1) ls) run.turns
        ∙ sym (ap (λ (o : Option Entry). go_on l.number o (rest_of (number_of old.turns) left.d place l ls)) run.is)
        ∙ left.same;
  }

  stops : (turns : Turns) (d : Model) (place : ℕ) (l : Line) (ls : List Line) (e : Broken) → NoEntryAs (entry_at catalog requests turns d place l) l.number e → BreaksAs (replayed catalog requests turns d place (l ∷ ls)) e
  stops turns d place l ls NoMemory h = tt
  stops turns d place l ls (LineOf n) h =
      ap (λ (o : Option Entry). go_on l.number o (rest_of turns d place l ls)) h.0 ∙ ap (λ m. Err m) (sym h.1)

  -- and one that breaks the check stops all
  pub stops_there : (old : Behind) (place : ℕ) (l : Line) (ls : List Line) (left : IsLeft catalog requests lines old place (l ∷ ls)) (e : Broken)
      → NoEntryAs (entry_at catalog requests (number_of old.turns) left.d place l) l.number e → BreaksAs (replayed catalog requests (λ _. 0) (empty_database catalog) 0 lines) e
  stops_there old place l ls left e h = subst (λ (o : OrLine Model). BreaksAs o e) left.same (stops (number_of old.turns) left.d place l ls e h)
