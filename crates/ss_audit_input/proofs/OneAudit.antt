-- An input with a script and a report isn't refused.
use Rattle.std.proofs.Common.{◌≡◌, ◌⊎◌, ◌∙◌, ◌≤◌, ◌<◌, ℕ, true, false, List, [], ◌∷◌, ◌++◌, length, Ok, Err, sym, subst, inl, inr, arith}
use Rattle.std.specs.Prelude.{IfSome, slice_get}
use Rattle.std.specs.List.{AllByRecursion}
use Rattle.std.proofs.lemmas.Bool.{false≢true}
use Rattle.serde_json.specs.Data.{Data, Items, array}
use Rattle.ss_lines.specs.declared.line.Line.{Line}
use Rattle.ss_lines.specs.declared.line.LineError.TheVariants as cause
use Rattle.ss_lines.specs.Json.{value_at}
use Rattle.ss_lines.specs.Lines.{lines_of, max_input}
use Rattle.ss_model.specs.declared.catalog.Catalog.{Catalog}
use Rattle.ss_model.specs.declared.entry.Request.{Request}
use Rattle.ss_catalog.proofs.CallerLemmas.{ok_same}
use Rattle.ss_catalog_requests.specs.declared.request.RequestError.TheVariants.{Shape}
use Rattle.ss_catalog_requests.specs.declared.request.SaidRequest.{SaidRequest}
use Rattle.ss_catalog_requests.specs.Requests.{said_of}
use Rattle.ss_catalog_requests.specs.Answers.{Asks}
use Rattle.ss_refusals.specs.declared.input.InputError.{InputError}
use Rattle.ss_refusals.specs.declared.input.InputError.TheVariants.{Line as OfLine, NoCatalog, Catalog as OfCatalog, Request as OfRequest}
use Rattle.ss_refusals.specs.Inputs.{says_nothing}
use Rattle.ss_refusals.specs.Starts.{AsksFor, AskInOrder, SaysCatalog}
use Rattle.ss_refusals.proofs.CallerLemmas.{InputLaws, first_is_fine, has_value, later_is_fine, one_said, silent}
use Rattle.ss_audit_input.specs.Audits.{AreOfReport, AreScript, AuditLines, Audits, BeginsReport, HasValue}
use Rattle.ss_audit_input.specs.Refused.{IsRefusedAudit, RefusesAsked, RefusesAudit, RefusesBehindScript, RefusesReport, RefusesScript}

-- ---- one line

-- an array is no request
array_says_none : (catalog : Catalog) (line : ℕ) (items : Items) (said : SaidRequest) → said_of catalog line (array items) ≡ Ok said → ⊥
unfolding said_of
array_says_none catalog line items said e = let wrong : Err (Shape line) ≡ Ok said = e in cc

-- so a line doesn't ask and begin a report at once
asks_or_begins : (catalog : Catalog) (l : Line) (r : Request) → AsksFor catalog l r → BeginsReport l → ⊥
asks_or_begins catalog l r asks begins =
    let said = subst (λ (d : Data). Asks catalog l.number d r) (ok_same (value_at l) asks.value (array begins.items) asks.json begins.json) asks.asks in
    array_says_none catalog l.number begins.items said.0 said.1

-- a line of a script that asks isn't refused
asked_is_fine : InputLaws → (catalog : Catalog) (l : Line) (r : Request) (e : InputError) → AsksFor catalog l r → says_nothing e ≡ false → RefusesAsked catalog l e → ⊥
asked_is_fine laws catalog l r (OfLine e) asks says h = later_is_fine laws catalog l r (OfLine e) asks says h
asked_is_fine laws catalog l r (OfRequest e) asks says h = later_is_fine laws catalog l r (OfRequest e) asks says h.0
asked_is_fine laws catalog l r NoCatalog asks says h = h
asked_is_fine laws catalog l r (OfCatalog n e) asks says h = h

-- nor is one that begins a report
begins_is_fine : (catalog : Catalog) (l : Line) (e : InputError) → BeginsReport l → says_nothing e ≡ false → RefusesAsked catalog l e → ⊥
begins_is_fine catalog l (OfLine e) begins says h = has_value l (array begins.items) e begins.json says h
begins_is_fine catalog l (OfRequest e) begins says h = h.1 begins
begins_is_fine catalog l NoCatalog begins says h = h
begins_is_fine catalog l (OfCatalog n e) begins says h = h

-- ---- scripts

abbrev Begins : List Line → Type 0
Begins report = IfSome (slice_get report 0) BeginsReport

-- what the first of lines that ask asks for
first_asks : (catalog : Catalog) (l : Line) (ls : List Line) (rs : List Request) → AskInOrder catalog (l ∷ ls) rs → (r : Request) × AsksFor catalog l r
first_asks catalog l ls [] all = absurd all
first_asks catalog l ls (r ∷ rs) all = (r, all.0)

others_ask : (catalog : Catalog) (l : Line) (ls : List Line) (rs : List Request) → AskInOrder catalog (l ∷ ls) rs → (others : List Request) × AskInOrder catalog ls others
others_ask catalog l ls [] all = absurd all
others_ask catalog l ls (r ∷ rs) all = (rs, all.1)

-- the first that asks doesn't begin the report
first_not_told : (catalog : Catalog) (x : Line) (xs report : List Line) (ys : List Line) (rs : List Request) → report ≡ x ∷ ys → Begins report → AskInOrder catalog (x ∷ xs) rs → ⊥
first_not_told catalog x xs report ys rs is begins all =
    let first = first_asks catalog x xs rs all in
    asks_or_begins catalog x first.0 first.1 (subst Begins is begins)

-- no line of a script is refused, up to the report and the line that begins it
script_fine : InputLaws → (catalog : Catalog) (before : List Line) (l : Line) (behind script report : List Line) (xs rs : List Request) (e : InputError) → before ++ l ∷ behind ≡ script ++ report
    → AskInOrder catalog before xs → AskInOrder catalog script rs → Begins report → says_nothing e ≡ false → RefusesAsked catalog l e → ⊥
script_fine laws catalog [] l behind [] report xs rs e parts a b begins says h = begins_is_fine catalog l e (subst Begins (sym parts) begins) says h
script_fine laws catalog [] l behind (y ∷ ys) report xs rs e parts a b begins says h =
    let same : l ≡ y = cc in
    let first = first_asks catalog y ys rs b in
    asked_is_fine laws catalog y first.0 e first.1 says (subst (λ (x : Line). RefusesAsked catalog x e) same h)
script_fine laws catalog (x ∷ before) l behind [] report xs rs e parts a b begins says h = first_not_told catalog x before report (before ++ l ∷ behind) xs (sym parts) begins a
script_fine laws catalog (x ∷ before) l behind (y ∷ ys) report xs rs e parts a b begins says h =
    let rest : before ++ l ∷ behind ≡ ys ++ report = cc in
    let first = others_ask catalog x before xs a in
    let second = others_ask catalog y ys rs b in
    script_fine laws catalog before l behind ys report first.0 second.0 e rest first.1 second.1 begins says h

-- lines have one report
one_report : (catalog : Catalog) (script other report told : List Line) (xs rs : List Request) → script ++ report ≡ other ++ told
    → AskInOrder catalog script xs → AskInOrder catalog other rs → Begins report → Begins told → report ≡ told
one_report catalog [] [] report told xs rs parts a b begins tells = parts
one_report catalog [] (y ∷ ys) report told xs rs parts a b begins tells = absurd (first_not_told catalog y ys report (ys ++ told) rs parts begins b)
one_report catalog (x ∷ script) [] report told xs rs parts a b begins tells = absurd (first_not_told catalog x script told (script ++ report) xs (sym parts) tells a)
one_report catalog (x ∷ script) (y ∷ ys) report told xs rs parts a b begins tells =
    let rest : script ++ report ≡ ys ++ told = cc in
    let first = others_ask catalog x script xs a in
    let second = others_ask catalog y ys rs b in
    one_report catalog script ys report told first.0 second.0 rest first.1 second.1 begins tells

-- ---- reports

value_there : (before : List Line) (l : Line) (behind : List Line) → AllByRecursion HasValue (before ++ l ∷ behind) → HasValue l
value_there [] l behind all = all.0
value_there (x ∷ before) l behind all = value_there before l behind all.1

-- where each line has a value none is refused
report_fine : (ls : List Line) (e : InputError) → AllByRecursion HasValue ls → says_nothing e ≡ false → RefusesReport ls e → ⊥
report_fine ls (OfLine e) all says h =
    let has = value_there h.before h.line h.behind (subst (λ (xs : List Line). AllByRecursion HasValue xs) h.parts all) in
    has_value h.line has.value e has.json says h.refused
report_fine ls NoCatalog all says h = h.refused
report_fine ls (OfCatalog n e) all says h = h.refused
report_fine ls (OfRequest e) all says h = h.refused

-- ---- inputs

module _ (laws : InputLaws) (catalog : Catalog) (requests : List Request) (report : List Line) where
  -- neither the script nor the report is refused
  behind_fine : (rest : List Line) (e : InputError) → AreScript catalog rest requests report → AreOfReport report → says_nothing e ≡ false → RefusesScript catalog rest e ⊎ RefusesBehindScript catalog rest e → ⊥
  behind_fine rest e script told says (inl h) =
      script_fine laws catalog h.before h.line h.behind script.script report h.requests requests e (sym h.parts ∙ script.parts) h.fine script.asked told.begins says h.refused
  behind_fine rest e script told says (inr h) =
      let same : h.report ≡ report = one_report catalog h.script.script script.script h.report report h.requests requests (sym h.script.parts ∙ script.parts) h.script.asked script.asked h.script.begins told.begins in
      report_fine report e told.values says (subst (λ (xs : List Line). RefusesReport xs e) same h.refused)

  lines_fine : (first : Line) (rest : List Line) (e : InputError) → SaysCatalog first catalog → AreScript catalog rest requests report → AreOfReport report → says_nothing e ≡ false → RefusesAudit (first ∷ rest) e → ⊥
  lines_fine first rest e is script told says (inl h) = first_is_fine laws first catalog e is says h
  lines_fine first rest e is script told says (inr h) =
      let same : h.catalog ≡ catalog = one_said laws first h.catalog catalog h.says is in
      behind_fine rest e script told says (subst (λ (c : Catalog). RefusesScript c rest e ⊎ RefusesBehindScript c rest e) same h.refused)

  audit_fine : (lines : List Line) (e : InputError) → AuditLines lines catalog requests report → says_nothing e ≡ false → RefusesAudit lines e → ⊥
  audit_fine lines e are says h = lines_fine are.first are.rest e are.says are.script are.told says (subst (λ (ls : List Line). RefusesAudit ls e) are.parts h)

  fine_so : (input : List ℕ) (e : InputError) → Audits input catalog requests report → says_nothing e ≡ false → IsRefusedAudit input e → ⊥
  fine_so input (OfLine cause.NoMemory) audits says h = false≢true (sym says)
  fine_so input (OfLine cause.ReadFault) audits says h = false≢true (sym says)
  fine_so input (OfLine cause.InputTooLong) audits says h = let long : max_input < length input = h in let short : length input ≤ max_input = audits.within in omega arith
  fine_so input (OfLine (cause.LineTooLong n)) audits says h = audit_fine (lines_of input) (OfLine (cause.LineTooLong n)) audits.lines says h.1
  fine_so input (OfLine (cause.NotJson n)) audits says h = audit_fine (lines_of input) (OfLine (cause.NotJson n)) audits.lines says h.1
  fine_so input NoCatalog audits says h = audit_fine (lines_of input) NoCatalog audits.lines says h.1
  fine_so input (OfCatalog n e) audits says h = audit_fine (lines_of input) (OfCatalog n e) audits.lines says h.1
  fine_so input (OfRequest e) audits says h = audit_fine (lines_of input) (OfRequest e) audits.lines says h.1

  -- what refuses such an input says nothing of it
  pub audits_or_refused : (input : List ℕ) (e : InputError) → Audits input catalog requests report → IsRefusedAudit input e → says_nothing e ≡ true
  audits_or_refused input e audits h = silent (says_nothing e) (λ says. fine_so input e audits says h)
