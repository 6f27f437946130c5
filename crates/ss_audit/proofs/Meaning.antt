-- The entry that a line is about, by what the line says.
use Rattle.std.proofs.Common.{◌≡◌, ◌∙◌, ℕ, List, [], Option, Some, None, option_map, option_and_then, unwrap_or, refl, sym, ap}
use Rattle.serde_json.specs.Data.{Data}
use Rattle.ss_lemmas.proofs.Bools.{some_same}
use Rattle.ss_lines.specs.declared.line.Line.{Line}
use Rattle.ss_model.specs.declared.catalog.Catalog.{Catalog}
use Rattle.ss_model.specs.declared.entry.Request.{Request}
use Rattle.ss_report_lines.specs.declared.kind.LineKind.{LineKind}
use Rattle.ss_report_lines.specs.declared.kind.LineKind.TheVariants.{Reply, Call, Push, Install, Step, Table, Row, Done}
use Rattle.ss_report_lines.specs.Kinds.{kind_of}
use Rattle.ss_report_lines.specs.Said.{said}
use Rattle.ss_audit_laws.specs.Shape.{line_kind, line_text_at, text_at}
use Rattle.ss_audit_laws.specs.Checks.{Turns, asked_as, in_turn, meant, turned, turns_behind}
use Rattle.ss_audit.specs.Asked.{step_as}
use Rattle.ss_audit.specs.Positions.{asked_by}

-- ---- by the kind of a line

module _ (catalog : Catalog) (requests : List Request) (turns : Turns) (l : Line) where
  -- one that is about a request
  pub means_request : (k : Option LineKind) (client index : ℕ) → asked_by k ≡ Some (client, index) → meant catalog requests turns l k ≡ in_turn turns client index (asked_as requests client index)
  means_request None client index h = absurd (cc)
  means_request (Some (Reply n)) client index h = absurd (cc)
  means_request (Some (Call c i)) client index h = ap (λ (by : ℕ × ℕ). in_turn turns by.0 by.1 (asked_as requests by.0 by.1)) (some_same (c, i) (client, index) h)
  means_request (Some (Push c i)) client index h = ap (λ (by : ℕ × ℕ). in_turn turns by.0 by.1 (asked_as requests by.0 by.1)) (some_same (c, i) (client, index) h)
  means_request (Some (Install c i)) client index h = ap (λ (by : ℕ × ℕ). in_turn turns by.0 by.1 (asked_as requests by.0 by.1)) (some_same (c, i) (client, index) h)
  means_request (Some (Step r)) client index h = absurd (cc)
  means_request (Some (Table n)) client index h = absurd (cc)
  means_request (Some Row) client index h = absurd (cc)
  means_request (Some (Done n)) client index h = absurd (cc)

  -- and one that is about none
  pub means_step : (k : Option LineKind) → asked_by k ≡ None → meant catalog requests turns l k ≡ step_as catalog (line_text_at 2 l) k
  means_step None h = refl
  means_step (Some (Reply n)) h = refl
  means_step (Some (Call c i)) h = absurd (cc)
  means_step (Some (Push c i)) h = absurd (cc)
  means_step (Some (Install c i)) h = absurd (cc)
  means_step (Some (Step r)) h = refl
  means_step (Some (Table n)) h = refl
  means_step (Some Row) h = refl
  means_step (Some (Done n)) h = refl

-- the least indices behind a line that is about a request
pub turns_more : (turns : Turns) (k : Option LineKind) (client index : ℕ) → asked_by k ≡ Some (client, index) → turns_behind turns k ≡ turned turns client index
turns_more turns None client index h = absurd (cc)
turns_more turns (Some (Reply n)) client index h = absurd (cc)
turns_more turns (Some (Call c i)) client index h = ap (λ (by : ℕ × ℕ). turned turns by.0 by.1) (some_same (c, i) (client, index) h)
turns_more turns (Some (Push c i)) client index h = ap (λ (by : ℕ × ℕ). turned turns by.0 by.1) (some_same (c, i) (client, index) h)
turns_more turns (Some (Install c i)) client index h = ap (λ (by : ℕ × ℕ). turned turns by.0 by.1) (some_same (c, i) (client, index) h)
turns_more turns (Some (Step r)) client index h = absurd (cc)
turns_more turns (Some (Table n)) client index h = absurd (cc)
turns_more turns (Some Row) client index h = absurd (cc)
turns_more turns (Some (Done n)) client index h = absurd (cc)

-- and behind one that is about none
pub turns_stay : (turns : Turns) (k : Option LineKind) → asked_by k ≡ None → turns_behind turns k ≡ turns
turns_stay turns None h = refl
turns_stay turns (Some (Reply n)) h = refl
turns_stay turns (Some (Call c i)) h = absurd (cc)
turns_stay turns (Some (Push c i)) h = absurd (cc)
turns_stay turns (Some (Install c i)) h = absurd (cc)
turns_stay turns (Some (Step r)) h = refl
turns_stay turns (Some (Table n)) h = refl
turns_stay turns (Some Row) h = refl
turns_stay turns (Some (Done n)) h = refl

-- ---- by what it says

module _ (l : Line) (v : Data) (says : said l.bytes ≡ Some v) where
  -- the kind of a line is that of what it says
  pub kind_is : line_kind l ≡ kind_of v
  kind_is = ap (option_and_then kind_of) says

  -- and so is its text
  pub text_is : (n : ℕ) → line_text_at n l ≡ text_at n v
  text_is n = ap (λ (o : Option Data). unwrap_or (option_map (text_at n) o) []) says

  module _ (catalog : Catalog) (requests : List Request) (turns : Turns) (k : Option LineKind) (is : k ≡ kind_of v) where
    means_so : meant catalog requests turns l k ≡ meant catalog requests turns l (line_kind l)
    means_so = ap (meant catalog requests turns l) (is ∙ sym kind_is)

    -- the entry of a request that it is about
    pub request_meant : (client index : ℕ) → asked_by k ≡ Some (client, index) → in_turn turns client index (asked_as requests client index) ≡ meant catalog requests turns l (line_kind l)
    request_meant client index by = sym (means_request catalog requests turns l k client index by) ∙ means_so

    -- and the step
    pub step_meant : asked_by k ≡ None → step_as catalog (text_at 2 v) k ≡ meant catalog requests turns l (line_kind l)
    step_meant none = ap (λ (name : List ℕ). step_as catalog name k) (sym (text_is 2)) ∙ sym (means_step catalog requests turns l k none) ∙ means_so
